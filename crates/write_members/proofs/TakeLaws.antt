-- The members taken in order, each with all its steps, from the question alone to all that are found.
use mathlib.Core.Path.{◌≡◌, sym, ap, ◌∙◌, subst}
use Prim.Native.Nat.{ℕ, ◌+◌, ◌≤◌, ◌<◌}
use native.Mathlib.Numerals.{add-one}
use native.Mathlib.Omega.{arith}
use mathlib.Core.Option.{some}
use mathlib.Core.List.{List, [], ◌∷◌, ◌++◌, flat_map}
use lib.ListN.{length, get_elem?, set}
use lib.Seq.{paste}
use borrow.Author.Rules.{rules}
use Rattle.theory.specs.Lists.{Unrepeated, numbers}
use Rattle.theory.specs.Syntax.{Rule, Query, Member, UCQ}
use Rattle.theory.specs.Writing.{by_rule, by_merge, steps_from, appended_all, with_steps_of, grown, written_union}
use Rattle.theory.specs.Laws.Scans.{records_length}
use Rattle.theory.proofs.Laws.WritingGrows.{extends_length, appended_all_append}
use Rattle.theory.proofs.Laws.WritingGrows.{appended_all_extends, grown_extends, grown_same}
use Rattle.words.specs.Limits.{most_members, most_atoms}
use Rattle.words.specs.Records.{step_of}
use Rattle.words.specs.Words.{query_of, Small, rules_in, union_in, word_atom, stride, table_words}
use Rattle.words.specs.declared.QueryWords.{QueryWords}
use Rattle.words.specs.Rows.{member_in, RowOf}
use Rattle.words.specs.Laws.Rows.{rows, union_at, rules_length}
use Rattle.words.specs.Laws.NewRows.{new_member}
use Rattle.query_key.specs.Key.{key}
use Rattle.std.specs.Prelude.{Result, Ok, Err, MatchResult}
use Rattle.words.specs.Refusals.{code}
use Rattle.words.specs.declared.refusals.Refusal.{Refusal}
use Rattle.write_members.specs.Members.{MembersFound, Held, TooMany, Appended, HoldsUnion, members_in}
use Rattle.write_members.proofs.MemberLaws.{members_length, found_rows, holds_longer}
use Rattle.write_members.proofs.LoopLaws.{found_few}

-- ---- all steps of a member

module _ (rules : List ℕ) (count : ℕ) (within : count ≤ length rules) (k : ℕ) (q : QueryWords) (s : Small q)
    (eight : length q.atoms ≡ most_atoms) (m : Member) (e : query_of q ≡ m.query) (u : UCQ) where
  abbrev rule_results : List Member
  rule_results = flat_map (λ i. flat_map (by_rule (rules_in rules count) k (query_of q) i) (numbers 0 count)) (numbers 0 q.size)

  abbrev merge_results : List Member
  merge_results = flat_map (λ i. flat_map (by_merge k (query_of q) i) (numbers 0 q.size)) (numbers 0 q.size)

  abbrev all_results : UCQ
  all_results = with_steps_of (rules_in rules count) k (some m) u

  size_is : length (query_of q).atoms ≡ q.size
  unfolding query_of
  size_is = records_length word_atom q.atoms q.size (let h = s.few_atoms in omega arith)

  steps_are : steps_from (rules_in rules count) k (query_of q) ≡ rule_results ++ merge_results
  unfolding steps_from
  steps_are = simp (rules_length rules count within, size_is)

  all_steps : appended_all (appended_all u rule_results) merge_results ≡ all_results
  unfolding with_steps_of
  all_steps =
      sym (appended_all_append u rule_results merge_results) ∙ ap (appended_all u) (sym steps_are)
      ∙ ap (λ p. appended_all u (steps_from (rules_in rules count) k p)) e

  -- the rules alone lead to more than are allowed
  pub rules_over : (refusal : Refusal) → TooMany (appended_all u rule_results) refusal → TooMany all_results refusal
  rules_over refusal over =
      let g : length (appended_all u rule_results) ≤ length all_results =
      subst (λ x. length (appended_all u rule_results) ≤ length x) all_steps
      (extends_length (appended_all u rule_results) _ (appended_all_extends (appended_all u rule_results) merge_results)) in
      let h = over.many in
      record { number_is = over.number_is; many = omega arith }

  pub then_merges : (table keys : List ℕ) (n : ℕ) → Held (appended_all u rule_results) table keys n
      → (later later-keys : List ℕ) (m : Result ℕ Refusal)
      → Appended (appended_all (union_in table n) merge_results) later later-keys m → Appended all_results later later-keys m
  then_merges table keys n held later later-keys m =
      subst (λ x. Appended x later later-keys m) (ap (λ x. appended_all x merge_results) held.union_is ∙ all_steps)

-- ---- the members in order

module _ (rules : List Rule) (q : Query) where
  -- k members have been taken
  pub record MembersTaken (k : ℕ) (table keys : List ℕ) (n : ℕ) : Type 0 where
    pub found : MembersFound table keys n
    pub union_is : union_in table n ≡ grown rules q k
    pub within : k ≤ n

  module _ (before before-keys : List ℕ) (n k : ℕ) (now : MembersTaken k before before-keys n) where
    pub taken_all : n ≤ k → Held (written_union most_members rules q) before before-keys n
    unfolding written_union
    taken_all g =
        let few = now.found.few in
        let h = now.within in
        let a : length (grown rules q k) ≡ n = ap length (sym now.union_is) ∙ members_length before n in
        record { found = now.found; union_is = now.union_is ∙ sym (grown_same rules q k most_members (omega arith) (omega arith)) }

    module _ (h : k < n) where
      one_more : with_steps_of rules k (some (member_in before k)) (union_in before n) ≡ grown rules q (k + 1)
      unfolding grown
      one_more =
          ap (λ o. with_steps_of rules k o (union_in before n)) (sym (union_at before n k h))
          ∙ ap (λ (u : UCQ). with_steps_of rules k (get_elem? u k) u) now.union_is ∙ ap (grown rules q) (sym (add-one k))

      module _ (table keys : List ℕ) (m : ℕ)
          (held : Held (with_steps_of rules k (some (member_in before k)) (union_in before n)) table keys m) where
        -- members are not lost
        kept_within : k + 1 ≤ m
        unfolding with_steps_of
        kept_within =
            let g : length (union_in before n) ≤ length (union_in table m) =
            subst (λ (u : UCQ). length (union_in before n) ≤ length u) (sym held.union_is)
            (extends_length (union_in before n) _
            (appended_all_extends (union_in before n) (steps_from rules k (member_in before k).query))) in
            let a = members_length before n in
            let b = members_length table m in
            omega arith

        pub taken_next : MembersTaken (k + 1) table keys m
        taken_next = record { found = held.found; union_is = held.union_is ∙ one_more; within = kept_within }

      pub taken_stop : (refusal : Refusal)
          → TooMany (with_steps_of rules k (some (member_in before k)) (union_in before n)) refusal
          → TooMany (written_union most_members rules q) refusal
      unfolding written_union
      taken_stop refusal over = record {
        number_is = over.number_is;
        many =
            (let few = now.found.few in
            let g : length (grown rules q (k + 1)) ≤ length (grown rules q most_members) =
            extends_length (grown rules q (k + 1)) (grown rules q most_members)
            (grown_extends rules q (k + 1) most_members (omega arith)) in
            let a : most_members < length (grown rules q (k + 1)) = subst (λ (u : UCQ). most_members < length u) one_more over.many in
            omega arith);
      }

-- what was appended, without the keys
holds_union : (union : UCQ) (table keys : List ℕ) (m : Result ℕ Refusal) → Appended union table keys m
    → HoldsUnion union table (members_in m)
holds_union union table keys (Ok n) held = record {
  rows = λ x. held.found.rows;
  union_is = λ x. held.union_is;
  many = λ x. (let few = held.found.few in absurd (omega arith));
}
holds_union union table keys (Err refusal) over = record {
  rows = λ x. absurd (omega arith);
  union_is = λ x. absurd (omega arith);
  many = λ x. over.many;
}

pub few_or_fifteen : (union : UCQ) (table keys : List ℕ) (m : Result ℕ Refusal) → Appended union table keys m
    → MatchResult m (λ n. n ≤ most_members) (λ refusal. code refusal ≡ 15)
few_or_fifteen union table keys (Ok n) held = held.found.few
few_or_fifteen union table keys (Err refusal) over = over.number_is

-- member 0 alone
pub taken_begin : (rules : List Rule) (table keys : List ℕ) → MembersFound table keys 1 → (member_in table 0).step ≡ step_of 0
    → MembersTaken rules (member_in table 0).query 0 table keys 1
unfolding union_in grown numbers step_of
taken_begin rules table keys f e = record {
  found = f;
  union_is = λ i. record { step = e i; query = (member_in table 0).query } ∷ [];
  within = omega arith;
}

-- the question put into an empty table
module _ (table keys later row : List ℕ) (q : QueryWords) (r : RowOf (record { step = step_of 0; query = query_of q }) row)
    (room : table_words ≤ length table) (e : later ≡ paste table 0 row stride) where
  none_yet : most_members ≤ length keys → MembersFound table keys 0
  none_yet l = record {
    few = omega arith;
    room = room;
    key_room = l;
    rows = record { long = omega arith; each = λ j h. absurd (omega arith) };
    keyed = record { room = omega arith; each = λ j h. absurd (omega arith) };
  }

  pub first_found : (v : ℕ) → most_members ≤ length keys → Small q → Unrepeated (query_of q).atoms → v ≡ key (query_of q)
      → MembersFound later (set keys 0 v) 1
  first_found v l s u k =
      (holds_longer table keys 0 (none_yet l) q 0 (omega arith) s u row r later v e k).found

  first_is : member_in later 0 ≡ record { step = step_of 0; query = query_of q }
  first_is =
      ap (λ t. member_in t 0) e
      ∙ new_member table row 0 record { step = step_of 0; query = query_of q } r
      record { long = omega arith; each = λ j h. absurd (omega arith) } (omega arith)

  pub first_step : (member_in later 0).step ≡ step_of 0
  first_step = ap (λ (m : Member). m.step) first_is

  pub first_asked : (rules : List Rule) (written written-keys : List ℕ) (m : Result ℕ Refusal)
      → Appended (written_union most_members rules (member_in later 0).query) written written-keys m
      → HoldsUnion (written_union most_members rules (query_of q)) written (members_in m)
  first_asked rules written written-keys m h =
      let P : Member → Type 0 = λ x. HoldsUnion (written_union most_members rules x.query) written (members_in m) in
      subst P first_is (holds_union (written_union most_members rules (member_in later 0).query) written written-keys m h)

pub ruleset member_steps = (rules, found_few, rows, found_rows, rules_over, then_merges)

pub ruleset member_loop = (rules, found_few, taken_begin, taken_all, taken_next, taken_stop)

pub ruleset first_member = (rules, first_found, first_step, first_asked, few_or_fifteen)
