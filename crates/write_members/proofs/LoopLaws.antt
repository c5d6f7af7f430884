-- The order in which results are appended: the loops over rules, atoms and pairs.
use mathlib.Core.Path.{◌≡◌, refl, sym, ap, ◌∙◌, subst}
use Prim.Native.Nat.{ℕ, zero, suc, ◌+◌, ◌-◌, ◌≤◌, ◌<◌}
use native.Mathlib.Numerals.{add-one}
use native.Mathlib.Decide.{ℕ_discrete}
use native.Mathlib.Omega.{arith}
use mathlib.Core.Bool.{Bool, true, false}
use mathlib.Core.Option.{Option, none, some}
use mathlib.Core.List.{List, [], flat_map}
use lib.Dec.{T, eqb→eq}
use lib.ListN.{length, get_or}
use borrow.Author.Rules.{rules}
use borrow.Author.Tests.{le-ltb}
use Rattle.theory.specs.Lists.{At, any, numbers}
use Rattle.theory.specs.Syntax.{Rule, Query, Step, Member, UCQ}
use Rattle.theory.specs.Rewriting.{rule_step, merge_step}
use Rattle.theory.specs.Writing.{stepped, by_rule, by_merge, appended_all}
use Rattle.theory.specs.Laws.Lists.{any_iff, numbers_iff}
use Rattle.theory.specs.Laws.Scans.{rest_cons, rest_nil, all_left}
use Rattle.theory.specs.Laws.WritingGrows.{AlikeIn}
use Rattle.theory.proofs.Laws.WritingGrows.{extends_length, alike_extends, appended_alike, appended_all_append}
use Rattle.theory.proofs.Laws.WritingGrows.{appended_all_extends, appended_all_covers, found_stepped}
use Rattle.words.specs.Limits.{most_members}
use Rattle.words.specs.Records.{rule_in, step_of}
use Rattle.words.specs.Words.{query_of, Small, rules_in, union_in, word_atom}
use Rattle.words.specs.declared.QueryWords.{QueryWords}
use Rattle.words.specs.Laws.Rows.{rule_there}
use Rattle.query_rule.specs.RuleOnAtom.{names, unnamed_none}
use Rattle.std.specs.Prelude.{Option as Made, Result, Ok, Err}
use Rattle.words.specs.declared.refusals.Refusal.{Refusal}
use Rattle.query_steps.specs.StepResults.{query_found}
use Rattle.query_steps.proofs.StepLaws.{atom_at_lem}
use Rattle.check_steps.proofs.WrittenLaws.{rule_steps}
use Rattle.check_closed.proofs.ClosureLaws.{same_word, merge_sound}
use Rattle.write_members.specs.Members.{MembersFound, Held, TooMany, Appended, Tried}
use Rattle.write_members.proofs.MemberLaws.{holds_itself}

-- ---- a loop that appends, for each number below `end` in order, what f gives

-- what is left from i on makes the goal of the members so far
pub record LeftToAppend (f : ℕ → List Member) (end : ℕ) (goal : UCQ) (i : ℕ) (u : UCQ) : Type 0 where
  pub makes : appended_all u (flat_map f (numbers i (end - i))) ≡ goal

module _ (f : ℕ → List Member) (end : ℕ) (goal : UCQ) where
  pub left_begins : (u : UCQ) → appended_all u (flat_map f (numbers 0 end)) ≡ goal → LeftToAppend f end goal 0 u
  left_begins u e = record { makes = ap (λ l. appended_all u (flat_map f l)) (all_left end) ∙ e }

  module _ (i : ℕ) (u : UCQ) (left : LeftToAppend f end goal i u) where
    later : i < end → appended_all (appended_all u (f i)) (flat_map f (numbers (i + 1) (end - (i + 1)))) ≡ goal
    unfolding flat_map
    later h =
        sym (appended_all_append u (f i) (flat_map f (numbers (i + 1) (end - (i + 1)))))
        ∙ sym (ap (λ l. appended_all u (flat_map f l)) (rest_cons i end h)) ∙ left.makes

    pub left_next : (v : UCQ) → i < end → v ≡ appended_all u (f i) → LeftToAppend f end goal (i + 1) v
    left_next v h e = record { makes = ap (λ x. appended_all x (flat_map f (numbers (i + 1) (end - (i + 1))))) e ∙ later h }

    pub left_over : i < end → most_members < length (appended_all u (f i)) → most_members < length goal
    left_over h l =
        let g : length (appended_all u (f i)) ≤ length goal =
        subst (λ x. length (appended_all u (f i)) ≤ length x) (later h)
        (extends_length (appended_all u (f i)) _
        (appended_all_extends (appended_all u (f i)) (flat_map f (numbers (i + 1) (end - (i + 1)))))) in
        omega arith

    pub left_done : end ≤ i → u ≡ goal
    unfolding flat_map appended_all
    left_done h = sym (ap (λ l. appended_all u (flat_map f l)) (rest_nil i end h)) ∙ left.makes

    left_empty : i < end → f i ≡ [] → LeftToAppend f end goal (i + 1) u
    unfolding appended_all
    left_empty h e = left_next u h (sym (ap (appended_all u) e))

  -- the first k give nothing
  left_skip : (u : UCQ) → LeftToAppend f end goal 0 u → (k : ℕ) → k ≤ end → ((j : ℕ) → j < k → f j ≡ []) → LeftToAppend f end goal k u
  left_skip u left zero h e = left
  left_skip u left (suc k) h e =
      subst (λ j. LeftToAppend f end goal j u) (add-one k)
      (left_empty k u (left_skip u left k (omega arith) (λ j l. e j (omega arith))) (omega arith) (e k (omega arith)))

  -- ---- the same of a table

  module _ (table keys : List ℕ) (m i : ℕ) where
    pub loop_done : MembersFound table keys m → LeftToAppend f end goal i (union_in table m) → end ≤ i → Held goal table keys m
    loop_done found left h = holds_itself goal table keys m found (left_done i (union_in table m) left h)

  module _ (u : UCQ) (i : ℕ) (left : LeftToAppend f end goal i u) (h : i < end) where
    pub loop_over : (refusal : Refusal) → TooMany (appended_all u (f i)) refusal → TooMany goal refusal
    loop_over refusal over = record { number_is = over.number_is; many = left_over i u left h over.many }

    pub loop_next : (table keys : List ℕ) (m : ℕ) → Held (appended_all u (f i)) table keys m
        → LeftToAppend f end goal (i + 1) (union_in table m)
    loop_next table keys m held = left_next i u left (union_in table m) h held.union_is

-- ---- rules

-- equal words are equal steps
same_step : (rules : List ℕ) (count : ℕ) (within : count ≤ length rules) (q : Query) (i j k : ℕ) → j < count → k < count
    → get_or rules j 0 ≡ get_or rules k 0 → rule_step (rules_in rules count) q i j ≡ rule_step (rules_in rules count) q i k
unfolding rule_step
same_step rules count within q i j k g h e = simp (rule_there rules count within j g, rule_there rules count within k h, e)

-- what one rule makes of one atom
module _ (rules : List ℕ) (count : ℕ) (within : count ≤ length rules) (parent : ℕ) (q : QueryWords) (i k : ℕ) (h : k < count)
    (table keys : List ℕ) (n : ℕ) where
  abbrev in_table : List Rule
  in_table = rules_in rules count

  abbrev ruled : UCQ
  ruled = appended_all (union_in table n) (by_rule in_table parent (query_of q) i k)

  abbrev rule_of : Step
  rule_of = record { kind = 1; parent = parent; atom = i; other = k }

  pub by_rule_lem : (r : Made QueryWords) (step : ℕ) (later later-keys : List ℕ) (m : Result ℕ Refusal)
      → ((rs : List Rule) (l : ℕ) → At rs l (rule_in (get_or rules k 0)) → query_found r ≡ rule_step rs (query_of q) i l)
      → step_of step ≡ rule_of
      → Appended (appended_all (union_in table n) (stepped (step_of step) (query_found r))) later later-keys m
      → Appended ruled later later-keys m
  unfolding by_rule
  by_rule_lem r step later later-keys m f e holds =
      subst (λ u. Appended u later later-keys m)
      (ap (λ s. appended_all (union_in table n) (stepped s (query_found r))) e
      ∙ ap (λ o. appended_all (union_in table n) (stepped rule_of o)) (rule_steps rules count within r q i k h f))
      holds

  -- a rule for another predicate makes nothing
  pub unnamed : (b : Bool) → MembersFound table keys n → length q.atoms ≡ 8 → Small q → i < q.size
      → b ≡ names (rule_in (get_or rules k 0)) (word_atom (get_or q.atoms i 0)) → b ≡ false → Held ruled table keys n
  unfolding by_rule rule_step stepped appended_all
  unnamed b found l s g e f =
      let none_made = unnamed_none (query_of q) (rule_in (get_or rules k 0)) (word_atom (get_or q.atoms i 0)) (sym e ∙ f) in
      let no_step : rule_step in_table (query_of q) i k
      ≡ none = simp (rule_there rules count within k h, atom_at_lem q i l s g, ← none_made) in
      holds_itself ruled table keys n found (sym (ap (λ o. appended_all (union_in table n) (stepped rule_of o)) no_step))

  -- what is alike to a member is not appended
  tried_before : (o : Option Query) → ((r : Query) → o ≡ some r → AlikeIn r (union_in table n))
      → appended_all (union_in table n) (stepped rule_of o) ≡ union_in table n
  unfolding stepped appended_all
  tried_before none f = refl
  tried_before (some r) f = appended_alike (union_in table n) record { step = rule_of; query = r } (f r refl)

  -- nor what a word that stands earlier makes
  pub second_try : (b : Bool) → MembersFound table keys n → Tried in_table (query_of q) i k (union_in table n)
      → b ≡ any (same_word rules k) (numbers 0 k) → b ≡ true → Held ruled table keys n
  unfolding by_rule
  second_try b found tried e f =
      let (j, m, t) = (any_iff (same_word rules k) (numbers 0 k)).0 (subst T (sym (sym e ∙ f)) tt) in
      let l = (numbers_iff k j).0 m in
      holds_itself ruled table keys n found (sym (tried_before (rule_step in_table (query_of q) i k)
      (λ r d. tried.each j r l
      (same_step rules count within (query_of q) i j k (omega arith) h (eqb→eq (get_or rules j 0) (get_or rules k 0) t) ∙ d))))

-- the rules tried so far
pub none_tried : (rules : List Rule) (q : Query) (i : ℕ) (union : UCQ) → Tried rules q i 0 union
none_tried rules q i union = record { each = λ j r h. absurd (omega arith) }

module _ (rules : List Rule) (parent : ℕ) (q : Query) (i k : ℕ) (u : UCQ) where
  tried_now : (r : Query) → rule_step rules q i k ≡ some r → AlikeIn r (appended_all u (by_rule rules parent q i k))
  unfolding by_rule
  tried_now r e =
      appended_all_covers u (stepped record { kind = 1; parent = parent; atom = i; other = k } (rule_step rules q i k))
      (found_stepped rules q record { kind = 1; parent = parent; atom = i; other = k } (rule_step rules q i k) e)

  pub one_more_tried : (table keys : List ℕ) (m : ℕ) → Tried rules q i k u
      → Held (appended_all u (by_rule rules parent q i k)) table keys m → Tried rules q i (k + 1) (union_in table m)
  one_more_tried table keys m tried held =
      subst (Tried rules q i (k + 1)) (sym held.union_is) record {
        each = λ j r h e. elim (ℕ_discrete j k) [
          | yes d ↦ tried_now r (ap (rule_step rules q i) (sym d) ∙ e)
          | no d ↦ alike_extends r u (appended_all u (by_rule rules parent q i k)) (appended_all_extends u (by_rule rules parent q i k))
              (tried.each j r (omega arith) e)
        ];
      }

-- ---- merges

module _ (parent : ℕ) (q : QueryWords) (i j : ℕ) where
  pub by_merge_lem : (u : UCQ) (r : Made QueryWords) (step : ℕ) (later later-keys : List ℕ) (m : Result ℕ Refusal)
      → query_found r ≡ merge_step (query_of q) i j
      → step_of step ≡ record { kind = 2; parent = parent; atom = i; other = j }
      → Appended (appended_all u (stepped (step_of step) (query_found r))) later later-keys m
      → Appended (appended_all u (by_merge parent (query_of q) i j)) later later-keys m
  unfolding by_merge
  by_merge_lem u r step later later-keys m e f holds =
      subst (λ x. Appended x later later-keys m)
      (ap (λ s. appended_all u (stepped s (query_found r))) f
      ∙ ap (λ o. appended_all u (stepped record { kind = 2; parent = parent; atom = i; other = j } o)) e)
      holds

  -- no atom is merged with itself or an earlier one
  not_merged : j < i + 1 → by_merge parent (query_of q) i j ≡ []
  unfolding by_merge merge_step stepped
  not_merged h = simp (le-ltb i j (omega arith))

pub merges_begin : (parent : ℕ) (q : QueryWords) (i size : ℕ) (u : UCQ) → i < size
    → LeftToAppend (by_merge parent (query_of q) i) size (appended_all u (flat_map (by_merge parent (query_of q) i) (numbers 0 size)))
    (i + 1) u
merges_begin parent q i size u h =
    left_skip (by_merge parent (query_of q) i) size goal u (left_begins (by_merge parent (query_of q) i) size goal u refl) (i + 1)
    (omega arith)
    (λ j l. not_merged parent q i j l)
  where
    goal : UCQ
    goal = appended_all u (flat_map (by_merge parent (query_of q) i) (numbers 0 size))

pub found_few : (table keys : List ℕ) (n : ℕ) → MembersFound table keys n → n ≤ most_members
found_few table keys n f = f.few

-- ---- the four loops: what holds before each turn

-- the rules in order on one atom
module _ (rules : List Rule) (count parent : ℕ) (q : Query) (i : ℕ) (goal : UCQ) where
  pub record RulesLeft (k : ℕ) (table keys : List ℕ) (n : ℕ) : Type 0 where
    pub found : MembersFound table keys n
    pub left : LeftToAppend (by_rule rules parent q i) count goal k (union_in table n)
    pub tried : Tried rules q i k (union_in table n)

  module _ (before before-keys : List ℕ) (n k : ℕ) (now : RulesLeft k before before-keys n) where
    pub rules_done : count ≤ k → Held goal before before-keys n
    rules_done h = loop_done (by_rule rules parent q i) count goal before before-keys n k now.found now.left h

    module _ (h : k < count) where
      pub rules_stop : (refusal : Refusal) → TooMany (appended_all (union_in before n) (by_rule rules parent q i k)) refusal
          → TooMany goal refusal
      rules_stop = loop_over (by_rule rules parent q i) count goal (union_in before n) k now.left h

      pub rules_next : (table keys : List ℕ) (m : ℕ)
          → Held (appended_all (union_in before n) (by_rule rules parent q i k)) table keys m → RulesLeft (k + 1) table keys m
      rules_next table keys m held = record {
        found = held.found;
        left = loop_next (by_rule rules parent q i) count goal (union_in before n) k now.left h table keys m held;
        tried = one_more_tried rules parent q i k (union_in before n) table keys m now.tried held;
      }

pub rules_begin : (rules : List Rule) (count parent : ℕ) (q : Query) (i : ℕ) (table keys : List ℕ) (n : ℕ) → MembersFound table keys n
    → RulesLeft rules count parent q i (appended_all (union_in table n)
    (flat_map (by_rule rules parent q i) (numbers 0 count))) 0 table keys n
rules_begin rules count parent q i table keys n f = record {
  found = f;
  left = left_begins (by_rule rules parent q i) count
      (appended_all (union_in table n) (flat_map (by_rule rules parent q i) (numbers 0 count))) (union_in table n) refl;
  tried = none_tried rules q i (union_in table n);
}

-- the atoms in order
module _ (rules : List Rule) (count parent : ℕ) (q : Query) (size : ℕ) (goal : UCQ) where
  abbrev by_rules : ℕ → List Member
  by_rules i = flat_map (by_rule rules parent q i) (numbers 0 count)

  pub record AtomsLeft (i : ℕ) (table keys : List ℕ) (n : ℕ) : Type 0 where
    pub found : MembersFound table keys n
    pub left : LeftToAppend by_rules size goal i (union_in table n)

  module _ (before before-keys : List ℕ) (n i : ℕ) (now : AtomsLeft i before before-keys n) where
    pub atoms_done : size ≤ i → Held goal before before-keys n
    atoms_done h = loop_done by_rules size goal before before-keys n i now.found now.left h

    module _ (h : i < size) where
      pub atoms_stop : (refusal : Refusal)
          → TooMany (appended_all (union_in before n) (flat_map (by_rule rules parent q i) (numbers 0 count))) refusal
          → TooMany goal refusal
      atoms_stop = loop_over by_rules size goal (union_in before n) i now.left h

      pub atoms_next : (table keys : List ℕ) (m : ℕ)
          → Held (appended_all (union_in before n) (flat_map (by_rule rules parent q i) (numbers 0 count))) table keys m
          → AtomsLeft (i + 1) table keys m
      atoms_next table keys m held = record {
        found = held.found;
        left = loop_next by_rules size goal (union_in before n) i now.left h table keys m held;
      }

pub atoms_begin : (rules : List Rule) (count parent : ℕ) (q : Query) (size : ℕ) (table keys : List ℕ) (n : ℕ) → MembersFound table keys n
    → AtomsLeft rules count parent q size
    (appended_all (union_in table n) (flat_map (λ i. flat_map (by_rule rules parent q i) (numbers 0 count))
    (numbers 0 size))) 0 table keys n
atoms_begin rules count parent q size table keys n f = record {
  found = f;
  left = left_begins (λ i. flat_map (by_rule rules parent q i) (numbers 0 count)) size
      (appended_all (union_in table n) (flat_map (λ i. flat_map (by_rule rules parent q i) (numbers 0 count)) (numbers 0 size)))
      (union_in table n) refl;
}

-- the later atoms in order
module _ (parent : ℕ) (q : QueryWords) (i size : ℕ) (goal : UCQ) where
  pub record LaterLeft (j : ℕ) (table keys : List ℕ) (n : ℕ) : Type 0 where
    pub found : MembersFound table keys n
    pub left : LeftToAppend (by_merge parent (query_of q) i) size goal j (union_in table n)

  module _ (before before-keys : List ℕ) (n j : ℕ) (now : LaterLeft j before before-keys n) where
    pub later_done : size ≤ j → Held goal before before-keys n
    later_done h = loop_done (by_merge parent (query_of q) i) size goal before before-keys n j now.found now.left h

    module _ (r : Made QueryWords) (step : ℕ) (h : j < size) (e : query_found r ≡ merge_step (query_of q) i j)
        (f : step_of step ≡ record { kind = 2; parent = parent; atom = i; other = j }) where
      pub later_stop : (refusal : Refusal)
          → TooMany (appended_all (union_in before n) (stepped (step_of step) (query_found r))) refusal → TooMany goal refusal
      later_stop refusal over =
          loop_over (by_merge parent (query_of q) i) size goal (union_in before n) j now.left h refusal
          (by_merge_lem parent q i j (union_in before n) r step before before-keys (Err refusal) e f over)

      pub later_next : (table keys : List ℕ) (m : ℕ)
          → Held (appended_all (union_in before n) (stepped (step_of step) (query_found r))) table keys m
          → LaterLeft (j + 1) table keys m
      later_next table keys m held = record {
        found = held.found;
        left = loop_next (by_merge parent (query_of q) i) size goal (union_in before n) j now.left h table keys m
            (by_merge_lem parent q i j (union_in before n) r step table keys (Ok m) e f held);
      }

pub later_begin : (parent : ℕ) (q : QueryWords) (i size : ℕ) (table keys : List ℕ) (n : ℕ) → MembersFound table keys n → i < size
    → LaterLeft parent q i size (appended_all (union_in table n) (flat_map (by_merge parent (query_of q) i) (numbers 0 size)))
    (i + 1) table keys n
later_begin parent q i size table keys n f h = record { found = f; left = merges_begin parent q i size (union_in table n) h }

-- the earlier atoms in order
module _ (parent : ℕ) (q : Query) (size : ℕ) (goal : UCQ) where
  abbrev by_merges : ℕ → List Member
  by_merges i = flat_map (by_merge parent q i) (numbers 0 size)

  pub record PairsLeft (i : ℕ) (table keys : List ℕ) (n : ℕ) : Type 0 where
    pub found : MembersFound table keys n
    pub left : LeftToAppend by_merges size goal i (union_in table n)

  module _ (before before-keys : List ℕ) (n i : ℕ) (now : PairsLeft i before before-keys n) where
    pub pairs_done : size ≤ i → Held goal before before-keys n
    pairs_done h = loop_done by_merges size goal before before-keys n i now.found now.left h

    module _ (h : i < size) where
      pub pairs_stop : (refusal : Refusal)
          → TooMany (appended_all (union_in before n) (flat_map (by_merge parent q i) (numbers 0 size))) refusal → TooMany goal refusal
      pairs_stop = loop_over by_merges size goal (union_in before n) i now.left h

      pub pairs_next : (table keys : List ℕ) (m : ℕ)
          → Held (appended_all (union_in before n) (flat_map (by_merge parent q i) (numbers 0 size))) table keys m
          → PairsLeft (i + 1) table keys m
      pairs_next table keys m held = record {
        found = held.found;
        left = loop_next by_merges size goal (union_in before n) i now.left h table keys m held;
      }

pub pairs_begin : (parent : ℕ) (q : Query) (size : ℕ) (table keys : List ℕ) (n : ℕ) → MembersFound table keys n
    → PairsLeft parent q size
    (appended_all (union_in table n) (flat_map (λ i. flat_map (by_merge parent q i) (numbers 0 size)) (numbers 0 size))) 0 table keys n
pairs_begin parent q size table keys n f = record {
  found = f;
  left = left_begins (λ i. flat_map (by_merge parent q i) (numbers 0 size)) size
      (appended_all (union_in table n) (flat_map (λ i. flat_map (by_merge parent q i) (numbers 0 size)) (numbers 0 size)))
      (union_in table n) refl;
}

pub ruleset rule_tries = (rules, by_rule_lem, unnamed, second_try)

pub ruleset rule_loop = (rules, found_few, rules_begin, rules_done, rules_stop, rules_next)

pub ruleset atom_loop = (rules, found_few, atoms_begin, atoms_done, atoms_stop, atoms_next)

pub ruleset later_loop = (rules, found_few, later_begin, merge_sound, later_done, later_stop, later_next)

pub ruleset pair_loop = (rules, found_few, pairs_begin, pairs_done, pairs_stop, pairs_next)
