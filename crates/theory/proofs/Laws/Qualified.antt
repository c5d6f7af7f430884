-- 02, T-04: the second reader finds the same tuples over rules as written and over the rules as read, so demand 3 holds of the readers from
-- now on: "giving each bearer one unnamed thing that has both role and filler". Sheets without such pairs mean what they meant.
use Rattle.std.specs.Prelude.{◌≡◌, refl, ◌↔◌, ℕ, zero, suc, ◌+◌, List, map}
use Rattle.std.proofs.Common.{sym, subst, inl, inr, arith}
use mathlib.Core.List.Memᴰ
use Rattle.theory.specs.Lists.{◌∈◌, At, Unrepeated}
use Rattle.theory.specs.Syntax.{Atom, Rule, Query, Member, UCQ, Fact, Thing, map_atom, value}
use Rattle.theory.specs.LostTags.{Answerable}
use Rattle.theory.specs.Chase.{Held, Round, Answer, InSomeRound, FirstReader, SecondReader}
use Rattle.theory.specs.Union.{Accepted, depth}
use Rattle.theory.specs.Qualified.{WrittenRule, plain, read_as, first_helper, rules_read, helpers_of, roles_of_atom, roles_of_rules}
use Rattle.theory.specs.Qualified.{roles_of_atoms, Meets18, PlacedRule, placed_rules}
use Rattle.theory.specs.QualifiedChase.{ConcludesAsWritten, RoundAsWritten, InSomeRoundAsWritten, SecondReaderAsWritten}
use Rattle.theory.specs.NamedRules.{RoundBy, RoundAsWrittenBy}
use Rattle.theory.specs.Laws.Lists.{mem_along, flat_map_of}
use Rattle.theory.proofs.Laws.Chase.{answer_more}
use Rattle.theory.proofs.Laws.Agreement.{readers_agree, by_depth}
use Rattle.theory.proofs.Laws.QualifiedPlaces.{read_at, placed_written, plain_read, plain_helpers}
use Rattle.theory.proofs.Laws.QualifiedWritten.{map_roles, concludes_more, written_in_read}
use Rattle.theory.proofs.Laws.QualifiedRead.{free_part, free_written, read_in_written}
use Rattle.theory.proofs.Laws.QualifiedReadBy.{Belongs, read_in_written_by}

-- what the theorem asks: helpers differ (few-helpers-distinct), and none stands in a written rule, the question or a fact (refusal 18)
pub record Apart (ws : List WrittenRule) (q : Query) (facts : List Fact) : Type 0 where
  pub helpers_differ : Unrepeated (helpers_of ws)
  pub clean_rules : ¬ Meets18 ws (roles_of_rules ws)
  pub clean_question : ¬ Meets18 ws (roles_of_atoms q.atoms)
  pub clean_facts : ¬ Meets18 ws (roles_of_atoms facts)

-- an answer over rules as written is there, over the rules as read, after twice as many rounds
pub answer_in_twice : (ws : List WrittenRule) (facts : List Fact) (n : ℕ) (q : Query) (tuple : List ℕ)
    → Answer (RoundAsWritten ws facts n) q tuple → Answer (Round (rules_read ws) facts (n + n)) q tuple
answer_in_twice ws facts n = answer_more (RoundAsWritten ws facts n) (Round (rules_read ws) facts (n + n)) (written_in_read ws facts n)

-- an answer of a question in which no helper stands asks only of atoms in which none stands
answer_free : (ws : List WrittenRule) (q : Query) (H H' : Held) → ¬ Meets18 ws (roles_of_atoms q.atoms)
    → ((a : Atom Thing) → ¬ Meets18 ws (roles_of_atom a) → H a → H' a) → (tuple : List ℕ) → Answer H q tuple → Answer H' q tuple
unfolding roles_of_atoms
answer_free ws q H H' clean more tuple w = record {
  match = w.match;
  holds = λ a m. (let b : Atom Thing = map_atom (value w.match) a in
      let roles : (P : ℕ) → P ∈ roles_of_atom b → P ∈ roles_of_atoms q.atoms =
      λ P k. flat_map_of roles_of_atom m (mem_along (map_roles (value w.match) a) k)
      in
      more b (free_part ws (roles_of_atom b) (roles_of_atoms q.atoms) roles clean) (w.holds a m));
  sends = w.sends;
}

module _ {ws : List WrittenRule} {q : Query} {facts : List Fact} (apart : Apart ws q facts) where
  -- an answer over the rules as read is there, over rules as written, in the same round
  pub answer_in_round : (n : ℕ) (tuple : List ℕ) → Answer (Round (rules_read ws) facts n) q tuple
      → Answer (RoundAsWritten ws facts n) q tuple
  answer_in_round n =
      answer_free ws q (Round (rules_read ws) facts n) (RoundAsWritten ws facts n) apart.clean_question
      (λ a free h. free_written ws facts n a free (read_in_written ws facts apart.helpers_differ apart.clean_rules apart.clean_facts n a h))

  -- and so it is where only some rules conclude
  pub answer_in_round_by : (only : ℕ → Type 0) (only' : PlacedRule → Type 0) → Belongs only only' ws → (n : ℕ) (tuple : List ℕ)
      → Answer (RoundBy only (rules_read ws) facts n) q tuple → Answer (RoundAsWrittenBy only' ws facts n) q tuple
  answer_in_round_by only only' belongs n =
      answer_free ws q (RoundBy only (rules_read ws) facts n) (RoundAsWrittenBy only' ws facts n) apart.clean_question
      (read_in_written_by only only' ws facts apart.helpers_differ apart.clean_rules apart.clean_facts belongs n)

  pub rounds_as_read_iff_written : (tuple : List ℕ) → InSomeRoundAsWritten ws q facts tuple ↔ InSomeRound (rules_read ws) q facts tuple
  rounds_as_read_iff_written tuple =
      (λ w. (w.0 + w.0, answer_in_twice ws facts w.0 q tuple w.1), λ w. (w.0, answer_in_round w.0 tuple w.1))

  -- the theorem on rules as written
  pub as_read_iff_written : (tuple : List ℕ) → SecondReaderAsWritten ws q facts tuple ↔ SecondReader (rules_read ws) q facts tuple
  as_read_iff_written tuple = (
    λ second. (second.0, (rounds_as_read_iff_written tuple).0 second.1),
    λ second. (second.0, (rounds_as_read_iff_written tuple).1 second.1),
  )

  module _ {union : UCQ} (members : (m : Member) → m ∈ union → Unrepeated m.query.atoms) (accepted : Accepted (rules_read ws) q union)
      (tuple : List ℕ) where
    -- demand 3, of rules as written
    pub readers_agree_as_written : FirstReader union facts tuple ↔ SecondReaderAsWritten ws q facts tuple
    readers_agree_as_written =
        let agree = readers_agree (rules_read ws) q union members accepted facts tuple in
        let same = as_read_iff_written tuple in
        (λ first. same.1 (agree.0 first), λ second. agree.1 (same.0 second))

    -- every answer is there by the round that it is there by over the rules as read
    pub by_depth_as_written : SecondReaderAsWritten ws q facts tuple
        ↔ (Answerable tuple × Answer (RoundAsWritten ws facts (depth union)) q tuple)
    by_depth_as_written = (
      λ second. (let w = (by_depth (rules_read ws) q union members accepted facts tuple).0 ((as_read_iff_written tuple).0 second) in
          (w.0, answer_in_round (depth union) tuple w.1)),
      λ w. (w.0, (depth union, w.1)),
    )

-- ---- sheets without pairs

module _ (rules : List Rule) where
  abbrev as_written : List WrittenRule
  as_written = map plain rules

  -- no helper is in use
  no_helper : (roles : List ℕ) → ¬ Meets18 as_written roles
  no_helper roles (H, m, n) = Memᴰ.not-nil (mem_along (plain_helpers rules) m)

  -- a placed rule is one of them, at its index
  plain_at : {p : PlacedRule} → p ∈ placed_rules as_written → (r : Rule) × (plain r ≡ p.rule) × At rules p.index r
  plain_at {p} m =
      let (r, k, e) = Memᴰ.of_map plain rules (placed_written 0 first_helper as_written m) in
      let d : p.index + 0 ≡ p.index = omega arith in
      let at = read_at as_written 0 m (subst (λ w. At (read_as p.helper w) 0 r) e refl) in
      (r, e, subst (λ rs. At rs p.index r) (plain_read rules) (subst (λ (j : ℕ). At (rules_read as_written) j r) d at))

  module _ (facts : List Fact) where
    -- one rule is read as one, so no round is added
    plain_in_read : (n : ℕ) (a : Atom Thing) → RoundAsWritten as_written facts n a → Round rules facts n a
    plain_in_read zero a h = h
    plain_in_read (suc n) a (inl h) = inl (plain_in_read n a h)
    plain_in_read (suc n) a (inr (p, m, c)) =
        let (r, e, at) = plain_at m in
        let d = subst (λ w. ConcludesAsWritten (RoundAsWritten as_written facts n) p.index w a) (sym e) c in
        inr (
          p.index,
          r,
          at,
          concludes_more (RoundAsWritten as_written facts n) (Round rules facts n) (λ b h. plain_in_read n b h) p.index r a d,
        )

    -- the rounds are the same
    pub plain_as_before : (n : ℕ) (a : Atom Thing) → RoundAsWritten (map plain rules) facts n a ↔ Round rules facts n a
    plain_as_before n a = (
      plain_in_read n a,
      λ h. free_written as_written facts n a (no_helper (roles_of_atom a))
          (read_in_written as_written facts (subst Unrepeated (sym (plain_helpers rules)) tt) (no_helper (roles_of_rules as_written))
          (no_helper (roles_of_atoms facts)) n a (subst (λ rs. Round rs facts n a) (sym (plain_read rules)) h)),
    )

    -- and so is what the second reader finds
    pub plain_reader_as_before : (q : Query) (tuple : List ℕ)
        → SecondReaderAsWritten (map plain rules) q facts tuple ↔ SecondReader rules q facts tuple
    plain_reader_as_before q tuple =
        let Written = RoundAsWritten as_written facts in
        let Read = Round rules facts in (
          λ (t, (n, w)). (t, (n, answer_more (Written n) (Read n) (λ a. (plain_as_before n a).0) q tuple w)),
          λ (t, (n, w)). (t, (n, answer_more (Read n) (Written n) (λ a. (plain_as_before n a).1) q tuple w)),
        )
