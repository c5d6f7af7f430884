-- What T-01 changes and what it leaves: which objects may stand in an answer, in 02's numbers; a tuple with a lost tag is found by neither
-- reader, and every other exactly when it was before; a lost tag among the answer terms leaves a question without answers; and one without
-- answer terms is as it was.
use Rattle.std.specs.Prelude.{◌≡◌, ◌⊎◌, ◌↔◌, ℕ, ◌≤◌, ◌<◌, List, [], map, T, ltb}
use Rattle.std.proofs.Common.{subst, inl, inr, arith, ltb→lt, lt→ltb}
use mathlib.Core.List.Memᴰ
use Rattle.theory.specs.Lists.{◌∈◌}
use Rattle.theory.specs.Syntax.{const, Query, Member, UCQ, Fact, Thing, object, value}
use Rattle.theory.specs.LostTags.{first_lost_tag, last_lost_tag, may_answer, Answerable}
use Rattle.theory.specs.Chase.{Held, Round, Answer, OfSomeMember, FirstReader}
use Rattle.theory.specs.Qualified.{WrittenRule}
use Rattle.theory.specs.QualifiedChase.{RoundAsWritten, InSomeRoundAsWritten, SecondReaderAsWritten}
use Rattle.theory.specs.Laws.Options.{T_or}

-- ---- the objects

-- "object numbers 65,024 to 65,535"
pub may_answer_iff : (o : ℕ) → T (may_answer o) ↔ ((o < 65024) ⊎ (65535 < o))
unfolding may_answer
may_answer_iff o = (
  λ t. elim ((T_or (ltb o first_lost_tag) (ltb last_lost_tag o)).0 t) [
    | inl l ↦ inl (ltb→lt o first_lost_tag l)
    | inr l ↦ inr (ltb→lt last_lost_tag o l)
  ],
  λ c. (T_or (ltb o first_lost_tag) (ltb last_lost_tag o)).1 (elim c [
    | inl l ↦ inl (lt→ltb o first_lost_tag l)
    | inr l ↦ inr (lt→ltb last_lost_tag o l)
  ]),
)

pub lost_tag : (o : ℕ) → 65024 ≤ o → o ≤ 65535 → ¬ T (may_answer o)
lost_tag o h k t = elim ((may_answer_iff o).0 t) [ inl l ↦ omega arith | inr l ↦ omega arith ]

-- ---- a tuple that holds one

module _ (tuple : List ℕ) (o : ℕ) (holds : o ∈ tuple) (first : 65024 ≤ o) (last : o ≤ 65535) where
  -- "Neither reader then finds such a tuple"
  pub first_passes_over : (union : UCQ) (facts : List Fact) → ¬ FirstReader union facts tuple
  first_passes_over union facts w = lost_tag o first last (w.0 o holds)

  pub second_passes_over : (rules : List WrittenRule) (q : Query) (facts : List Fact) → ¬ SecondReaderAsWritten rules q facts tuple
  second_passes_over rules q facts w = lost_tag o first last (w.0 o holds)

-- ---- one that holds none

-- "on all others they agree as before": such a tuple is found where some match sends the answer terms to it, and nothing more is asked
module _ (tuple : List ℕ) (none_lost : (o : ℕ) → o ∈ tuple → (o < 65024) ⊎ (65535 < o)) where
  pub may_be_answer : Answerable tuple
  may_be_answer o m = (may_answer_iff o).1 (none_lost o m)

  pub first_as_before : (union : UCQ) (facts : List Fact)
      → FirstReader union facts tuple ↔ ((m : Member) × (m ∈ union) × Answer (Round [] facts 0) m.query tuple)
  first_as_before union facts = (λ w. w.1, λ w. (may_be_answer, w))

  pub second_as_before : (rules : List WrittenRule) (q : Query) (facts : List Fact)
      → SecondReaderAsWritten rules q facts tuple ↔ ((n : ℕ) × Answer (RoundAsWritten rules facts n) q tuple)
  second_as_before rules q facts = (λ w. w.1, λ w. (may_be_answer, w))

-- the tuple of a question without answer terms holds none
pub first_without_terms : (union : UCQ) (facts : List Fact) → FirstReader union facts [] ↔ OfSomeMember union facts []
first_without_terms = first_as_before [] (λ o m. absurd (Memᴰ.not-nil m))

pub second_without_terms : (rules : List WrittenRule) (q : Query) (facts : List Fact)
    → SecondReaderAsWritten rules q facts [] ↔ InSomeRoundAsWritten rules q facts []
second_without_terms = second_as_before [] (λ o m. absurd (Memᴰ.not-nil m))

-- ---- one among the answer terms

-- an object among the answer terms stands in every answer
pub literal_stands : (H : Held) (q : Query) (tuple : List ℕ) → Answer H q tuple → (c : ℕ) → const c ∈ q.answers → c ∈ tuple
literal_stands H q tuple w c m =
    let sent : object c ∈ map object tuple = subst (λ l. object c ∈ l) w.sends (Memᴰ.map (value w.match) m) in
    let r = Memᴰ.of_map object tuple sent in
    let e : r.0 ≡ c = object_same r.0 c r.2 in
    subst (λ d. d ∈ tuple) e r.1
  where
    object_same : (a b : ℕ) → ◌≡◌ {A = Thing} (object a) (object b) → a ≡ b
    object_same a b e = cc

-- so the question has no answers if it is a lost tag
pub literal_lost : (rules : List WrittenRule) (q : Query) (facts : List Fact) (tuple : List ℕ) (c : ℕ) → const c ∈ q.answers → 65024 ≤ c
    → c ≤ 65535 → ¬ SecondReaderAsWritten rules q facts tuple
literal_lost rules q facts tuple c m first last w =
    second_passes_over tuple c (literal_stands (RoundAsWritten rules facts w.1.0) q tuple w.1.1 c m) first last rules q facts w
