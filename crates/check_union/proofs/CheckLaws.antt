-- The first refusal that applies decides.
use mathlib.Core.Path.{◌≡◌, refl, sym, ◌∙◌}
use Prim.Native.Nat.{ℕ, ◌≤◌}
use native.Mathlib.Omega.{arith}
use mathlib.Core.Bool.{Bool, true, false}
use mathlib.Core.List.{List, [], ◌∷◌}
use lib.Dec.{leb}
use borrow.Author.Rules.{rules}
use borrow.Author.Tests.{leb-true}
use Rattle.theory.specs.Refusals.{first_refusal, number_of}
use Rattle.theory.specs.Syntax.{Rule, Query, UCQ}
use Rattle.theory.specs.Union.{refuses7, refuses8, refuses9, refuses10, refuses11, check}
use Rattle.words.specs.declared.refusals.Refusal.{Refusal}
use Rattle.words.specs.declared.refusals.Refusal.TheVariants.{RuleSheetLength, NoSuchRule, QuestionMalformed, AnswerVariableNowhere}
use Rattle.words.specs.declared.refusals.Refusal.TheVariants.{AtomTwice, UnionMalformed, FirstMemberNotQuestion, StepDoesNotApply}
use Rattle.words.specs.declared.refusals.Refusal.TheVariants.{StepGivesAnother, MembersAlike, UnionOpen, FactSheetLength}
use Rattle.words.specs.declared.refusals.Refusal.TheVariants.{FactMalformed, ListTooShort, TooManyQuestions, SheetTooShort}
use Rattle.words.specs.declared.refusals.Refusal.TheVariants.{PairMalformed, HelperAsRole, NoAnswer, StepsTooShort}
use Rattle.words.specs.Refusals.{code}
use Rattle.check_chains.specs.WalkLaws.{cleared}

-- a refusal's number is not 0
some_code : (r : Refusal) → leb 1 (code r) ≡ true
some_code RuleSheetLength = refl
some_code NoSuchRule = refl
some_code QuestionMalformed = refl
some_code AnswerVariableNowhere = refl
some_code AtomTwice = refl
some_code UnionMalformed = refl
some_code FirstMemberNotQuestion = refl
some_code StepDoesNotApply = refl
some_code StepGivesAnother = refl
some_code MembersAlike = refl
some_code UnionOpen = refl
some_code FactSheetLength = refl
some_code FactMalformed = refl
some_code ListTooShort = refl
some_code TooManyQuestions = refl
some_code SheetTooShort = refl
some_code PairMalformed = refl
some_code HelperAsRole = refl
some_code NoAnswer = refl
some_code StepsTooShort = refl

pub is_refusal : (r : Refusal) → code r ≡ 0 → ⊥
is_refusal r e = let l : 1 ≤ code r = leb-true 1 (code r) (some_code r) in omega arith

-- 10 and 11
abbrev last_two : List Rule → Query → UCQ → List (ℕ × Bool)
last_two rules q union = (10, refuses10 rules q union) ∷ (11, refuses11 rules q union) ∷ []

module _ (rules : List Rule) (union : UCQ) (a : Bool) (ten : (rs : List Rule) (p : Query) → a ≡ refuses10 rs p union) (q : Query) where
  pub gives_ten : a ≡ true → 10 ≡ number_of (first_refusal (last_two rules q union))
  unfolding first_refusal number_of
  gives_ten t = simp (sym (ten rules q), t)

  module _ (b : Bool) (eleven : (p : Query) → b ≡ refuses11 rules p union) (not-ten : a ≡ false) where
    pub gives_eleven : b ≡ true → 11 ≡ number_of (first_refusal (last_two rules q union))
    unfolding first_refusal number_of
    gives_eleven t = simp (sym (ten rules q), not-ten, sym (eleven q), t)

    pub gives_none : b ≡ false → 0 ≡ number_of (first_refusal (last_two rules q union))
    unfolding first_refusal number_of
    gives_none t = simp (sym (ten rules q), not-ten, sym (eleven q), t)

-- 8 and 9
abbrev middle_two : List Rule → Query → UCQ → List (ℕ × Bool)
middle_two rules q union = (8, refuses8 rules q union) ∷ (9, refuses9 rules q union) ∷ []

-- 8 and 9 decide, unless neither applies
module _ (later : List (ℕ × Bool)) where
  middle_decides : (a b : Bool) → (number_of (first_refusal ((8, a) ∷ (9, b) ∷ [])) ≡ 0 → ⊥)
      → number_of (first_refusal ((8, a) ∷ (9, b) ∷ [])) ≡ number_of (first_refusal ((8, a) ∷ (9, b) ∷ later))
  unfolding first_refusal number_of
  middle_decides true b h = refl
  middle_decides false true h = refl
  middle_decides false false h = absurd (h refl)

  later_decides : (a b : Bool) → number_of (first_refusal ((8, a) ∷ (9, b) ∷ [])) ≡ 0
      → number_of (first_refusal later) ≡ number_of (first_refusal ((8, a) ∷ (9, b) ∷ later))
  unfolding first_refusal number_of
  later_decides true b h = absurd (let z : ◌≡◌ {A = ℕ} 8 0 = h in omega arith)
  later_decides false true h = absurd (let z : ◌≡◌ {A = ℕ} 9 0 = h in omega arith)
  later_decides false false h = refl

-- 7, then these, then the rest
module _ (rules : List Rule) (q : Query) (union : UCQ) (a : Bool) (seven : (rs : List Rule) → a ≡ refuses7 rs q union) where
  pub gives_seven : a ≡ true → 7 ≡ number_of (check rules q union)
  unfolding check number_of
  gives_seven t = simp (sym (seven rules), t)

  module _ (m : ℕ) (middle : (p : Query) → m ≡ number_of (first_refusal (middle_two rules p union))) (not-seven : a ≡ false) where
    after_seven : number_of (check rules q union)
        ≡ number_of (first_refusal ((8, refuses8 rules q union) ∷ (9, refuses9 rules q union) ∷ last_two rules q union))
    unfolding check first_refusal
    after_seven = simp (sym (seven rules), not-seven)

    pub gives_middle : (m ≡ 0 → ⊥) → m ≡ number_of (check rules q union)
    gives_middle h =
        middle q ∙ middle_decides (last_two rules q union) (refuses8 rules q union) (refuses9 rules q union) (λ z. h (middle q ∙ z))
        ∙ sym after_seven

    pub gives_later : (r : ℕ) → m ≡ 0 → ((p : Query) → r ≡ number_of (first_refusal (last_two rules p union)))
        → r ≡ number_of (check rules q union)
    gives_later r z later =
        later q ∙ later_decides (last_two rules q union) (refuses8 rules q union) (refuses9 rules q union) (sym (middle q) ∙ z)
        ∙ sym after_seven

pub ruleset laws = (rules, cleared, is_refusal, gives_ten, gives_eleven, gives_none, gives_seven, gives_middle, gives_later)
