-- What the proof of every entry uses: no refusal has number 0, and the rules that are lent on are those that were read.
use Rattle.std.specs.Prelude.{◌≡◌, ℕ, List}
use Rattle.std.proofs.Common.{arith}
use Rattle.std.proofs.Math.Path.{ap}
use Rattle.std.proofs.Math.ListN.{length, take}
use Rattle.std.proofs.Math.Seq.{take_all}
use native.Mathlib.Nat.{le_refl}
use mathlib.Core.List.{map}
use Rattle.words.specs.Refusals.{code}
use Rattle.words.specs.Records.{rule_in}
use Rattle.words.specs.Words.{rules_in}
use Rattle.words.specs.declared.refusals.Refusal.{Refusal}
use Rattle.words.specs.declared.refusals.Refusal.TheVariants.{RuleSheetLength, NoSuchRule, QuestionMalformed, AnswerVariableNowhere}
use Rattle.words.specs.declared.refusals.Refusal.TheVariants.{AtomTwice}
use Rattle.words.specs.declared.refusals.Refusal.TheVariants.{UnionMalformed, FirstMemberNotQuestion, StepDoesNotApply, StepGivesAnother}
use Rattle.words.specs.declared.refusals.Refusal.TheVariants.{MembersAlike, UnionOpen, FactSheetLength, FactMalformed, ListTooShort}
use Rattle.words.specs.declared.refusals.Refusal.TheVariants.{TooManyQuestions, SheetTooShort, PairMalformed, HelperAsRole, NoAnswer}
use Rattle.words.specs.declared.refusals.Refusal.TheVariants.{StepsTooShort}

-- no refusal has number 0
pub numbered : (refusal : Refusal) → code refusal ≡ 0 → ⊥
numbered RuleSheetLength e = omega arith
numbered NoSuchRule e = omega arith
numbered QuestionMalformed e = omega arith
numbered AnswerVariableNowhere e = omega arith
numbered AtomTwice e = omega arith
numbered UnionMalformed e = omega arith
numbered FirstMemberNotQuestion e = omega arith
numbered StepDoesNotApply e = omega arith
numbered StepGivesAnother e = omega arith
numbered MembersAlike e = omega arith
numbered UnionOpen e = omega arith
numbered FactSheetLength e = omega arith
numbered FactMalformed e = omega arith
numbered ListTooShort e = omega arith
numbered TooManyQuestions e = omega arith
numbered SheetTooShort e = omega arith
numbered PairMalformed e = omega arith
numbered HelperAsRole e = omega arith
numbered NoAnswer e = omega arith
numbered StepsTooShort e = omega arith

pub rules_lent : (table : List ℕ) (n : ℕ) → rules_in (take n table) (length (take n table)) ≡ rules_in table n
unfolding rules_in
rules_lent table n = ap (map rule_in) (take_all (length (take n table)) (take n table) (le_refl (length (take n table))))
