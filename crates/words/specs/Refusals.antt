-- The numbers of the refusals, 0 for none; and what a call that may refuse gives, as a number and a value.
use Rattle.std.specs.Prelude.{ℕ, Result, Ok, Err}
use Rattle.words.specs.declared.refusals.Refusal.{Refusal}
use Rattle.words.specs.declared.refusals.Refusal.TheVariants.{RuleSheetLength, NoSuchRule, QuestionMalformed, AnswerVariableNowhere}
use Rattle.words.specs.declared.refusals.Refusal.TheVariants.{AtomTwice}
use Rattle.words.specs.declared.refusals.Refusal.TheVariants.{UnionMalformed, FirstMemberNotQuestion, StepDoesNotApply, StepGivesAnother}
use Rattle.words.specs.declared.refusals.Refusal.TheVariants.{MembersAlike, UnionOpen, FactSheetLength, FactMalformed, ListTooShort}
use Rattle.words.specs.declared.refusals.Refusal.TheVariants.{TooManyQuestions, SheetTooShort, PairMalformed, HelperAsRole, NoAnswer}
use Rattle.words.specs.declared.refusals.Refusal.TheVariants.{StepsTooShort}

-- the number of a refusal
abbrev pub code : Refusal → ℕ
code RuleSheetLength = 1
code NoSuchRule = 2
code QuestionMalformed = 3
code AnswerVariableNowhere = 4
code AtomTwice = 5
code UnionMalformed = 6
code FirstMemberNotQuestion = 7
code StepDoesNotApply = 8
code StepGivesAnother = 9
code MembersAlike = 10
code UnionOpen = 11
code FactSheetLength = 12
code FactMalformed = 13
code ListTooShort = 14
code TooManyQuestions = 15
code SheetTooShort = 16
code PairMalformed = 17
code HelperAsRole = 18
code NoAnswer = 19
code StepsTooShort = 20

-- "A refusal returns its number [..]. A call that isn't refused returns number 0"
abbrev pub number_in : {A : Type 0} → Result A Refusal → ℕ
number_in (Ok x) = 0
number_in (Err refusal) = code refusal

-- what is counted, 0 on a refusal
abbrev pub count_in : Result ℕ Refusal → ℕ
count_in (Ok n) = n
count_in (Err refusal) = 0
