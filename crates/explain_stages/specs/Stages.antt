-- What explaining gives from the fact sheet on, from the union sheet on, and from the question on.
use Rattle.std.specs.Prelude.{ℕ, Bool, ◌||◌, List}
use Rattle.theory.specs.Refusals.{first_refusal, otherwise}
use Rattle.theory.specs.Syntax.{Rule, Query, UCQ}
use Rattle.theory.specs.Qualified.{roles_of_atoms}
use Rattle.words.specs.Limits.{sheet_width}
use Rattle.sheets.specs.Format.{term_count}
use Rattle.sheets.specs.Reading.{question_as_read, union_as_read, facts_as_read}
use Rattle.sheets.specs.Refusals.{question_refusals, number_of}
use Rattle.promises.specs.Laws.Telling.{TellsBehind}
use Rattle.read_helpers.specs.InUse.{clashing}
use Rattle.check_sheet.specs.Members.{union_number}
use Rattle.answer_stages.specs.Stages.{facts_number, clash_number}

-- 12, 13 and 18
abbrev pub from_facts : List ℕ → List ℕ → ℕ → Bool → ℕ
from_facts partners facts helpers clash = otherwise (facts_number facts)
    (clash_number clash helpers (facts_as_read partners sheet_width facts))

-- from a fact sheet on: 12, 13, 18, 19 and 20, or the steps
abbrev pub TellsFromFacts : List ℕ → List Rule → List ℕ → UCQ → ℕ → ℕ → Bool → List ℕ → ℕ → ℕ → ℕ → List ℕ → Type 0
TellsFromFacts partners rules facts union terms helpers clash tuple room number count list =
    TellsBehind rules (facts_as_read partners sheet_width facts) union terms tuple room (from_facts partners facts helpers clash) number
    count list

-- from a union sheet on: 6 to 13, 18, 19 and 20, or the steps
pub record TellsFromUnion (partners : List ℕ) (rules : List Rule) (q : Query) (terms : ℕ) (union facts : List ℕ) (helpers : ℕ)
    (clash : Bool) (tuple : List ℕ) (room number count : ℕ) (list : List ℕ) : Type 0 where
  pub told : TellsBehind rules (facts_as_read partners sheet_width facts) (union_as_read partners sheet_width union) terms tuple room
      (otherwise (union_number partners rules q terms union) (from_facts partners facts helpers clash)) number count list

-- 3 to 5
abbrev pub question_number : List ℕ → List ℕ → ℕ
question_number partners question = number_of (first_refusal (question_refusals partners sheet_width question))

-- from a question on: 3 to 13, 18, 19 and 20, or the steps
pub record TellsFromQuestion (partners : List ℕ) (rules : List Rule) (question union facts : List ℕ) (helpers : ℕ) (clash : Bool)
    (tuple : List ℕ) (room number count : ℕ) (list : List ℕ) : Type 0 where
  pub told : TellsBehind rules (facts_as_read partners sheet_width facts) (union_as_read partners sheet_width union)
      (term_count question 0) tuple
      room
      (otherwise (question_number partners question)
      (otherwise (union_number partners rules (question_as_read partners sheet_width question) (term_count question 0) union)
      (from_facts partners facts helpers (clash
      || clashing helpers (roles_of_atoms (question_as_read partners sheet_width question).atoms)))))
      number count list
