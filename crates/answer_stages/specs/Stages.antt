-- What drawing gives from the fact sheet on, and from the union sheet on.
use Rattle.std.specs.Prelude.{ℕ, Bool, ◌||◌, List}
use Rattle.theory.specs.Lists.{pick}
use Rattle.theory.specs.Refusals.{first_refusal, otherwise}
use Rattle.theory.specs.Syntax.{Rule, Query, UCQ, Fact}
use Rattle.theory.specs.Qualified.{roles_of_atoms}
use Rattle.theory.specs.Evaluation.{answers_of}
use Rattle.words.specs.Limits.{sheet_width}
use Rattle.sheets.specs.Reading.{union_as_read, facts_as_read}
use Rattle.sheets.specs.Refusals.{fact_refusals, number_of}
use Rattle.read_helpers.specs.InUse.{clashing}
use Rattle.check_sheet.specs.Members.{union_number}
use Rattle.answer_draw.specs.Gives.{room_number, Gives}

-- 12 and 13: a fact sheet
abbrev pub facts_number : List ℕ → ℕ
facts_number facts = number_of (first_refusal (fact_refusals sheet_width facts))

-- 18: so many helpers are in use, and one of them stands in a rule as written or in the question, or in a fact
abbrev pub clash_number : Bool → ℕ → List Fact → ℕ
clash_number clash helpers facts = pick (clash || clashing helpers (roles_of_atoms facts)) 18 0

-- from a fact sheet on: 12, 13, 18 and 14, or the answers
abbrev pub GivesFromFacts : List ℕ → List ℕ → UCQ → ℕ → ℕ → Bool → ℕ → ℕ → ℕ → List ℕ → Type 0
GivesFromFacts partners sheet union terms helpers clash room number count list =
    Gives room (answers_of (facts_as_read partners sheet_width sheet) union)
    (otherwise (facts_number sheet) (otherwise (clash_number clash helpers (facts_as_read partners sheet_width sheet))
    (room_number room terms (answers_of (facts_as_read partners sheet_width sheet) union)))) number count list

-- from a union sheet on: 6 to 13, 18 and 14, or the answers
abbrev pub GivesFromUnion : List ℕ → List Rule → Query → ℕ → List ℕ → List ℕ → ℕ → Bool → ℕ → ℕ → ℕ → List ℕ → Type 0
GivesFromUnion partners rules q terms union facts helpers clash room number count list =
    Gives room (answers_of (facts_as_read partners sheet_width facts) (union_as_read partners sheet_width union))
    (otherwise (union_number partners rules q terms union) (otherwise (facts_number facts)
    (otherwise (clash_number clash helpers (facts_as_read partners sheet_width facts))
    (room_number room terms (answers_of (facts_as_read partners sheet_width facts) (union_as_read partners sheet_width union)))))) number
    count list
