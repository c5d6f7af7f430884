-- What every call reads its sheets by: 01's table of partners and the sheets' width of an object's number, which no definition above names;
-- what the sheets say then, their refusals, and the part that shows a member.
use Rattle.std.specs.Prelude.{◌≡◌, ℕ, List, []}
use Rattle.std.proofs.Math.Option.{Option, none}
use Rattle.theory.specs.Syntax.{Rule, Query, UCQ, Fact}
use Rattle.theory.specs.Qualified.{WrittenRule}
use Rattle.words.specs.Limits.{sheet_width}
use Rattle.sheets.specs.Partners.{partners01}
use Rattle.sheets.specs.Reading.{rules_as_written, rules_as_read, question_as_read, union_as_read, facts_as_read}
use Rattle.sheets.specs.Showing.{member_part, Placed}
use Rattle.sheets.specs.Refusals.{Sheets, Which, rules_and_facts, refusals, conditions_for, refusal_of}

-- ---- what the sheets say, as read

-- rules as written, which the second reader follows, and the rules that they are read as, which steps go by (02, T-04)
abbrev pub the_written_rules : List ℕ → List WrittenRule
the_written_rules sheet = rules_as_written partners01 sheet_width sheet

abbrev pub the_rules : List ℕ → List Rule
the_rules sheet = rules_as_read partners01 sheet_width sheet

abbrev pub the_question : List ℕ → Query
the_question sheet = question_as_read partners01 sheet_width sheet

abbrev pub the_union : List ℕ → UCQ
the_union sheet = union_as_read partners01 sheet_width sheet

abbrev pub the_facts : List ℕ → List Fact
the_facts sheet = facts_as_read partners01 sheet_width sheet

-- ---- the refusals of a call that takes these sheets: the first that applies, none, and all conditions in 01's words

abbrev pub the_refusal : Which → Sheets → Option ℕ
the_refusal takes sheets = refusal_of partners01 sheet_width takes sheets

abbrev pub NotRefused : Which → Sheets → Type 0
NotRefused takes sheets = the_refusal takes sheets ≡ none

abbrev pub the_conditions : Which → Sheets → List {1} (ℕ × Type 0)
the_conditions takes sheets = conditions_for partners01 sheet_width takes sheets (refusals partners01 sheet_width)

-- Facts are sound "if neither 12 nor 13" applies, "clashes of role numbers between sheets included": for these rules, no helper that they
-- use stands as a role in a fact (18).
abbrev pub SoundFacts : List ℕ → List ℕ → Type 0
SoundFacts rules facts = NotRefused rules_and_facts record { rules = rules; question = []; union = []; facts = facts }

-- ---- showing a member: the part of the sheet that holds its question, and where that part is

abbrev pub the_part : List ℕ → ℕ → List ℕ
the_part sheet m = member_part partners01 sheet_width sheet m

abbrev pub ThePlace : List ℕ → ℕ → ℕ → ℕ → Type 0
ThePlace sheet m start size = Placed partners01 sheet_width sheet m start size
