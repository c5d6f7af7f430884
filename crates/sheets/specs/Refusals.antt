-- 01, "What the desk turns back", and 02, T-04: refusals 1 to 13, 17 and 18 in one list, each as a test, which computes, and as a
-- condition, which says what is meant. A call's own list is what of it reads no sheet but those that the call takes; 14 is drawing's own,
-- 15 and 16 are writing's (promises/specs).
use Rattle.std.specs.Prelude.{◌≡◌, ℕ, Bool, true, false, not, ◌&&◌, ◌||◌}
use Rattle.std.proofs.Math.Option.{Option, none}
use mathlib.Core.List.{List, [], ◌∷◌}
use Rattle.theory.specs.Lists.{pick}
use Rattle.theory.specs.Refusals.{first_refusal}
unfoldable pub use Rattle.theory.specs.Refusals.{number_of}
use Rattle.theory.specs.Syntax.{Rule, Query, UCQ, Fact}
use Rattle.theory.specs.Qualified.{WrittenRule, roles_of_rules, roles_of_atoms, refuses18, Meets18}
use Rattle.theory.specs.Union.{refuses7, refuses8, refuses9, refuses10, refuses11, Meets7, Meets8, Meets9, Meets10, Meets11}
use Rattle.sheets.specs.Format.{term_count}
use Rattle.sheets.specs.Reading.{rules_as_written, rules_as_read, question_as_read, union_as_read, facts_as_read}
use Rattle.sheets.specs.Tests.{refuses1, refuses2, refuses3, refuses4, refuses5, refuses6, refuses12, refuses13, refuses17}
use Rattle.sheets.specs.Conditions.{Meets1, Meets2, Meets3, Meets4, Meets5, Meets6, Meets12, Meets13, Meets17}

-- the four sheets of a call; a call that takes fewer leaves the others empty
pub record Sheets : Type 0 where
  pub rules : List ℕ
  pub question : List ℕ
  pub union : List ℕ
  pub facts : List ℕ

-- which sheets a refusal reads, and which a call takes
pub record Which : Type 0 where
  pub rules : Bool
  pub question : Bool
  pub union : Bool
  pub facts : Bool

pub record Refusal : Type 1 where
  pub number : ℕ
  pub reads : Which
  pub test : Sheets → Bool
  pub condition : Sheets → Type 0

-- every sheet that the refusal reads is one that the call takes
unfoldable pub within : Which → Which → Bool
within reads takes =
    (not reads.rules || takes.rules) && (not reads.question || takes.question)
    && (not reads.union || takes.union) && (not reads.facts || takes.facts)

abbrev pub only_rules : Which
only_rules = record { rules = true; question = false; union = false; facts = false }

abbrev pub only_question : Which
only_question = record { rules = false; question = true; union = false; facts = false }

abbrev pub only_facts : Which
only_facts = record { rules = false; question = false; union = false; facts = true }

abbrev pub question_and_union : Which
question_and_union = record { rules = false; question = true; union = true; facts = false }

abbrev pub rules_and_question : Which
rules_and_question = record { rules = true; question = true; union = false; facts = false }

abbrev pub rules_and_facts : Which
rules_and_facts = record { rules = true; question = false; union = false; facts = true }

-- what writing a union takes (02, T-02), what checking one takes, and what drawing answers takes
abbrev pub writing : Which
writing = rules_and_question

abbrev pub checking : Which
checking = record { rules = true; question = true; union = true; facts = false }

abbrev pub drawing : Which
drawing = record { rules = true; question = true; union = true; facts = true }

module _ (partners : List ℕ) (w : ℕ) where
  -- the sheets as read
  abbrev pub read_rules : Sheets → List Rule
  read_rules sheets = rules_as_read partners w sheets.rules

  abbrev pub read_question : Sheets → Query
  read_question sheets = question_as_read partners w sheets.question

  abbrev pub read_union : Sheets → UCQ
  read_union sheets = union_as_read partners w sheets.union

  abbrev pub read_facts : Sheets → List Fact
  read_facts sheets = facts_as_read partners w sheets.facts

  -- the rules as written, and the roles that stand in them, in the question and in the facts, by which 18 is judged
  abbrev pub written_rules : Sheets → List WrittenRule
  written_rules sheets = rules_as_written partners w sheets.rules

  abbrev pub rule_roles : Sheets → List ℕ
  rule_roles sheets = roles_of_rules (written_rules sheets)

  abbrev pub question_roles : Sheets → List ℕ
  question_roles sheets = roles_of_atoms (read_question sheets).atoms

  abbrev pub fact_roles : Sheets → List ℕ
  fact_roles sheets = roles_of_atoms (read_facts sheets)

  -- THE LIST, in the order used for drawing
  unfoldable pub refusals : List {1} Refusal
  refusals =
      record { number = 1; reads = only_rules; test = λ s. refuses1 s.rules; condition = λ s. Meets1 s.rules }
      ∷ record { number = 2; reads = only_rules; test = λ s. refuses2 s.rules; condition = λ s. Meets2 s.rules }
      ∷ record {
        number = 17;
        reads = only_rules;
        test = λ s. refuses17 partners w s.rules;
        condition = λ s. Meets17 partners w s.rules;
      }
      ∷ record { number = 3; reads = only_question; test = λ s. refuses3 w s.question; condition = λ s. Meets3 w s.question }
      ∷ record { number = 4; reads = only_question; test = λ s. refuses4 (read_question s); condition = λ s. Meets4 (read_question s) }
      ∷ record { number = 5; reads = only_question; test = λ s. refuses5 (read_question s); condition = λ s. Meets5 (read_question s) }
      ∷ record {
        number = 6;
        reads = question_and_union;
        test = λ s. refuses6 partners w (term_count s.question 0) s.union;
        condition = λ s. Meets6 partners w (term_count s.question 0) s.union;
      }
      ∷ record {
        number = 7;
        reads = checking;
        test = λ s. refuses7 (read_rules s) (read_question s) (read_union s);
        condition = λ s. Meets7 (read_question s) (read_union s);
      }
      ∷ record {
        number = 8;
        reads = checking;
        test = λ s. refuses8 (read_rules s) (read_question s) (read_union s);
        condition = λ s. Meets8 (read_rules s) (read_union s);
      }
      ∷ record {
        number = 9;
        reads = checking;
        test = λ s. refuses9 (read_rules s) (read_question s) (read_union s);
        condition = λ s. Meets9 (read_rules s) (read_union s);
      }
      ∷ record {
        number = 10;
        reads = checking;
        test = λ s. refuses10 (read_rules s) (read_question s) (read_union s);
        condition = λ s. Meets10 (read_union s);
      }
      ∷ record {
        number = 11;
        reads = checking;
        test = λ s. refuses11 (read_rules s) (read_question s) (read_union s);
        condition = λ s. Meets11 (read_rules s) (read_union s);
      }
      ∷ record { number = 12; reads = only_facts; test = λ s. refuses12 w s.facts; condition = λ s. Meets12 w s.facts }
      ∷ record { number = 13; reads = only_facts; test = λ s. refuses13 w s.facts; condition = λ s. Meets13 w s.facts }
      -- 18, "a helper number as a role in a written rule, the question or a fact": in three entries, by the sheets that each reads
      ∷ record {
        number = 18;
        reads = only_rules;
        test = λ s. refuses18 (written_rules s) (rule_roles s);
        condition = λ s. Meets18 (written_rules s) (rule_roles s);
      }
      ∷ record {
        number = 18;
        reads = rules_and_question;
        test = λ s. refuses18 (written_rules s) (question_roles s);
        condition = λ s. Meets18 (written_rules s) (question_roles s);
      }
      ∷ record {
        number = 18;
        reads = rules_and_facts;
        test = λ s. refuses18 (written_rules s) (fact_roles s);
        condition = λ s. Meets18 (written_rules s) (fact_roles s);
      }
      ∷ []

  -- the list's tests for a call that takes these sheets, and its conditions
  unfoldable pub tests_for : Which → Sheets → List {1} Refusal → List (ℕ × Bool)
  unfolding within
  tests_for takes sheets [] = []
  tests_for takes sheets (e ∷ es) =
      pick (within e.reads takes) ((e.number, e.test sheets) ∷ tests_for takes sheets es) (tests_for takes sheets es)

  unfoldable pub conditions_for : Which → Sheets → List {1} Refusal → List {1} (ℕ × Type 0)
  unfolding within
  conditions_for takes sheets [] = []
  conditions_for takes sheets (e ∷ es) =
      pick (within e.reads takes) ((e.number, e.condition sheets) ∷ conditions_for takes sheets es) (conditions_for takes sheets es)

  -- the first refusal that applies to a call
  unfoldable pub refusal_of : Which → Sheets → Option ℕ
  unfolding refusals tests_for first_refusal
  refusal_of takes sheets = first_refusal (tests_for takes sheets refusals)

  -- "Rules are sound if they meet neither 1 nor 2, a question if none of 3 to 5, a union if not 6, facts if neither 12 nor 13. A sheet's
  -- own refusals that checking or drawing gains later count here too, clashes of role numbers between sheets included": sheets are sound if
  -- none of the list's refusals that read them applies.
  abbrev pub Sound : Which → Sheets → Type 0
  Sound takes sheets = refusal_of takes sheets ≡ none

-- one sheet's own refusals by which it is read, in the list's order
unfoldable pub rule_refusals : List ℕ → ℕ → List ℕ → List (ℕ × Bool)
rule_refusals partners w s = (1, refuses1 s) ∷ (2, refuses2 s) ∷ (17, refuses17 partners w s) ∷ []

unfoldable pub question_refusals : List ℕ → ℕ → List ℕ → List (ℕ × Bool)
question_refusals partners w s =
    (3, refuses3 w s) ∷ (4, refuses4 (question_as_read partners w s)) ∷ (5, refuses5 (question_as_read partners w s)) ∷ []

unfoldable pub fact_refusals : ℕ → List ℕ → List (ℕ × Bool)
fact_refusals w s = (12, refuses12 w s) ∷ (13, refuses13 w s) ∷ []
