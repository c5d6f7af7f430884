-- What checking a union gives, with only bytes in it: the number, and what its 0 means (demand 2).
use Rattle.std.specs.Prelude.{◌≡◌, ◌↔◌, ℕ, List, []}
use Rattle.theory.specs.Union.{Accepted}
use Rattle.sheets.specs.Refusals.{Sheets, rules_and_question, question_and_union, checking, number_of}
use Rattle.promises.specs.TheSheets.{the_rules, the_question, the_union, the_refusal, NotRefused}

module _ (rules question union : List ℕ) where
  abbrev pub sheets_of : Sheets
  sheets_of = record { rules = rules; question = question; union = union; facts = [] }

  -- "Checking a union uses 1 to 11", and by 02, T-04, 17 after 2 and 18 after 11: the number of the first that applies, by the one list of
  -- refusals, and 0 where none does
  abbrev pub check_number : ℕ
  check_number = number_of (the_refusal checking sheets_of)

  -- "A union is accepted for its rules and question if no refusal that checking uses applies."
  abbrev pub AcceptedFor : Type 0
  AcceptedFor = NotRefused checking sheets_of

  -- Demand 2's own words, "all sheets being sound": rules and question, with no clash of role numbers between them, and the union, which 6
  -- compares with the question.
  abbrev pub SoundAndAccepted : Type 0
  SoundAndAccepted =
      NotRefused rules_and_question sheets_of
      × NotRefused question_and_union sheets_of
      × Accepted (the_rules rules) (the_question question) (the_union union)

  -- THE PLEDGE of `check`: what the number is that it returns.
  pub record Checked (number : ℕ) : Type 0 where
    -- that of the first refusal of 1, 2, 17, 3 to 11 and 18 that applies
    pub first_refusal_is : number ≡ check_number
    -- demand 2: 0 exactly when the sheets are sound and the union is accepted in the demand's own words
    pub accepted : (number ≡ 0) ↔ SoundAndAccepted
