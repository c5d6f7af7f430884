-- What is promised of a check beside its pledge: every number means what 01 says (demand 2), and both readers agree on every union that a
-- check accepts (demand 3).
use Rattle.std.specs.Prelude.{◌≡◌, ◌↔◌, ℕ, ◌<◌, List}
use Rattle.std.proofs.Math.Logic.Iff
use Rattle.theory.specs.Refusals.{First, NoneHolds}
use Rattle.theory.specs.Chase.{Answer, FirstReader}
use Rattle.theory.specs.LostTags.{Answerable}
use Rattle.theory.specs.QualifiedChase.{RoundAsWritten, SecondReaderAsWritten}
use Rattle.theory.specs.Qualified.{rules_read}
use Rattle.theory.specs.Union.{SoundUnion, Accepted, depth}
use Rattle.theory.proofs.Laws.Qualified.{readers_agree_as_written, by_depth_as_written}
use Rattle.words.specs.Limits.{sheet_width}
use Rattle.sheets.specs.Partners.{partners01}
use Rattle.sheets.specs.Reading.{rules_as_read}
use Rattle.sheets.specs.Refusals.{checking}
use Rattle.sheets.proofs.Laws.OneList.{passed_iff, number_zero, checked_accepted}
use Rattle.promises.specs.TheSheets.{the_written_rules, the_question, the_union, the_facts, the_conditions, SoundFacts}
use Rattle.promises.specs.Checking.{sheets_of, check_number, AcceptedFor, SoundAndAccepted}
use Rattle.promises.proofs.Laws.Checking.{zero_iff, positive_iff}
use Rattle.promises.proofs.Laws.Apart.{sheets_apart}

module _ (rules question union : List ℕ) where
  -- "A call that isn't refused returns number 0", and one that is refused does not.
  pub zero_accepts : (check_number rules question union ≡ 0) ↔ AcceptedFor rules question union
  zero_accepts = number_zero partners01 sheet_width (sheets_of rules question union) checking

  -- Demand 2: a check gives 0 exactly when the union is accepted in the demand's own words.
  pub zero_means : (check_number rules question union ≡ 0) ↔ SoundAndAccepted rules question union
  zero_means = zero_iff partners01 sheet_width (sheets_of rules question union)

  -- so a union is accepted exactly where it is in those words
  pub accepted_sound : AcceptedFor rules question union ↔ SoundAndAccepted rules question union
  accepted_sound = Iff.trans (Iff.symm zero_accepts) zero_means

  -- "The first entry whose condition holds decides, for the earlier ones not holding": 0 where none of checking's holds, and any other
  -- number is that of the first that holds, each condition in 01's words.
  pub accepted_means : AcceptedFor rules question union ↔ NoneHolds (the_conditions checking (sheets_of rules question union))
  accepted_means = passed_iff partners01 sheet_width (sheets_of rules question union) checking

  pub number_means : (n : ℕ) → 0 < n → (check_number rules question union ≡ n)
      ↔ First (the_conditions checking (sheets_of rules question union)) n
  number_means n positive = positive_iff partners01 sheet_width (sheets_of rules question union) n positive

  -- what the agreement of the readers asks of the union
  pub accepted_as_read : AcceptedFor rules question union
      → SoundUnion (the_question question) (the_union union) × Accepted (rules_read (the_written_rules rules)) (the_question question)
      (the_union union)
  unfolding rules_as_read
  accepted_as_read accepted = checked_accepted partners01 sheet_width (sheets_of rules question union) accepted

  -- Demand 3: on every union that is accepted, and on all sound facts, both readers find the same tuples, the second following the rules
  -- as written.
  pub both_readers_agree : AcceptedFor rules question union → (facts : List ℕ) → SoundFacts rules facts → (tuple : List ℕ)
      → FirstReader (the_union union) (the_facts facts) tuple
      ↔ SecondReaderAsWritten (the_written_rules rules) (the_question question) (the_facts facts) tuple
  both_readers_agree accepted facts sound tuple =
      let ok = accepted_as_read accepted in
      readers_agree_as_written (sheets_apart rules question union facts accepted sound) (λ m k. (ok.0 m k).distinct) ok.1 tuple

  -- and it has every answer by the largest number of rule steps behind any member
  pub every_answer_by : AcceptedFor rules question union → (facts : List ℕ) → SoundFacts rules facts → (tuple : List ℕ)
      → SecondReaderAsWritten (the_written_rules rules) (the_question question) (the_facts facts) tuple
      ↔ (Answerable tuple
      × Answer (RoundAsWritten (the_written_rules rules) (the_facts facts) (depth (the_union union))) (the_question question) tuple)
  every_answer_by accepted facts sound tuple =
      let ok = accepted_as_read accepted in
      by_depth_as_written (sheets_apart rules question union facts accepted sound) (λ m k. (ok.0 m k).distinct) ok.1 tuple
