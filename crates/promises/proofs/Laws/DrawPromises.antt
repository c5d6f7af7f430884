-- What is promised of drawing beside its pledge, and what the pledge rests on: the number, count and list of the outcome.
use Rattle.std.specs.Prelude.{◌≡◌, ◌↔◌, ◌≢◌, ℕ, ◌*◌, ◌-◌, ◌≤◌, ◌<◌, List, length, drop}
use Rattle.std.proofs.Math.Path.{refl, ap}
use Rattle.std.proofs.Common.{sym, ◌∙◌}
use Rattle.std.proofs.Math.Logic.Iff
use Rattle.std.proofs.Math.Option.{Option, none, some}
use Rattle.std.proofs.Math.ListN.{replicate}
use Rattle.theory.specs.Lists.{◌∈◌, Unrepeated}
use Rattle.theory.specs.Refusals.{First, NoneHolds}
use Rattle.theory.specs.QualifiedChase.{SecondReaderAsWritten}
use Rattle.theory.specs.Evaluation.{Before}
use Rattle.theory.proofs.Laws.Answers.{before_irreflexive, answers_ascending}
use Rattle.theory.specs.Laws.Ascending.{ascending_unrepeated}
use Rattle.sheets.specs.AnswerList.{tuple_size, list_bytes}
use Rattle.sheets.specs.Refusals.{number_of}
use Rattle.promises.specs.TheSheets.{the_written_rules, the_question, the_union, the_facts, SoundFacts}
use Rattle.promises.specs.Checking.{AcceptedFor, SoundAndAccepted}
use Rattle.promises.specs.Drawing.{the_answers, terms_of, bytes_needed, Outcome, outcome_by, Registered, StandsAt, Listed, all_sheets}
use Rattle.promises.specs.Drawing.{refusal_to_draw, all_conditions, outcome}
use Rattle.promises.proofs.Laws.CheckPromises.{accepted_sound}
use Rattle.promises.proofs.Laws.AnswerBytes.{listed_iff, listed_ascending, listed_rest}
use Rattle.promises.proofs.Laws.Drawing.{positive_iff, zero_none, none_iff, zero_sound, fourteen_sound, answers_known, answers_second}
use Rattle.promises.proofs.Laws.Drawing.{same_count}

module _ (rules question union facts : List ℕ) (room : ℕ) where
  abbrev drawn : Outcome
  drawn = outcome rules question union facts room

  -- ---- the promises on the number

  -- the number is that of the refusal
  pub number_is : drawn.number ≡ number_of (refusal_to_draw rules question union facts room)
  unfolding outcome number_of
  number_is = by_cases (refusal_to_draw rules question union facts room)
    where
      by_cases : (o : Option ℕ) → (outcome_by room (the_answers union facts) o).number ≡ number_of o
      by_cases none = refl
      by_cases (some n) = refl

  along : (n : ℕ) → (drawn.number ≡ n) ↔ (number_of (refusal_to_draw rules question union facts room) ≡ n)
  along n = (λ e. sym number_is ∙ e, λ e. number_is ∙ e)

  -- "The first entry whose condition holds decides, for the earlier ones not holding": 0 where none holds, and any other number
  -- is that of the first that holds.
  pub number_means : (n : ℕ) → 0 < n → (drawn.number ≡ n) ↔ First (all_conditions rules question union facts room) n
  number_means n positive =
      Iff.trans (along n) (positive_iff (all_sheets rules question union facts room) room (bytes_needed question union facts) n positive)

  pub none_means : (drawn.number ≡ 0) ↔ NoneHolds (all_conditions rules question union facts room)
  none_means = Iff.trans (along 0) (none_iff (all_sheets rules question union facts room) room (bytes_needed question union facts))

  -- Demand 1: not refused is exactly "a call with sound sheets, an accepted union and a long enough list".
  pub zero_means : (drawn.number ≡ 0)
      ↔ (SoundAndAccepted rules question union × SoundFacts rules facts × (bytes_needed question union facts ≤ room))
  zero_means = Iff.trans (along 0) (zero_sound rules question union facts room (bytes_needed question union facts))

  -- 14 is the number exactly when all that is wrong is the length of the list.
  pub fourteen_means : (drawn.number ≡ 14)
      ↔ (SoundAndAccepted rules question union × SoundFacts rules facts × (room < bytes_needed question union facts))
  fourteen_means = Iff.trans (along 14) (fourteen_sound rules question union facts room (bytes_needed question union facts))

  -- ---- the promises on count and list

  -- "Every other call ends with [..] count zero and the whole list zeroed."
  pub refused_means : drawn.number ≢ 0 → (drawn.count ≡ 0) × (drawn.list ≡ replicate room 0)
  unfolding outcome
  refused_means h = by_cases (refusal_to_draw rules question union facts room) h
    where
      by_cases : (o : Option ℕ) → (outcome_by room (the_answers union facts) o).number ≢ 0
          → ((outcome_by room (the_answers union facts) o).count ≡ 0)
          × ((outcome_by room (the_answers union facts) o).list ≡ replicate room 0)
      by_cases none h = absurd (h refl)
      by_cases (some n) h = (refl, refl)

  module _ (zero : drawn.number ≡ 0) where
    is_drawn : drawn ≡ outcome_by room (the_answers union facts) none
    unfolding outcome
    is_drawn =
        ap (outcome_by room (the_answers union facts))
        ((zero_none (all_sheets rules question union facts room) room (bytes_needed question union facts)).0 ((along 0).0 zero))

    is_accepted : AcceptedFor rules question union
    is_accepted = (accepted_sound rules question union).1 (zero_means.0 zero).0

    is_sound : SoundFacts rules facts
    is_sound = (zero_means.0 zero).1

    -- "the exact count and every answer [..] the unused bytes zero"
    pub count_means : drawn.count ≡ length (the_answers union facts)
    count_means = ap (λ (o : Outcome). o.count) is_drawn

    pub list_means : drawn.list ≡ list_bytes room (the_answers union facts)
    list_means = ap (λ (o : Outcome). o.list) is_drawn

    -- Demand 3: "Where these tuples fit, the list that a call draws has them all and no others": a tuple of registered objects is in the
    -- list exactly when the question finds it in some round from the facts under the rules as written.
    pub both_readers : (tuple : List ℕ) → Registered tuple
        → Listed drawn.list drawn.count (terms_of question) tuple
        ↔ SecondReaderAsWritten (the_written_rules rules) (the_question question) (the_facts facts) tuple
    both_readers tuple registered =
        rw (list_means, count_means)
        (Iff.trans (listed_iff (the_answers union facts) (terms_of question) room
        (answers_known rules question union facts is_accepted) tuple registered)
        (answers_second rules question union facts is_accepted is_sound tuple))

    -- "ascending and each once", "and its count is their number": of two places the earlier has the lesser tuple
    pub ascending : (j k : ℕ) (t u : List ℕ) → Registered t → Registered u → j < k → k < drawn.count
        → StandsAt drawn.list (terms_of question) j t → StandsAt drawn.list (terms_of question) k u → Before t u
    ascending j k t u =
        rw (list_means, count_means)
        (listed_ascending (the_answers union facts) (terms_of question) room (answers_known rules question union facts is_accepted)
        (answers_ascending (the_facts facts) (the_union union)) j k t u)

    -- "the bytes after them zero"
    pub rest_zero : drop (tuple_size (terms_of question) * drawn.count) drawn.list
        ≡ replicate (room - tuple_size (terms_of question) * drawn.count) 0
    rest_zero =
        rw (list_means, count_means)
        (listed_rest (the_answers union facts) (terms_of question) room (answers_known rules question union facts is_accepted))

  -- ---- the answers, where the union is accepted: also where they do not fit

  -- the first reader's answers are the second's, ascending, each once
  module _ (accepted : AcceptedFor rules question union) (sound : SoundFacts rules facts) where
    pub answers_are_theirs : (tuple : List ℕ) → (tuple ∈ the_answers union facts)
        ↔ SecondReaderAsWritten (the_written_rules rules) (the_question question) (the_facts facts) tuple
    answers_are_theirs = answers_second rules question union facts accepted sound

    -- so that their number, in 14 and in the count, is that of the tuples that the second reader finds
    pub their_number : (tuples : List (List ℕ)) → Unrepeated tuples
        → ((tuple : List ℕ) → (tuple ∈ tuples) ↔ SecondReaderAsWritten (the_written_rules rules) (the_question question)
        (the_facts facts) tuple)
        → length tuples ≡ length (the_answers union facts)
    their_number tuples once theirs =
        same_count tuples (the_answers union facts) once
        (ascending_unrepeated Before before_irreflexive (the_answers union facts) (answers_ascending (the_facts facts) (the_union union)))
        (λ tuple. Iff.trans (theirs tuple) ((answers_are_theirs tuple).1, (answers_are_theirs tuple).0))
