-- What drawing answers gives, with only bytes in it (01, "What the desk turns back", and the end of that section): demands 1 and 3.
-- Everything follows from the four sheets and the length of the lent list, `room`.
use Rattle.std.specs.Prelude.{◌≡◌, ◌↔◌, ℕ, ◌*◌, ◌-◌, ◌≤◌, ◌<◌, List, [], ◌∷◌, ◌++◌, ltb, length, take, drop, replicate}
use Rattle.std.proofs.Math.Option.{Option, none, some, or_else}
use Rattle.theory.specs.Lists.{◌∈◌, guard}
use Rattle.theory.specs.QualifiedChase.{SecondReaderAsWritten}
use Rattle.theory.specs.Evaluation.{Before, answers_of}
use Rattle.words.specs.Limits.{object_bound}
use Rattle.sheets.specs.AnswerList.{tuple_size, tuple_bytes, list_bytes}
use Rattle.sheets.specs.Refusals.{Sheets, drawing}
use Rattle.promises.specs.TheSheets.{the_written_rules, the_question, the_union, the_facts, the_refusal, the_conditions, SoundFacts}
use Rattle.promises.specs.Checking.{SoundAndAccepted}

-- "In lists, counts and refusals, 'answers' are what the first reader finds": ascending, each once.
abbrev pub the_answers : List ℕ → List ℕ → List (List ℕ)
the_answers union facts = answers_of (the_facts facts) (the_union union)

-- how many answer terms the question has
abbrev pub terms_of : List ℕ → ℕ
terms_of question = length (the_question question).answers

-- 14: "The answer list is shorter than 2 × terms × answers bytes."
abbrev pub bytes_needed : List ℕ → List ℕ → List ℕ → ℕ
bytes_needed question union facts = tuple_size (terms_of question) * length (the_answers union facts)

-- number, count and every byte of the list
pub record Outcome : Type 0 where
  pub number : ℕ
  pub count : ℕ
  pub list : List ℕ

-- "A refusal returns its number and count 0, and the whole answer list is zeros. A call that isn't refused returns number 0": with the
-- number of the answers, their bytes, and zeros after them.
abbrev pub outcome_by : ℕ → List (List ℕ) → Option ℕ → Outcome
outcome_by room answers (some n) = record { number = n; count = 0; list = replicate room 0 }
outcome_by room answers none = record { number = 0; count = length answers; list = list_bytes room answers }

-- ---- what stands in a list

-- "Registered objects are all numbers an object may have"
abbrev pub Registered : List ℕ → Type 0
Registered tuple = (o : ℕ) → o ∈ tuple → o < object_bound

-- the tuple at place k of a list of tuples of so many terms
abbrev pub StandsAt : List ℕ → ℕ → ℕ → List ℕ → Type 0
StandsAt list terms k tuple = take (tuple_size terms) (drop (tuple_size terms * k) list) ≡ tuple_bytes tuple

-- the tuple is one of the first `count` of the list
abbrev pub Listed : List ℕ → ℕ → ℕ → List ℕ → Type 0
Listed list count terms tuple = (k : ℕ) × (k < count) × StandsAt list terms k tuple

-- ---- a call

module _ (rules question union facts : List ℕ) (room : ℕ) where
  abbrev pub all_sheets : Sheets
  all_sheets = record { rules = rules; question = question; union = union; facts = facts }

  -- "Checking a union uses 1 to 11, drawing answers all": the first of 1, 2, 17, 3 to 13 and 18 that applies, by the one list of refusals,
  -- and else 14
  abbrev pub refusal_to_draw : Option ℕ
  refusal_to_draw = or_else (the_refusal drawing all_sheets) (guard (ltb room (bytes_needed question union facts)) 14)

  -- 01's list whole, each condition in 01's words
  abbrev pub all_conditions : List {1} (ℕ × Type 0)
  all_conditions = the_conditions drawing all_sheets ++ ((14, room < bytes_needed question union facts) ∷ [])

  -- THE OUTCOME of a call: its number, its count and every byte of its list.
  unfoldable pub outcome : Outcome
  unfolding or_else
  outcome = outcome_by room (the_answers union facts) refusal_to_draw

  -- THE PLEDGE of `answer`: what number and count it returns, and what the list holds then.
  pub record Drawn (number count : ℕ) (list : List ℕ) : Type 0 where
    -- all three are the outcome's
    pub number_is : number ≡ outcome.number
    pub count_is : count ≡ outcome.count
    pub list_is : list ≡ outcome.list
    -- demand 1: 0 exactly for "a call with sound sheets, an accepted union and a long enough list"
    pub zero : (number ≡ 0) ↔ (SoundAndAccepted rules question union × SoundFacts rules facts × (bytes_needed question union facts ≤ room))
    -- 14 exactly when all that is wrong is the length of the list
    pub short : (number ≡ 14) ↔ (SoundAndAccepted rules question union × SoundFacts rules facts
        × (room < bytes_needed question union facts))
    -- demand 3: "the list that a call draws has them all and no others": a tuple of registered objects is in the list exactly when the
    -- second reader finds it: it holds no lost tag (02, T-01), and the question has it in some round from the facts under the rules as
    -- written, a pair of records giving each bearer one unnamed thing that has both role and filler (02, T-04)
    pub readers : number ≡ 0 → (tuple : List ℕ) → Registered tuple
        → Listed list count (terms_of question) tuple
        ↔ SecondReaderAsWritten (the_written_rules rules) (the_question question) (the_facts facts) tuple
    -- "ascending and each once": of two places the earlier has the lesser tuple
    pub ascending : number ≡ 0 → (j k : ℕ) (t u : List ℕ) → Registered t → Registered u → j < k → k < count
        → StandsAt list (terms_of question) j t → StandsAt list (terms_of question) k u → Before t u
    -- "the unused bytes zero"
    pub rest : number ≡ 0 → drop (tuple_size (terms_of question) * count) list ≡ replicate (room - tuple_size (terms_of question) * count) 0
    -- "Every other call ends with [..] count zero and the whole list zeroed."
    pub refused : (number ≡ 0 → ⊥) → (count ≡ 0) × (list ≡ replicate room 0)
