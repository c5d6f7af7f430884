-- What explaining an answer gives, with only bytes in it (02, T-06, "Each answer with the rules behind it"). Everything follows from the
-- four sheets, the tuple, "packed as in the answer list", and the length of the lent list of steps, `room`.
use Rattle.std.specs.Prelude.{◌≡◌, ◌⊎◌, ◌↔◌, ◌≢◌, ℕ, ◌*◌, ◌<◌, List, [], ◌∷◌, ◌++◌, length, replicate}
use Rattle.theory.specs.Refusals.{DecidedBy}
use Rattle.theory.specs.Chase.{FirstReader}
use Rattle.theory.specs.QualifiedChase.{SecondReaderAsWritten}
use Rattle.theory.specs.Explaining.{ExplainedStep, Explains, Replays}
use Rattle.theory.specs.NamedRules.{Suffice}
use Rattle.words.specs.Limits.{place_size}
use Rattle.sheets.specs.AnswerList.{tuple_size}
use Rattle.sheets.specs.StepList.{step_list}
use Rattle.sheets.specs.Refusals.{Sheets, drawing}
use Rattle.promises.specs.TheSheets.{the_written_rules, the_rules, the_question, the_union, the_facts, the_conditions, SoundFacts}
use Rattle.promises.specs.Checking.{SoundAndAccepted}
use Rattle.promises.specs.Drawing.{terms_of}
use Rattle.promises.specs.Report.{objects_at}

module _ (rules question union facts tuple : List ℕ) where
  abbrev pub four_sheets : Sheets
  four_sheets = record { rules = rules; question = question; union = union; facts = facts }

  -- the objects of the tuple, as many as the question has answer terms
  abbrev pub the_tuple : List ℕ
  the_tuple = objects_at tuple 0 (terms_of question)

  -- the steps from the lowest member that yields it back to member 0
  abbrev pub ExplainsTuple : List ExplainedStep → Type 0
  ExplainsTuple steps = Explains (the_rules rules) (the_facts facts) (the_union union) the_tuple steps

  -- 19: "the tuple is no answer or has the wrong length". A tuple that holds a lost tag is no answer (T-01).
  abbrev pub Meets19 : Type 0
  Meets19 = (¬ FirstReader (the_union union) (the_facts facts) the_tuple) ⊎ (length tuple ≢ tuple_size (terms_of question))

  module _ (room : ℕ) where
    -- 20: "the list of steps is too short"
    abbrev pub Meets20 : Type 0
    Meets20 = (steps : List ExplainedStep) × ExplainsTuple steps × (room < place_size * length steps)

    -- "after 14 in that order, where 14 itself doesn't apply": the conditions of drawing's list without 14, and then these two
    abbrev pub explain_conditions : List {1} (ℕ × Type 0)
    explain_conditions = the_conditions drawing four_sheets ++ ((19, Meets19) ∷ (20, Meets20) ∷ [])

    -- What count and list are where nothing is refused: the steps behind the tuple, and what they show.
    pub record StepsBehind (count : ℕ) (list : List ℕ) : Type 0 where
      pub steps : List ExplainedStep
      -- "from that member back to member 0", the lowest that yields the tuple
      pub explains : ExplainsTuple steps
      -- "the number of steps is returned"
      pub count_is : count ≡ length steps
      -- "Unused places hold zeros", and so do the bytes beyond the last whole place
      pub list_is : list ≡ step_list room steps
      -- "Following the list from member 0 forward, each renamed result put in its member's atom order, must arrive at a question that
      -- yields the tuple from the facts alone"; at each place it is the member as read
      pub replays : Replays (the_rules rules) (the_facts facts) (the_union union) (the_question question) the_tuple steps
      -- the tuple is one that the second reader finds, and for that the rules named suffice
      pub found : SecondReaderAsWritten (the_written_rules rules) (the_question question) (the_facts facts) the_tuple
      pub suffice : Suffice (the_written_rules rules) (the_facts facts) (the_question question) the_tuple steps

    -- THE PLEDGE of `explain`: what number and count it returns, and what the list holds then.
    pub record Explained (number count : ℕ) (list : List ℕ) : Type 0 where
      -- that of the first condition that holds, or 0
      pub number_is : DecidedBy explain_conditions number
      -- 0 exactly where the sheets are sound, the union is accepted, the tuple is an answer and its steps fit
      pub zero : (number ≡ 0) ↔ (SoundAndAccepted rules question union × SoundFacts rules facts × (¬ Meets19) × (¬ Meets20))
      -- the steps behind the tuple
      pub explained : number ≡ 0 → StepsBehind count list
      -- "after a refusal all places do", hold zeros
      pub refused : (number ≡ 0 → ⊥) → (count ≡ 0) × (list ≡ replicate room 0)
