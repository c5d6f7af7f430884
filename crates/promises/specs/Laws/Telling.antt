-- What explaining gives from what was read, stage by stage: the pledge of `explain` without the sheets' bytes. How many steps there are
-- is told by the written parents alone (`Behind`), before any renaming is looked for.
use Rattle.std.specs.Prelude.{◌≡◌, ◌⊎◌, ◌≢◌, ℕ, ◌*◌, ◌<◌, List, [], ◌∷◌, length, replicate}
use Rattle.theory.specs.Refusals.{DecidedBy}
use Rattle.theory.specs.Syntax.{Rule, UCQ, Fact}
use Rattle.theory.specs.Chase.{FirstReader}
use Rattle.theory.specs.Explaining.{ExplainedStep, Lowest, Explains}
use Rattle.theory.specs.Laws.Explaining.{Behind}
use Rattle.words.specs.Limits.{place_size}
use Rattle.sheets.specs.AnswerList.{tuple_size}
use Rattle.sheets.specs.StepList.{step_list}
use Rattle.promises.specs.Report.{objects_at}

module _ (rules : List Rule) (facts : List Fact) (union : UCQ) (terms : ℕ) (tuple : List ℕ) (room : ℕ) where
  -- the objects of the tuple
  abbrev pub objects : List ℕ
  objects = objects_at tuple 0 terms

  -- 19
  abbrev pub NoAnswer : Type 0
  NoAnswer = (¬ FirstReader union facts objects) ⊎ (length tuple ≢ tuple_size terms)

  -- 20
  abbrev pub TooShort : Type 0
  TooShort = (k c : ℕ) × Lowest facts union objects k × Behind union c k × (room < place_size * c)

  -- from rules, facts and members that were read: 19, 20, or the steps
  pub record Tells (number count : ℕ) (list : List ℕ) : Type 0 where
    pub decided : DecidedBy ((19, NoAnswer) ∷ (20, TooShort) ∷ []) number
    pub filled : number ≡ 0
        → (steps : List ExplainedStep) × Explains rules facts union objects steps × (count ≡ length steps) × (list ≡ step_list room steps)
    pub emptied : (number ≡ 0 → ⊥) → (count ≡ 0) × (list ≡ replicate room 0)

  -- the same behind stages that meet the refusal with this number, or none where it is 0
  pub record TellsBehind (first number count : ℕ) (list : List ℕ) : Type 0 where
    pub stopped : (first ≡ 0 → ⊥) → (number ≡ first) × (count ≡ 0) × (list ≡ replicate room 0)
    pub goes_on : first ≡ 0 → Tells number count list
