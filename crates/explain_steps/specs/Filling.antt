-- What the way back asks of members, and what filling it into a list gives.
use Rattle.std.specs.Prelude.{◌≡◌, ℕ, ◌*◌, ◌≤◌, ◌<◌, List, length, replicate}
use Rattle.theory.specs.Lists.{At}
use Rattle.theory.specs.Syntax.{Rule, Query, Member, UCQ}
use Rattle.theory.specs.Renaming.{Alike}
use Rattle.theory.specs.Union.{Yields}
use Rattle.theory.specs.Explaining.{ExplainedStep, WayBack}
use Rattle.theory.specs.Laws.Explaining.{Behind}
use Rattle.words.specs.Limits.{place_size}
use Rattle.sheets.specs.StepList.{step_list}

-- every later member is alike to what the step written beside it yields, as in an accepted union
pub record StepsMade (rules : List Rule) (union : UCQ) : Type 0 where
  pub each : (k : ℕ) (m : Member) → 0 < k → At union k m → (r : Query) × Yields rules union k m.step r × Alike r m.query

-- so its parent is an earlier one
pub record ParentsEarlier (union : UCQ) : Type 0 where
  pub each : (k : ℕ) (m : Member) → 0 < k → At union k m → m.step.parent < k

-- so many places from member k back have room
pub record RoomFor (union : UCQ) (k room : ℕ) : Type 0 where
  pub places : ℕ
  pub behind : Behind union places k
  pub fits : place_size * places ≤ room

-- the list has the steps from member k back, and zeros after them
pub record FilledBack (rules : List Rule) (union : UCQ) (k room : ℕ) (list : List ℕ) : Type 0 where
  pub steps : List ExplainedStep
  pub way : WayBack rules union k steps
  pub list_is : list ≡ step_list room steps

-- THE PLEDGE of explaining from member k on: 20 where the list is too short for the steps, and else the steps
pub record TellsFrom (rules : List Rule) (union : UCQ) (k room number count : ℕ) (list : List ℕ) : Type 0 where
  pub short : (number ≡ 0 → ⊥)
      → (number ≡ 20) × (c : ℕ) × Behind union c k × (room < place_size * c) × (count ≡ 0) × (list ≡ replicate room 0)
  pub enough : number ≡ 0 → RoomFor union k room
  pub filled : number ≡ 0 → (b : FilledBack rules union k room list) × (count ≡ length b.steps)
