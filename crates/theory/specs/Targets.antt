-- 02, T-05, "Alike, and by which names": the renaming itself as a list of targets, and which one is handed back where several fit.
use Rattle.std.specs.Prelude.{◌≡◌, ℕ, Bool, true, false, List, map, length, get_or, replicate}
use Rattle.theory.specs.Lists.{◌∈◌}
use Rattle.theory.specs.Syntax.{var, Query, terms}
use Rattle.theory.specs.Renaming.{Alike, variables}
use Rattle.theory.specs.Evaluation.{Before}

-- "Places without a target hold 32"; 01: "Variables are 0 to 31", so there are 32 places and no variable is 32
abbrev pub places : ℕ
places = 32

abbrev pub no_target : ℕ
no_target = 32

-- the target at the place of a variable
abbrev pub target_at : List ℕ → ℕ → ℕ
target_at targets v = get_or targets v no_target

-- "the renaming itself, variable by variable": the list has for each variable of p where a renaming from p to q sends it, and at its
-- other places no target
pub record Targets (p q : Query) (targets : List ℕ) : Type 0 where
  pub renaming : Alike p q
  pub sent : (v : ℕ) → var v ∈ terms p → target_at targets v ≡ renaming.to v
  pub unsent : (v : ℕ) → (var v ∈ terms p → ⊥) → target_at targets v ≡ no_target
  pub long : length targets ≡ places

-- a renaming's "list of target numbers, taken by rising source variable"
abbrev pub by_rising_source : Query → (ℕ → ℕ) → List ℕ
by_rising_source p to = map to (variables (terms p))

-- "Where several fit, it gives the one whose list of target numbers, taken by rising source variable, is smallest": no renaming's list
-- comes before it
pub record Smallest (p q : Query) (targets : List ℕ) : Type 0 where
  pub fits : Targets p q targets
  pub least : (r : Alike p q) → Before (by_rising_source p r.to) (by_rising_source p (target_at targets)) → ⊥

-- What the comparison of two questions hands back: "the renaming itself, variable by variable", or "that there is none".
pub record HandedBack (p q : Query) (found : Bool) (targets : List ℕ) : Type 0 where
  pub smallest : found ≡ true → Smallest p q targets
  pub none_fits : found ≡ false → Alike p q → ⊥
  pub no_targets : found ≡ false → targets ≡ replicate places no_target
