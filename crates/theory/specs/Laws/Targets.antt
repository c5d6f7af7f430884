-- The order of renamings, variable by variable.
use Rattle.std.specs.Prelude.{◌≡◌, ◌⊎◌, ℕ, ◌<◌}
use Rattle.theory.specs.Lists.{◌∈◌}
use Rattle.theory.specs.Syntax.{var, Query, terms}

module _ (p : Query) where
  -- t agrees with t' on the variables of p, or goes lower at the first of them at which they differ
  pub record Precedes (t t' : ℕ → ℕ) : Type 0 where
    pub lower : ((v : ℕ) → var v ∈ terms p → t v ≡ t' v)
        ⊎ ((u : ℕ) × (var u ∈ terms p) × (t u < t' u) × ((v : ℕ) → var v ∈ terms p → v < u → t v ≡ t' v))
