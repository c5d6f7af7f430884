-- What the test of a guessed renaming knows.
use Rattle.std.specs.Prelude.{◌≡◌, ℕ, ◌<◌, T}
use Rattle.theory.specs.Lists.{◌∈◌}
use Rattle.theory.specs.Syntax.{var, Query, terms}
use Rattle.query_sets.specs.Sets.{holds}
use Rattle.query_partial.specs.Partial.{entry}
use Rattle.query_partial.specs.declared.Partial.{Partial}

-- the variables of the set below n have a target
pub record SentBelow (set : ℕ) (m : Partial) (n : ℕ) : Type 0 where
  pub sent_below : (v : ℕ) → v < n → T (holds set v) → entry m v ≡ 32 → ⊥

-- every variable of p has a target
pub record AllSent (p : Query) (m : Partial) : Type 0 where
  pub all_sent : (v : ℕ) → var v ∈ terms p → entry m v ≡ 32 → ⊥
