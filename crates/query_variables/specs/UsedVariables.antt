-- Sets of variables that grow term by term.
use Rattle.std.specs.Prelude.{◌≡◌, ℕ, ◌||◌, List}
use Rattle.theory.specs.Lists.{any}
use Rattle.theory.specs.Syntax.{Term, var, same_term}
use Rattle.query_sets.specs.Sets.{holds}

-- r is the set with the variables among the terms put in
pub record AddsVariables (ts : List Term) (set r : ℕ) : Type 0 where
  pub adds : (u : ℕ) → holds r u ≡ (any (same_term (var u)) ts || holds set u)
