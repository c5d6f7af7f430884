-- Sets of variables: those of the atoms that pass a test.
use Rattle.std.specs.Prelude.{◌≡◌, ℕ, Bool, ◌&&◌}
use Rattle.theory.specs.Lists.{any}
use Rattle.theory.specs.Syntax.{Term, var, Atom, Query, args, same_term}
use Rattle.query_sets.specs.Sets.{holds}

-- the variable stands in the atom
unfoldable pub stands_in : ℕ → Atom Term → Bool
unfolding any same_term
stands_in v a = any (same_term (var v)) (args a)

-- r is the set of the variables that stand in an atom that passes the test
pub record Gathers (test : Atom Term → Bool) (q : Query) (r : ℕ) : Type 0 where
  pub gathers : (u : ℕ) → holds r u ≡ any (λ a. test a && stands_in u a) q.atoms
