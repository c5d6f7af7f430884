-- Sets of a query's variables.
use Rattle.std.specs.Prelude.{◌≡◌, ℕ}
use Rattle.theory.specs.Lists.{any}
use Rattle.theory.specs.Syntax.{var, Query, terms, same_term}
use Rattle.query_sets.specs.Sets.{holds}

-- the set is that of the query's variables
abbrev pub AreVariables : Query → ℕ → Type 0
AreVariables q set = (u : ℕ) → holds set u ≡ any (same_term (var u)) (terms q)
