-- The fresh variable is the lowest number that is missing in the set of the query's variables.
use mathlib.Core.Path.{◌≡◌}
use Prim.Native.Nat.{ℕ, ◌≤◌, ◌<◌}
use lib.Dec.{T}
use borrow.Author.Rules.{rules}
use Rattle.theory.specs.Lists.{any}
use Rattle.theory.specs.Syntax.{var, terms, same_term}
use Rattle.theory.specs.Rewriting.{fresh}
use Rattle.words.specs.Words.{query_of, Small}
use Rattle.words.specs.declared.QueryWords.{QueryWords}
use Rattle.query_sets.specs.Sets.{holds}
use Rattle.query_sets.specs.Laws.Fresh.{lowest_is_fresh}
use Rattle.query_variables.specs.FreshVariable.{fresh_low}

module _ (q : QueryWords) (set r : ℕ) (held : (u : ℕ) → holds set u ≡ any (same_term (var u)) (terms (query_of q))) (s : set < 4294967296)
    (l : r ≤ 32) (below : (u : ℕ) → u < r → T (holds set u)) (missing : r < 32 → ¬ T (holds set r)) where
  pub missing_fresh : r ≡ fresh (query_of q)
  missing_fresh = lowest_is_fresh (query_of q) set r held s (l, below, missing)

  pub missing_low : Small q → r < 32
  missing_low small = rw missing_fresh (fresh_low q small)

pub ruleset laws = (rules, missing_fresh, missing_low)
