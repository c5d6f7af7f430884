-- The rules in a table that is lent, each tried once.
use Rattle.std.specs.Prelude.{◌≡◌, ℕ, Bool, true, false, not, ◌&&◌, List, length, get_or, eqb}
use Rattle.theory.specs.Lists.{any, numbers}
use Rattle.theory.specs.Syntax.{Rule}
use Rattle.words.specs.Words.{rules_in}
use Rattle.check_chains.specs.declared.Chained.{Chained}

abbrev pub rules_of : Chained → List Rule
rules_of r = rules_in r.words.now (length r.words.now)

-- the word at k stands earlier in the table
abbrev pub stands_earlier : List ℕ → ℕ → Bool
stands_earlier rules k = any (λ j. eqb (get_or rules j 0) (get_or rules k 0)) (numbers 0 k)

-- a rule was tried, or passed over for its word, which stands earlier: what was found is so, and what was not is not so of its first place
pub record TriedOnce (out earlier found : Bool) : Type 0 where
  pub sound : found ≡ true → out ≡ true
  pub whole : found ≡ false → (out && not earlier) ≡ false
