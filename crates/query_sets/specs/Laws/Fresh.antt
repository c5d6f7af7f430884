-- 01: "The fresh variable z is the lowest number that stands nowhere in the question before the step", and the form it takes:
-- "used variables as a u32 set; trailing zeros of its complement give z".
use Rattle.std.specs.Prelude.{◌≡◌, ℕ, ◌≤◌, ◌<◌, T}
use Rattle.std.proofs.Common.{sym, subst, inl, inr}
use Rattle.theory.specs.Lists.{◌∈◌, any}
use Rattle.theory.specs.Syntax.{var, Query, terms, same_term}
use Rattle.theory.specs.Rewriting.{fresh}
use Rattle.theory.specs.Laws.Options.{three_ways}
use Rattle.theory.specs.Laws.Lists.{any_same}
use Rattle.theory.proofs.Laws.Syntax.{same_term_iff}
use Rattle.theory.proofs.Laws.Fresh.{fresh_new, fresh_lowest}
use Rattle.query_sets.specs.Sets.{holds}
use Rattle.query_sets.specs.Laws.Digits.{holds_below}

module _ (q : Query) (set r : ℕ) (holds-variables : (u : ℕ) → holds set u ≡ any (same_term (var u)) (terms q)) where
  variable_held : (u : ℕ) → var u ∈ terms q → T (holds set u)
  variable_held u m = subst T (sym (holds-variables u)) ((any_same same_term same_term_iff (var u) (terms q)).1 m)

  held_variable : (u : ℕ) → T (holds set u) → var u ∈ terms q
  held_variable u t = (any_same same_term same_term_iff (var u) (terms q)).0 (subst T (holds-variables u) t)

  -- the lowest number that is missing in the set of the question's variables is the fresh variable
  pub lowest_is_fresh : set < 4294967296 → (r ≤ 32) × ((u : ℕ) → u < r → T (holds set u)) × (r < 32 → ¬ T (holds set r)) → r ≡ fresh q
  lowest_is_fresh s lowest =
      elim (three_ways r (fresh q)) [
        | inl l ↦ (let t = variable_held r (fresh_lowest q r l) in absurd (lowest.2 (holds_below 32 s t) t))
        | inr e ↦ elim e [ inl e ↦ e | inr l ↦ absurd (fresh_new q (held_variable (fresh q) (lowest.1 (fresh q) l))) ]
      ]
