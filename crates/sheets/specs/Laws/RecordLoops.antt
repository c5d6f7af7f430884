-- Records in a row, one after the other.
use Rattle.std.specs.Prelude.{◌≡◌, ℕ, ◌+◌, ◌-◌, ◌*◌}
use mathlib.Core.List.{List, map}
use Rattle.theory.specs.Lists.{numbers}
use Rattle.sheets.specs.Bits.{number_at}

-- x is the i-th record of the row, however its place is written
pub record Nth (size : ℕ) (s : List ℕ) (from i x : ℕ) : Type 0 where
  pub is : x ≡ number_at s (from + size * i) size

-- what is left of a row of n
module _ (size : ℕ) (s : List ℕ) (from n : ℕ) where
  unfoldable pub left : ℕ → List ℕ
  unfolding numbers number_at
  left i = map (λ k. number_at s (from + size * k) size) (numbers i (n - i))
