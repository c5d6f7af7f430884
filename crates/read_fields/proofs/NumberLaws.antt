-- The numbers in two, three, four and six bytes.
use mathlib.Core.Path.{◌≡◌, ap}
use Prim.Native.Nat.{ℕ, ◌+◌, ◌*◌}
use native.Mathlib.Omega.{arith}
use mathlib.Core.List.{List}
use lib.ListN.{get_or}
use borrow.Author.Rules.{rules}
use Rattle.sheets.specs.Bits.{number_at}

-- one byte, whichever way its index is written
same_byte : (s : List ℕ) (i j : ℕ) → i ≡ j → get_or s i 0 ≡ get_or s j 0
same_byte s i j e = ap (λ k. get_or s k 0) e

pub number_two : (s : List ℕ) (at : ℕ) → get_or s at 0 * 256 + get_or s (at + 1) 0 ≡ number_at s at 2
unfolding number_at
number_two s at = omega (arith, same_byte s (at + 0) at (omega arith))

pub number_three : (s : List ℕ) (at : ℕ) → get_or s at 0 * 65536 + get_or s (at + 1) 0 * 256 + get_or s (at + 2) 0 ≡ number_at s at 3
unfolding number_at
number_three s at = omega (arith, same_byte s (at + 0) at (omega arith))

pub number_four : (s : List ℕ) (at : ℕ)
    → get_or s at 0 * 16777216 + get_or s (at + 1) 0 * 65536 + get_or s (at + 2) 0 * 256 + get_or s (at + 3) 0 ≡ number_at s at 4
unfolding number_at
number_four s at = omega (arith, same_byte s (at + 0) at (omega arith))

pub number_six : (s : List ℕ) (at a b : ℕ) → a ≡ number_at s at 4 → b ≡ number_at s (at + 4) 2 → a * 65536 + b ≡ number_at s at 6
unfolding number_at
number_six s at a b p q = omega (arith, same_byte s (at + 4 + 0) (at + 4) (omega arith), same_byte s (at + 4 + 1) (at + 5) (omega arith))

pub ruleset laws = (rules, number_six)
