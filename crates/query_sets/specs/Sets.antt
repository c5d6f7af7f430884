-- Sets of numbers in a word: a number is in the set where its binary digit is 1.
use Rattle.std.specs.Prelude.{ℕ, ◌/◌, ◌%◌, ◌^◌, Bool, eqb}

-- whether v is in the set: the digit v of the word, the lowest being digit 0, is 1
unfoldable pub holds : ℕ → ℕ → Bool
holds set v = eqb (set / 2 ^ v % 2) 1
