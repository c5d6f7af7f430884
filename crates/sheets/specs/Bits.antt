-- Numbers in bytes. 01: "Sheets, packed with the most significant bit first".
use Rattle.std.specs.Prelude.{ℕ, zero, suc, ◌+◌, ◌*◌, List, get_or}

-- the number in the `size` bytes from index `at` on, the first of them the most significant
unfoldable pub number_at : List ℕ → ℕ → ℕ → ℕ
number_at s at zero = 0
number_at s at (suc size) = number_at s at size * 256 + get_or s (at + size) 0
