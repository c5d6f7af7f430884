-- What reading a sheet gives, in one word: 65,536 times the number of the refusal, and the count.
use Rattle.std.specs.Prelude.{ℕ, ◌/◌, ◌%◌}

abbrev pub packed_number : ℕ → ℕ
packed_number r = r / 65536

abbrev pub packed_count : ℕ → ℕ
packed_count r = r % 65536
