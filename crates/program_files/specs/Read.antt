-- How many bytes were read: none of a file that can't be read, nor of any where one can't be.
use Rattle.std.specs.Prelude.{ℕ, Option, Some, None}
use Rattle.program_files.specs.declared.Lengths.{Lengths}
use Rattle.program_files.specs.declared.TwoLengths.{TwoLengths}

abbrev pub length_in : Option ℕ → ℕ
length_in (Some n) = n
length_in None = 0

abbrev pub lengths_in : Option Lengths → Lengths
lengths_in (Some read) = read
lengths_in None = record { rules = 0; question = 0; union = 0; facts = 0 }

abbrev pub two_lengths_in : Option TwoLengths → TwoLengths
two_lengths_in (Some read) = read
two_lengths_in None = record { rules = 0; question = 0 }
