-- A file as far as it is read.
use Rattle.std.specs.Prelude.{ℕ, suc, take}
use mathlib.Core.List.{List}

-- what is read of a file: its bytes up to its end, or to one beyond the limit
abbrev pub cut_to : ℕ → List ℕ → List ℕ
cut_to limit file = take (suc limit) file
