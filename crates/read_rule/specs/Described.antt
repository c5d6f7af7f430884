-- The half of a rule's word that is a description.
use Rattle.std.specs.Prelude.{ℕ, ◌*◌, ◌/◌, ◌%◌}
use Rattle.theory.specs.Syntax.{Basic}
use Rattle.words.specs.Limits.{name_bound}
use Rattle.words.specs.Records.{basic_of}

-- the description in 14 bits, form and number; the forms are 0 to 2
abbrev pub described : ℕ → Basic
described d = basic_of (d / name_bound) (d % name_bound)

abbrev pub description_bound : ℕ
description_bound = 3 * name_bound
