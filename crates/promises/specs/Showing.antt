-- What showing a member gives: `member` hands back the part `the_part` (TheSheets), and its export the place of that part.
use Rattle.std.specs.Prelude.{ℕ, List}
use Rattle.promises.specs.TheSheets.{ThePlace}

-- THE PLEDGE of the export: start and length of the part, within the sheet, and the bytes there (`Placed`)
abbrev pub Shown : List ℕ → ℕ → ℕ → ℕ → Type 0
Shown sheet m start size = ThePlace sheet m start size
