-- The loop's invariant: the bytes that are left, put where they belong, make the sheet that is promised.
use mathlib.Core.Path.{◌≡◌}
use lib.ListN.{length}
use Rattle.sheets.specs.Packing.{bytes_of}
use Rattle.write_sheet.specs.PutAt.{put_at}
use Rattle.write_sheet.proofs.numbers.put_number.Given as goal

abbrev pub invariant-loop-k : goal.invariant-loop-k
invariant-loop-k l =
    (length l.sheet ≡ length l.initial.sheet)
    × (put_at l.sheet l.at (bytes_of l.k l.rest) ≡ put_at l.initial.sheet l.at (bytes_of l.size l.number))
