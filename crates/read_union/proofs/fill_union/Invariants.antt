use mathlib.Core.Path.{◌≡◌}
use lib.ListN.{length}
use Rattle.words.specs.Limits.{sheet_width}
use Rattle.sheets.specs.Format.{member_start}
use Rattle.read_union.proofs.RowLaws.{RowsBelow}
use Rattle.read_union.proofs.fill_union.Given as goal

abbrev pub invariant-loop-row : goal.invariant-loop-row
invariant-loop-row l =
    (l.at ≡ member_start sheet_width l.s l.row) × (length l.table ≡ length l.initial.table)
    × RowsBelow l.partners l.s l.table l.row
