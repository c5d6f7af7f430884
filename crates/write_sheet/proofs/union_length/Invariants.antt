-- The loop's invariant: the total and the members that are left make the length of the union.
use mathlib.Core.Path.{◌≡◌}
use Prim.Native.Nat.{◌+◌, ◌*◌, ◌≤◌}
use lib.ListN.{length}
use Rattle.words.specs.Limits.{sheet_width, count_bytes, step_bytes, most_question_bytes}
use Rattle.words.specs.Words.{union_in}
use Rattle.sheets.specs.Packing.{pack_union}
use Rattle.write_sheet.proofs.MemberLaws.{members_from}
use Rattle.write_sheet.proofs.union_length.Given as goal

abbrev pub invariant-loop-j : goal.invariant-loop-j
invariant-loop-j l =
    (l.total ≤ count_bytes + (step_bytes + most_question_bytes sheet_width) * l.j)
    × (l.total + length (members_from l.table l.n l.j) ≡ length (pack_union sheet_width (union_in l.table l.n)))
