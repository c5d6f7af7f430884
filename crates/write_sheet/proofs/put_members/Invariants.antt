-- The loop's invariant: the members that are left, put where they belong, make the sheet that is promised.
use mathlib.Core.Path.{◌≡◌}
use Prim.Native.Nat.{◌+◌}
use lib.ListN.{length}
use Rattle.words.specs.Limits.{count_bytes}
use Rattle.write_sheet.specs.PutAt.{members_bytes}
use Rattle.write_sheet.proofs.PutLaws.{Remaining}
use Rattle.write_sheet.proofs.MemberLaws.{members_from}
use Rattle.write_sheet.proofs.put_members.Given as goal

abbrev pub invariant-loop-j : goal.invariant-loop-j
invariant-loop-j l =
    (l.at + length (members_from l.table l.n l.j) ≡ count_bytes + length (members_bytes l.table l.n))
    × Remaining l.initial.sheet count_bytes (members_bytes l.table l.n) l.sheet l.at (members_from l.table l.n l.j)
