use mathlib.Core.Path.{◌≡◌}
use lib.ListN.{length}
use Rattle.theory.specs.Laws.Scans.{some_from}
use Rattle.check_distinct.proofs.KeyLaws.{twin_at}
use Rattle.check_distinct.proofs.refuses10.Given as goal

abbrev pub invariant-loop-i : goal.invariant-loop-i
invariant-loop-i l =
    some_from (twin_at l.members.table.now (length l.members.keys.words.now)) l.i (length l.members.keys.words.now)
    ≡ some_from (twin_at l.members.table.now (length l.members.keys.words.now)) 0 (length l.members.keys.words.now)
