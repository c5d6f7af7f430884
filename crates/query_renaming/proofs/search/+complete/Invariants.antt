use Prim.Native.Nat.{◌-◌}
use Rattle.query_renaming.proofs.SearchLaws.{Seeks}
use Rattle.query_renaming.proofs.search.+complete.Given as goal

abbrev pub decreases-complete : goal.decreases-complete
decreases-complete l = 32 - l.v

abbrev pub invariant-loop-w : goal.invariant-loop-w
invariant-loop-w l = Seeks l.s l.m l.v l.w
