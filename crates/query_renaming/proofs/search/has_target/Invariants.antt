use Rattle.query_renaming.proofs.SearchLaws.{Seeks}
use Rattle.query_renaming.proofs.search.has_target.Given as goal

abbrev pub invariant-loop-x : goal.invariant-loop-x
invariant-loop-x l = Seeks l.s l.m l.v l.x
