use Rattle.query_partial.specs.Partial.{Apart}
use Rattle.query_alike.proofs.guess.guess.Given as goal

abbrev pub invariant-loop-i : goal.invariant-loop-i
invariant-loop-i l = Apart l.m
