use Rattle.query_alike.specs.Guess.{SentBelow}
use Rattle.query_alike.proofs.guess.all_sent.Given as goal

abbrev pub invariant-loop-v : goal.invariant-loop-v
invariant-loop-v l = SentBelow l.set l.m l.v
