use lib.ListN.{length}
use Rattle.words.specs.Words.{rules_in}
use Rattle.check_steps.proofs.WrittenLaws.{RightBefore}
use Rattle.check_steps.proofs.check_written.Given as goal

abbrev pub invariant-loop-k : goal.invariant-loop-k
invariant-loop-k l = RightBefore (rules_in l.rules (length l.rules)) l.table l.n l.k
