use Rattle.explain_steps.proofs.FillLaws.{FilledSoFar}
use lib.ListN.{length}
use Rattle.words.specs.Words.{rules_in}
use Rattle.explain_steps.proofs.fill_back.Given as goal

abbrev pub invariant-loop-next : goal.invariant-loop-next
invariant-loop-next l = FilledSoFar (rules_in l.rules (length l.rules)) l.table l.n l.k (length l.initial.steps) l.steps l.next l.done

abbrev pub decreases-loop-next : goal.decreases-loop-next
decreases-loop-next l = l.next
