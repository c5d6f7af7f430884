use Rattle.explain_steps.proofs.StepsLaws.{Climbed}
use Rattle.explain_steps.proofs.parents_behind.Given as goal

abbrev pub invariant-loop-at : goal.invariant-loop-at
invariant-loop-at l = Climbed l.table l.n l.k l.at l.count

abbrev pub decreases-loop-at : goal.decreases-loop-at
decreases-loop-at l = l.at
