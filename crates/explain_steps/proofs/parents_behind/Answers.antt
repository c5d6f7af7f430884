use Rattle.explain_steps.proofs.StepsLaws.{climb_laws}
use Rattle.explain_steps.proofs.parents_behind.Goals as goal

pub loop-at-smaller : goal.loop-at-smaller
loop-at-smaller c = search climb_laws

pub loop-at-preserved : goal.loop-at-preserved
loop-at-preserved c = search climb_laws

pub returns : goal.returns
returns c = search climb_laws
