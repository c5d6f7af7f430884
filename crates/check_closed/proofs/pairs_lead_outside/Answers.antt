use Rattle.check_closed.proofs.ClosureLaws.{laws}
use Rattle.check_closed.proofs.pairs_lead_outside.Goals as goal

pub returns-then-merges_lead_outside : goal.returns-then-merges_lead_outside
returns-then-merges_lead_outside c = search laws

pub loop-first-preserved : goal.loop-first-preserved
loop-first-preserved c = search laws

pub returns : goal.returns
returns c = search laws
