use Rattle.check_closed.proofs.ClosureLaws.{laws}
use Rattle.check_closed.proofs.merges_lead_outside.Goals as goal

pub loop-j-init : goal.loop-j-init
loop-j-init c = search laws

pub leads_outside-requires : goal.leads_outside-requires
leads_outside-requires c = search laws

pub returns-then-leads_outside : goal.returns-then-leads_outside
returns-then-leads_outside c = search laws

pub loop-j-preserved : goal.loop-j-preserved
loop-j-preserved c = search laws

pub returns : goal.returns
returns c = search laws
