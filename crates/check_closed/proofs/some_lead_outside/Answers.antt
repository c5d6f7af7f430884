use Rattle.check_closed.proofs.ClosureLaws.{laws}
use Rattle.check_closed.proofs.some_lead_outside.Goals as goal

pub returns-then-member_leads_outside : goal.returns-then-member_leads_outside
returns-then-member_leads_outside c = search laws

pub loop-m-preserved : goal.loop-m-preserved
loop-m-preserved c = search laws

pub returns : goal.returns
returns c = search laws
