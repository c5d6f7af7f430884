use Rattle.check_closed.proofs.ClosureLaws.{laws}
use Rattle.check_closed.proofs.member_leads_outside.Goals as goal

pub returns-then-atoms_lead_outside : goal.returns-then-atoms_lead_outside
returns-then-atoms_lead_outside c = search laws

pub returns-else-atoms_lead_outside : goal.returns-else-atoms_lead_outside
returns-else-atoms_lead_outside c = search laws
