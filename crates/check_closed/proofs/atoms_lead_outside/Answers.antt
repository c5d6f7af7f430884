use Rattle.check_closed.proofs.ClosureLaws.{laws}
use Rattle.check_closed.proofs.atoms_lead_outside.Goals as goal

pub returns-then-rules_lead_outside : goal.returns-then-rules_lead_outside
returns-then-rules_lead_outside c = search laws

pub loop-i-preserved : goal.loop-i-preserved
loop-i-preserved c = search laws

pub returns : goal.returns
returns c = search laws
