use Rattle.check_closed.proofs.RuleTables.{chain_laws}
use Rattle.check_closed.proofs.rules_lead_outside.Goals as goal

pub loop-at-init : goal.loop-at-init
loop-at-init c = search chain_laws

pub returns-then-rule_leads_outside : goal.returns-then-rule_leads_outside
returns-then-rule_leads_outside c = search chain_laws

pub returns : goal.returns
returns c = search chain_laws
