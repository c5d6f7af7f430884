use Rattle.check_closed.proofs.ClosureLaws.{laws, rule_sound}
use Rattle.check_closed.proofs.RuleTables.{once_laws}
use Rattle.check_closed.proofs.rule_leads_outside.Goals as goal

pub returns-then-not-names : goal.returns-then-not-names
returns-then-not-names c = search (laws, once_laws)

pub returns-then-repeated : goal.returns-then-repeated
returns-then-repeated c = search once_laws

pub leads_outside-requires : goal.leads_outside-requires
leads_outside-requires c = rule_sound _ _ _ _ c.rule_step.ensures.step c.rule_step.ensures.small

pub returns : goal.returns
returns c = search (laws, once_laws)
