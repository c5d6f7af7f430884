use Rattle.read_rule.proofs.RuleLaws.{form_laws}
use Rattle.read_rule.proofs.follows.Goals as goal

pub returns-then-rule_kind-waits : goal.returns-then-rule_kind-waits
returns-then-rule_kind-waits c = search form_laws

pub returns-else-rule_kind-waits : goal.returns-else-rule_kind-waits
returns-else-rule_kind-waits c = search form_laws
