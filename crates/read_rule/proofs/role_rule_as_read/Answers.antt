use Rattle.read_rule.proofs.RuleLaws.{rule_laws}
use Rattle.read_rule.proofs.role_rule_as_read.Goals as goal

pub direction_as_read-direction-requires : goal.direction_as_read-direction-requires
direction_as_read-direction-requires c = search rule_laws

pub returns : goal.returns
returns c = search rule_laws
