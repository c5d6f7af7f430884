use Rattle.read_rule.proofs.RuleLaws.{rule_laws}
use Rattle.read_rule.proofs.concept_rule_as_read.Goals as goal

pub description_as_read-left-requires : goal.description_as_read-left-requires
description_as_read-left-requires c = search rule_laws

pub description_as_read-right-requires : goal.description_as_read-right-requires
description_as_read-right-requires c = search rule_laws

pub returns : goal.returns
returns c = search rule_laws
