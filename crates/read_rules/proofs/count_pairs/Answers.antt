use Rattle.read_rules.proofs.RuleSheetLaws.{count_laws}
use Rattle.read_rules.proofs.count_pairs.Goals as goal
use Rattle.read_rules.proofs.count_pairs.Goals.{then-rule_kind-eq3, else-rule_kind-eq3}

pub loop-i-init : goal.loop-i-init
loop-i-init c = search count_laws

pub loop-i-preserved : goal.loop-i-preserved
loop-i-preserved c = elim c.if-rule_kind-eq3.branch [ then-rule_kind-eq3 w ↦ search count_laws | else-rule_kind-eq3 w ↦ search count_laws ]

pub returns : goal.returns
returns c = search count_laws
