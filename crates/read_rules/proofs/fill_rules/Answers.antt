use Rattle.read_rules.proofs.FillLaws.{fill_laws}
use Rattle.read_rules.proofs.fill_rules.Goals as goal

pub loop-i-init : goal.loop-i-init
loop-i-init c = search fill_laws

pub returns : goal.returns
returns c = search fill_laws

pub four-y-requires : goal.four-y-requires
four-y-requires c = search fill_laws

pub put_pair-requires : goal.put_pair-requires
put_pair-requires c = search fill_laws

pub loop-i-preserved-then-rule_kind-eq3 : goal.loop-i-preserved-then-rule_kind-eq3
loop-i-preserved-then-rule_kind-eq3 c = search fill_laws

pub rule_as_read-requires : goal.rule_as_read-requires
rule_as_read-requires c = search fill_laws

pub bounds-table-count : goal.bounds-table-count
bounds-table-count c = search fill_laws

pub loop-i-preserved : goal.loop-i-preserved
loop-i-preserved c = search fill_laws
