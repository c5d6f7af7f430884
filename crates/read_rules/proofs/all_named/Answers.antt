use Rattle.read_rules.proofs.RuleSheetLaws.{all_laws}
use Rattle.read_rules.proofs.all_named.Goals as goal

pub loop-i-init : goal.loop-i-init
loop-i-init c = search all_laws

pub returns-then-not-is_named : goal.returns-then-not-is_named
returns-then-not-is_named c = search all_laws

pub loop-i-preserved : goal.loop-i-preserved
loop-i-preserved c = search all_laws

pub returns : goal.returns
returns c = search all_laws
