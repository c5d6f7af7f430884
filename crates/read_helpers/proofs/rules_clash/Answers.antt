use Rattle.read_helpers.proofs.ClashLaws.{rules_laws}
use Rattle.read_helpers.proofs.rules_clash.Goals as goal

pub loop-i-init : goal.loop-i-init
loop-i-init c = search rules_laws

pub returns-then-record_clashes : goal.returns-then-record_clashes
returns-then-record_clashes c = search rules_laws

pub loop-i-preserved : goal.loop-i-preserved
loop-i-preserved c = search rules_laws

pub returns : goal.returns
returns c = search rules_laws
