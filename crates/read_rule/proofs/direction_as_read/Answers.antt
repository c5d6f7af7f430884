use Rattle.read_rule.proofs.RuleLaws.{read_laws}
use Rattle.read_rule.proofs.direction_as_read.Goals as goal

pub returns : goal.returns
returns c = search read_laws
