use Rattle.read_rule.proofs.RuleLaws.{read_laws}
use Rattle.read_rule.proofs.flipped.Goals as goal

pub returns-then-higher : goal.returns-then-higher
returns-then-higher c = search read_laws

pub returns-else-higher : goal.returns-else-higher
returns-else-higher c = search read_laws
