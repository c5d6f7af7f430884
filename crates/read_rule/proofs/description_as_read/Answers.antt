use Rattle.read_rule.proofs.RuleLaws.{read_laws}
use Rattle.read_rule.proofs.description_as_read.Goals as goal

pub returns-then-form-eq0 : goal.returns-then-form-eq0
returns-then-form-eq0 c = search read_laws

pub returns-then-is_higher : goal.returns-then-is_higher
returns-then-is_higher c = search read_laws

pub returns-else-is_higher : goal.returns-else-is_higher
returns-else-is_higher c = search read_laws
