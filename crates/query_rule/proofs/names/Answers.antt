use Rattle.query_rule.proofs.RuleLaws.{laws}
use Rattle.query_rule.proofs.names.Goals as goal

pub returns-then-right_name-number_of : goal.returns-then-right_name-number_of
returns-then-right_name-number_of c = search laws

pub returns-else-right_name-number_of : goal.returns-else-right_name-number_of
returns-else-right_name-number_of c = search laws
