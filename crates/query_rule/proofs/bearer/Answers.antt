use Rattle.query_rule.proofs.RuleLaws.{laws}
use Rattle.query_rule.proofs.bearer.Goals as goal

pub returns-in-0-clause-bears : goal.returns-in-0-clause-bears
returns-in-0-clause-bears c = search laws

pub returns-in-1-clause-bears : goal.returns-in-1-clause-bears
returns-in-1-clause-bears c = search laws

pub returns-in_default-clause-bears : goal.returns-in_default-clause-bears
returns-in_default-clause-bears c = search laws
