use Rattle.query_rule.proofs.RuleLaws.{laws}
use Rattle.query_rule.proofs.describe.Goals as goal

pub returns-in_err-t-clause-made : goal.returns-in_err-t-clause-made
returns-in_err-t-clause-made c = search laws

pub returns-clause-made : goal.returns-clause-made
returns-clause-made c = search laws

pub returns-clause-low : goal.returns-clause-low
returns-clause-low c = search laws
