use Rattle.query_rule.proofs.RuleLaws.{laws}
use Rattle.query_rule.proofs.rewrite_atom.Goals as goal

pub returns-then-not-names-clause-made : goal.returns-then-not-names-clause-made
returns-then-not-names-clause-made c = search laws

pub returns-clause-made : goal.returns-clause-made
returns-clause-made c = search laws

pub returns-clause-low : goal.returns-clause-low
returns-clause-low c = search laws
