use Rattle.query_variables.proofs.UnboundLaws.{laws}
use Rattle.query_variables.proofs.unbound.in_answers.Goals as goal

pub returns-then-same_term : goal.returns-then-same_term
returns-then-same_term c = search laws

pub loop-i-preserved : goal.loop-i-preserved
loop-i-preserved c = search laws

pub returns : goal.returns
returns c = search laws
