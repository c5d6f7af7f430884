use Rattle.query_variables.proofs.UnboundLaws.{laws}
use Rattle.query_variables.proofs.unbound.count_places.Goals as goal

pub loop-i-preserved : goal.loop-i-preserved
loop-i-preserved c = search laws

pub returns : goal.returns
returns c = search laws
