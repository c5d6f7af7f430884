use Rattle.query_variables.proofs.UnboundLaws.{laws}
use Rattle.query_variables.proofs.unbound.places_of.Goals as goal

pub returns-then-kind_of-eq0 : goal.returns-then-kind_of-eq0
returns-then-kind_of-eq0 c = search laws

pub returns-else-kind_of-eq0 : goal.returns-else-kind_of-eq0
returns-else-kind_of-eq0 c = search laws
