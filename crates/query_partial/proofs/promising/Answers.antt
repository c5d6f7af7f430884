use Rattle.query_partial.proofs.PartialLaws.{promising_laws}
use Rattle.query_partial.proofs.promising.Goals as goal

pub returns-then-all_go : goal.returns-then-all_go
returns-then-all_go c = search promising_laws

pub returns-else-all_go : goal.returns-else-all_go
returns-else-all_go c = search promising_laws
