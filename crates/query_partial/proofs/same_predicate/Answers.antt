use Rattle.query_partial.proofs.PartialLaws.{atom_laws}
use Rattle.query_partial.proofs.same_predicate.Goals as goal

pub returns-then-kind_of : goal.returns-then-kind_of
returns-then-kind_of c = search atom_laws

pub returns-else-kind_of : goal.returns-else-kind_of
returns-else-kind_of c = search atom_laws
