use Rattle.query_partial.proofs.PartialLaws.{atom_laws}
use Rattle.query_partial.proofs.may_atom.Goals as goal

pub returns-else-same_predicate : goal.returns-else-same_predicate
returns-else-same_predicate c = search atom_laws
