use Rattle.query_partial.proofs.PartialLaws.{atom_laws}
use Rattle.query_partial.proofs.may_terms.Goals as goal

pub may_be-requires : goal.may_be-requires
may_be-requires c = search atom_laws

pub may_be-requires-else-kind_of-eq0 : goal.may_be-requires-else-kind_of-eq0
may_be-requires-else-kind_of-eq0 c = (search atom_laws, search atom_laws, search atom_laws, search atom_laws)

pub returns-then-kind_of-eq0 : goal.returns-then-kind_of-eq0
returns-then-kind_of-eq0 c = search atom_laws

pub returns-else-kind_of-eq0 : goal.returns-else-kind_of-eq0
returns-else-kind_of-eq0 c = search atom_laws

pub returns-else-may_be : goal.returns-else-may_be
returns-else-may_be c = search atom_laws
