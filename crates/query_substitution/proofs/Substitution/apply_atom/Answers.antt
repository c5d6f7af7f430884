use Rattle.query_substitution.proofs.SubstitutionLaws.{atom_laws}
use Rattle.query_substitution.proofs.Substitution.apply_atom.Goals as goal

pub apply-first-requires : goal.apply-first-requires
apply-first-requires c = search atom_laws

pub apply-second-requires : goal.apply-second-requires
apply-second-requires c = search atom_laws

pub returns-then-kind-eq0 : goal.returns-then-kind-eq0
returns-then-kind-eq0 c = search atom_laws

pub returns-else-kind-eq0 : goal.returns-else-kind-eq0
returns-else-kind-eq0 c = search atom_laws
