use Rattle.read_helpers.proofs.ClashLaws.{atom_laws}
use Rattle.read_helpers.proofs.atom_clashes.Goals as goal

pub returns-then-kind_of-ne0 : goal.returns-then-kind_of-ne0
returns-then-kind_of-ne0 c = search atom_laws

pub returns-else-kind_of-ne0 : goal.returns-else-kind_of-ne0
returns-else-kind_of-ne0 c = search atom_laws
