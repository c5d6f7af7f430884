use Rattle.read_helpers.proofs.ClashLaws.{atom_laws}
use Rattle.read_helpers.proofs.fact_clashes.Goals as goal

pub returns-then-fact_kind-ne0 : goal.returns-then-fact_kind-ne0
returns-then-fact_kind-ne0 c = search atom_laws

pub returns-else-fact_kind-ne0 : goal.returns-else-fact_kind-ne0
returns-else-fact_kind-ne0 c = search atom_laws
