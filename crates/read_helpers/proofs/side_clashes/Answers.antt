use Rattle.read_helpers.proofs.ClashLaws.{side_laws}
use Rattle.read_helpers.proofs.side_clashes.Goals as goal

pub returns-then-form-ne0 : goal.returns-then-form-ne0
returns-then-form-ne0 c = search side_laws

pub returns-else-form-ne0 : goal.returns-else-form-ne0
returns-else-form-ne0 c = search side_laws
