use Rattle.read_helpers.proofs.ClashLaws.{side_laws}
use Rattle.read_helpers.proofs.is_helper.Goals as goal

pub returns : goal.returns
returns c = search side_laws
