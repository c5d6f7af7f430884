use Rattle.read_helpers.proofs.ClashLaws.{either_laws}
use Rattle.read_helpers.proofs.drawn_clashes.Goals as goal

pub returns-else-clash : goal.returns-else-clash
returns-else-clash c = search either_laws
