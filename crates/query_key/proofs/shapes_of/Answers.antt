use Rattle.query_key.proofs.RoundLaws.{laws}
use Rattle.query_key.proofs.shapes_of.Goals as goal

pub returns : goal.returns
returns c = search laws
