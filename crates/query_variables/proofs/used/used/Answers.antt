use Rattle.query_variables.proofs.UsedLaws.{laws}
use Rattle.query_variables.proofs.used.used.Goals as goal

pub returns : goal.returns
returns c = search laws
