use Rattle.query_variables.proofs.FreshLaws.{laws}
use Rattle.query_variables.proofs.fresh.fresh.Goals as goal

pub returns : goal.returns
returns c = search laws
