use Rattle.query_sets.proofs.SetLaws.{laws}
use Rattle.query_sets.proofs.lowest_missing.Goals as goal

pub returns : goal.returns
returns c = search laws
