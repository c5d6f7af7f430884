use Rattle.query_sets.proofs.SetLaws.{laws}
use Rattle.query_sets.proofs.with.Goals as goal

pub overflow_shl-result : goal.overflow_shl-result
overflow_shl-result c = search laws

pub returns : goal.returns
returns c = search laws
