use Rattle.query_sets.proofs.SetLaws.{laws}
use Rattle.query_sets.proofs.has.Goals as goal

pub overflow_shr-result : goal.overflow_shr-result
overflow_shr-result c = search laws

pub returns : goal.returns
returns c = search laws
