use Rattle.query_key.proofs.LoopLaws.{laws}
use Rattle.query_key.proofs.atoms_sum.Goals as goal

pub loop-i-init : goal.loop-i-init
loop-i-init c = search laws

pub mixed_atom-sum-requires : goal.mixed_atom-sum-requires
mixed_atom-sum-requires c = search laws

pub loop-i-preserved : goal.loop-i-preserved
loop-i-preserved c = search laws

pub returns : goal.returns
returns c = search laws
