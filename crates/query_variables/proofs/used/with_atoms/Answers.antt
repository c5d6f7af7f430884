use Rattle.query_variables.proofs.UsedLaws.{laws}
use Rattle.query_variables.proofs.used.with_atoms.Goals as goal

pub loop-k-init : goal.loop-k-init
loop-k-init c = search laws

pub with_atom-all-requires : goal.with_atom-all-requires
with_atom-all-requires c = search laws

pub loop-k-preserved : goal.loop-k-preserved
loop-k-preserved c = search laws

pub returns : goal.returns
returns c = search laws
