use Rattle.check_chains.proofs.ChainLaws.{laws}
use Rattle.check_chains.proofs.chain.Goals as goal

pub loop-j-init : goal.loop-j-init
loop-j-init c = search laws

pub loop-j-preserved : goal.loop-j-preserved
loop-j-preserved c = search laws

pub returns : goal.returns
returns c = search laws
