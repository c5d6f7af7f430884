use Rattle.check_closed.proofs.RuleTables.{laws}
use Rattle.check_closed.proofs.some_by_chains.Goals as goal

pub chain-requires : goal.chain-requires
chain-requires c = search laws

pub returns : goal.returns
returns c = search laws
