use Rattle.check_union.proofs.CheckLaws.{laws}
use Rattle.check_union.proofs.decide_indexed.Goals as goal

pub chain-requires : goal.chain-requires
chain-requires c = search laws
