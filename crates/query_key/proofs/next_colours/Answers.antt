use Rattle.query_key.proofs.LoopLaws.{laws}
use Rattle.query_key.proofs.next_colours.Goals as goal

pub loop-i-init : goal.loop-i-init
loop-i-init c = search laws

pub give_atom-requires : goal.give_atom-requires
give_atom-requires c = search laws

pub loop-i-preserved : goal.loop-i-preserved
loop-i-preserved c = search laws

pub returns : goal.returns
returns c = search laws
