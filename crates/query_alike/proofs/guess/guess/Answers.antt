use Rattle.query_alike.proofs.GuessLaws.{laws}
use Rattle.query_alike.proofs.guess.guess.Goals as goal

pub loop-i-init : goal.loop-i-init
loop-i-init c = search laws

pub guess_atom-m-requires : goal.guess_atom-m-requires
guess_atom-m-requires c = search laws
