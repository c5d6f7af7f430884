use Rattle.query_alike.proofs.GuessLaws.{laws}
use Rattle.query_alike.proofs.guess.guess_atom.Goals as goal

pub fits-requires : goal.fits-requires
fits-requires c = search laws
