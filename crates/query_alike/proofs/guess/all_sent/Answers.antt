use Rattle.query_alike.proofs.GuessLaws.{laws}
use Rattle.query_alike.proofs.guess.all_sent.Goals as goal

pub returns : goal.returns
returns c = search laws
