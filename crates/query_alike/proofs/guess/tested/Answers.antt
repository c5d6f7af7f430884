use Rattle.query_alike.proofs.GuessLaws.{laws}
use Rattle.query_alike.proofs.guess.tested.Goals as goal

pub returns-then-all_sent : goal.returns-then-all_sent
returns-then-all_sent c = search laws
