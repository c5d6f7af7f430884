use Rattle.query_alike.proofs.GuessLaws.{laws}
use Rattle.query_alike.proofs.alike.Goals as goal

pub returns-then-guessed : goal.returns-then-guessed
returns-then-guessed c = search laws

pub returns-then-guessed-2 : goal.returns-then-guessed-2
returns-then-guessed-2 c = search laws

pub returns : goal.returns
returns c = search laws
