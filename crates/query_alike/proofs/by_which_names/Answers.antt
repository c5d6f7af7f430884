use Rattle.query_alike.proofs.GuessLaws.{laws}
use Rattle.query_alike.proofs.by_which_names.Goals as goal

pub returns-else-key_of : goal.returns-else-key_of
returns-else-key_of c = search laws
