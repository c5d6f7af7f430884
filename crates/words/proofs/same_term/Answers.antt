use Rattle.words.proofs.WordLaws.{laws}
use Rattle.words.proofs.same_term.Goals as goal

pub returns : goal.returns
returns c = search laws
