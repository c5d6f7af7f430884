use Rattle.words.proofs.WordLaws.{laws}
use Rattle.words.proofs.role_word.Goals as goal

pub returns : goal.returns
returns c = search laws
