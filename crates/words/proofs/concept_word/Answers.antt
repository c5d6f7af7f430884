use Rattle.words.proofs.WordLaws.{laws}
use Rattle.words.proofs.concept_word.Goals as goal

pub returns : goal.returns
returns c = search laws
