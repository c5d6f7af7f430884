use Rattle.words.proofs.StepLaws.{laws}
use Rattle.words.proofs.steps.step_word.Goals as goal

pub returns : goal.returns
returns c = search laws
