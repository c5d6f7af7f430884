use Rattle.read_question.proofs.QuestionLaws.{laws}
use Rattle.read_question.proofs.answers_sound.Goals as goal

pub loop-i-init : goal.loop-i-init
loop-i-init c = search laws

pub returns-then-not-answer_sound : goal.returns-then-not-answer_sound
returns-then-not-answer_sound c = search laws

pub loop-i-preserved : goal.loop-i-preserved
loop-i-preserved c = search laws

pub returns : goal.returns
returns c = search laws
