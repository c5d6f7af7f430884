use Rattle.read_question.proofs.QuestionLaws.{laws}
use Rattle.read_question.proofs.question_sound.Goals as goal

pub returns-in-0-to-4-1-to-8 : goal.returns-in-0-to-4-1-to-8
returns-in-0-to-4-1-to-8 c = search laws

pub returns-in_default : goal.returns-in_default
returns-in_default c = search laws

pub returns-in_default-2 : goal.returns-in_default-2
returns-in_default-2 c = search laws

pub returns-in_default-3 : goal.returns-in_default-3
returns-in_default-3 c = search laws
