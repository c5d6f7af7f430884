use Rattle.read_question.proofs.QuestionTests.{laws}
use Rattle.read_question.proofs.read_question.Goals as goal

pub returns-then-s-eq0 : goal.returns-then-s-eq0
returns-then-s-eq0 c = search laws

pub returns-then-s-question_length : goal.returns-then-s-question_length
returns-then-s-question_length c = search laws

pub returns-then-not-question_sound : goal.returns-then-not-question_sound
returns-then-not-question_sound c = search laws

pub returns : goal.returns
returns c = search laws
