use Rattle.read_question.proofs.QuestionTests.{laws}
use Rattle.read_question.proofs.stands_in.Goals as goal

pub returns-then-stands : goal.returns-then-stands
returns-then-stands c = search laws

pub loop-a-preserved : goal.loop-a-preserved
loop-a-preserved c = search laws

pub returns : goal.returns
returns c = search laws
