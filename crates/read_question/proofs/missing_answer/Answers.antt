use Rattle.read_question.proofs.QuestionTests.{laws}
use Rattle.read_question.proofs.missing_answer.Goals as goal

pub returns-then-not-covered : goal.returns-then-not-covered
returns-then-not-covered c = search laws

pub loop-t-preserved : goal.loop-t-preserved
loop-t-preserved c = search laws

pub returns : goal.returns
returns c = search laws
