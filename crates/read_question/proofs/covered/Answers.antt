use Rattle.read_question.proofs.QuestionTests.{laws}
use Rattle.read_question.proofs.covered.Goals as goal

pub returns-then-not-is_variable : goal.returns-then-not-is_variable
returns-then-not-is_variable c = search laws

pub returns-else-not-is_variable : goal.returns-else-not-is_variable
returns-else-not-is_variable c = search laws
