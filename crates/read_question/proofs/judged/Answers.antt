use Rattle.read_question.proofs.QuestionTests.{laws}
use Rattle.read_question.proofs.judged.Goals as goal

pub returns-then-missing_answer : goal.returns-then-missing_answer
returns-then-missing_answer c = search laws

pub returns-then-repeated_atom : goal.returns-then-repeated_atom
returns-then-repeated_atom c = search laws

pub returns : goal.returns
returns c = search laws
