use Rattle.read_question.proofs.QuestionTests.{laws}
use Rattle.read_question.proofs.repeated_atom.Goals as goal

pub returns-then-stands_among : goal.returns-then-stands_among
returns-then-stands_among c = search laws

pub loop-i-preserved : goal.loop-i-preserved
loop-i-preserved c = search laws

pub returns : goal.returns
returns c = search laws
