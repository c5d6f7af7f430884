use Rattle.read_question.proofs.QuestionLaws.{laws}
use Rattle.read_question.proofs.read_query.Goals as goal

pub read_answers-answers-requires : goal.read_answers-answers-requires
read_answers-answers-requires c = search laws

pub read_atoms-atoms-requires : goal.read_atoms-atoms-requires
read_atoms-atoms-requires c = search laws

pub returns : goal.returns
returns c = search laws
