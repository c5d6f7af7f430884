use Rattle.read_question.proofs.QuestionLaws.{laws}
use Rattle.read_question.proofs.read_answers.Goals as goal

pub loop-i-init : goal.loop-i-init
loop-i-init c = search laws

pub widen_term-requires : goal.widen_term-requires
widen_term-requires c = search laws

pub loop-i-preserved : goal.loop-i-preserved
loop-i-preserved c = (search laws, search laws, search laws)

pub returns : goal.returns
returns c = search laws
