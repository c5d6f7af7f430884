use Rattle.write_sheet.proofs.QuestionLaws.{record_laws}
use Rattle.write_sheet.proofs.questions.put_answers.Goals as goal

pub loop-i-init : goal.loop-i-init
loop-i-init c = search record_laws

pub loop-i-preserved : goal.loop-i-preserved
loop-i-preserved c = search record_laws

pub returns : goal.returns
returns c = search record_laws
