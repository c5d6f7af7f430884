use Rattle.write_sheet.proofs.QuestionLaws.{laws}
use Rattle.write_sheet.proofs.questions.put_question.Goals as goal

pub put_number-requires : goal.put_number-requires
put_number-requires c = search laws

pub put_answers-requires : goal.put_answers-requires
put_answers-requires c = search laws

pub put_atoms-requires : goal.put_atoms-requires
put_atoms-requires c = (search laws, search laws)

pub returns : goal.returns
returns c = search laws
