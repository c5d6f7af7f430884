use Rattle.write_sheet.proofs.QuestionLaws.{laws}
use Rattle.write_sheet.proofs.questions.packed_length.Goals as goal

pub returns : goal.returns
returns c = search laws
