use Rattle.write_sheet.proofs.NumberLaws.{laws}
use Rattle.write_sheet.proofs.numbers.put_answer.Goals as goal

pub returns : goal.returns
returns c = search laws
