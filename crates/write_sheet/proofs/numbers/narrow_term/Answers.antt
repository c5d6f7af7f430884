use Rattle.write_sheet.proofs.NumberLaws.{laws}
use Rattle.write_sheet.proofs.numbers.narrow_term.Goals as goal

pub returns : goal.returns
returns c = search laws
