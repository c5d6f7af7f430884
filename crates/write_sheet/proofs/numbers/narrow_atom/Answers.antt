use Rattle.write_sheet.proofs.NumberLaws.{laws}
use Rattle.write_sheet.proofs.numbers.narrow_atom.Goals as goal

pub returns-then-kind_of-eq0 : goal.returns-then-kind_of-eq0
returns-then-kind_of-eq0 c = search laws

pub returns-else-kind_of-eq0 : goal.returns-else-kind_of-eq0
returns-else-kind_of-eq0 c = search laws
