use Rattle.write_sheet.proofs.NumberLaws.{laws}
use Rattle.write_sheet.proofs.numbers.put_number.Goals as goal

pub loop-k-preserved : goal.loop-k-preserved
loop-k-preserved c = search laws

pub returns : goal.returns
returns c = search laws
