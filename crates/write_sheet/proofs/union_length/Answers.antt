use Rattle.write_sheet.proofs.UnionLaws.{length_laws}
use Rattle.write_sheet.proofs.union_length.Goals as goal

pub loop-j-init : goal.loop-j-init
loop-j-init c = search length_laws

pub loop-j-preserved : goal.loop-j-preserved
loop-j-preserved c = search length_laws

pub returns : goal.returns
returns c = search length_laws
