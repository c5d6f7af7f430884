use Rattle.program_union.proofs.OutputLaws.{laws}
use Rattle.program_union.proofs.put_output.Goals as goal

pub returns : goal.returns
returns c = search laws
