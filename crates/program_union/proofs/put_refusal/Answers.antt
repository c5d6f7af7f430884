use Rattle.program_union.proofs.OutputLaws.{laws}
use Rattle.program_union.proofs.put_refusal.Goals as goal

pub put_drawn-requires : goal.put_drawn-requires
put_drawn-requires c = search laws

pub returns : goal.returns
returns c = search laws
