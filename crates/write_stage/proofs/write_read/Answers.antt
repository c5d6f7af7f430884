use Rattle.write_stage.proofs.StageProofs.{stages}
use Rattle.write_stage.proofs.write_read.Goals as goal

pub returns-in-Err : goal.returns-in-Err
returns-in-Err c = search (stages, c.in-Err.ensures.members, c.in-Err.ensures.few)

pub returns-then-sheet-length : goal.returns-then-sheet-length
returns-then-sheet-length c = search (stages, c.in-Ok.ensures.members, c.in-Ok.ensures.few)

pub returns : goal.returns
returns c = search (stages, c.in-Ok.ensures.members, c.in-Ok.ensures.few)
