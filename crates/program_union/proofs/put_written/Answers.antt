use Rattle.program_union.proofs.OutputLaws.{laws}
use Rattle.program_union.proofs.put_written.Goals as goal

pub returns-in-Ok-clause-output : goal.returns-in-Ok-clause-output
returns-in-Ok-clause-output c = search (laws, c.in-Ok.ensures)

pub returns-in-Ok-clause-error : goal.returns-in-Ok-clause-error
returns-in-Ok-clause-error c = search (laws, c.in-Ok.ensures)

pub returns-in-Err-clause-output : goal.returns-in-Err-clause-output
returns-in-Err-clause-output c = search (laws, c.in-Err.ensures)

pub returns-in-Err-clause-error : goal.returns-in-Err-clause-error
returns-in-Err-clause-error c = search (laws, c.in-Err.ensures)
