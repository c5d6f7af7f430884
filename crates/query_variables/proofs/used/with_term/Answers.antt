use Rattle.query_variables.proofs.UsedLaws.{laws}
use Rattle.query_variables.proofs.used.with_term.Goals as goal

pub returns-then-t-lt32 : goal.returns-then-t-lt32
returns-then-t-lt32 c = search laws

pub returns-else-t-lt32 : goal.returns-else-t-lt32
returns-else-t-lt32 c = search laws
