use Rattle.query_key.proofs.TermLaws.{laws}
use Rattle.query_key.proofs.colour_of.Goals as goal

pub returns-then-t-lt32 : goal.returns-then-t-lt32
returns-then-t-lt32 c = search laws

pub returns-else-t-lt32 : goal.returns-else-t-lt32
returns-else-t-lt32 c = search laws
