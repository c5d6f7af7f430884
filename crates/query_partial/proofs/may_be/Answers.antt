use Rattle.query_partial.proofs.PartialLaws.{term_laws}
use Rattle.query_partial.proofs.may_be.Goals as goal

pub returns-then-t-lt32 : goal.returns-then-t-lt32
returns-then-t-lt32 c = search term_laws

pub returns-else-t-lt32 : goal.returns-else-t-lt32
returns-else-t-lt32 c = search term_laws

pub returns-else-s-lt32 : goal.returns-else-s-lt32
returns-else-s-lt32 c = search term_laws
