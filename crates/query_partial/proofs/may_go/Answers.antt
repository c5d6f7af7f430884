use Rattle.query_partial.proofs.PartialLaws.{term_laws}
use Rattle.query_partial.proofs.may_go.Goals as goal

pub returns-then-u-eq32 : goal.returns-then-u-eq32
returns-then-u-eq32 c = search term_laws

pub returns-else-u-eq32 : goal.returns-else-u-eq32
returns-else-u-eq32 c = search term_laws
