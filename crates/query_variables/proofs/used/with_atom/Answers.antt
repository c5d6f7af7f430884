use Rattle.query_variables.proofs.UsedLaws.{laws}
use Rattle.query_variables.proofs.used.with_atom.Goals as goal

pub with_term-first-requires : goal.with_term-first-requires
with_term-first-requires c = search laws

pub with_term-requires : goal.with_term-requires
with_term-requires c = search laws

pub returns-then-kind_of-eq0 : goal.returns-then-kind_of-eq0
returns-then-kind_of-eq0 c = search laws

pub returns-else-kind_of-eq0 : goal.returns-else-kind_of-eq0
returns-else-kind_of-eq0 c = search laws
