use Rattle.query_key.proofs.TermLaws.{laws}
use Rattle.query_key.proofs.give_atom.Goals as goal

pub give-requires : goal.give-requires
give-requires c = search laws

pub give-requires-then-kind_of-ne0 : goal.give-requires-then-kind_of-ne0
give-requires-then-kind_of-ne0 c = search laws

pub returns-then-kind_of-ne0 : goal.returns-then-kind_of-ne0
returns-then-kind_of-ne0 c = search laws

pub returns-else-kind_of-ne0 : goal.returns-else-kind_of-ne0
returns-else-kind_of-ne0 c = search laws
