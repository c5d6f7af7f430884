use Rattle.query_key.proofs.TermLaws.{laws}
use Rattle.query_key.proofs.mixed_atom.Goals as goal

pub colour_of-x-requires : goal.colour_of-x-requires
colour_of-x-requires c = search laws

pub colour_of-y-requires : goal.colour_of-y-requires
colour_of-y-requires c = search laws

pub returns-then-kind_of-eq0 : goal.returns-then-kind_of-eq0
returns-then-kind_of-eq0 c = search laws

pub returns-else-kind_of-eq0 : goal.returns-else-kind_of-eq0
returns-else-kind_of-eq0 c = search laws
