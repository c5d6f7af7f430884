use Rattle.query_renaming.proofs.SearchLaws.{laws}
use Rattle.query_renaming.proofs.search.rename.Goals as goal

pub first_of-requires : goal.first_of-requires
first_of-requires c = search laws

pub returns-then-promising : goal.returns-then-promising
returns-then-promising c = search laws

pub returns-else-promising : goal.returns-else-promising
returns-else-promising c = search laws
