use Rattle.query_renaming.proofs.SearchLaws.{laws}
use Rattle.query_renaming.proofs.search.viable.Goals as goal

pub returns-else-promising : goal.returns-else-promising
returns-else-promising c = search laws
