use Rattle.query_renaming.proofs.SearchLaws.{laws}
use Rattle.query_renaming.proofs.search.offers.Goals as goal

pub returns-then-free : goal.returns-then-free
returns-then-free c = search laws

pub returns-else-free : goal.returns-else-free
returns-else-free c = search laws
