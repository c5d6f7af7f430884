use Rattle.query_renaming.proofs.SearchLaws.{laws}
use Rattle.query_renaming.proofs.search.has_target.Goals as goal

pub loop-x-preserved : goal.loop-x-preserved
loop-x-preserved c = search laws

pub returns : goal.returns
returns c = search laws
