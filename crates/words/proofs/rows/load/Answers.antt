use Rattle.words.proofs.RowLaws.{laws}
use Rattle.words.proofs.rows.load.Goals as goal

pub returns : goal.returns
returns c = search laws
