use Rattle.query_key.proofs.TermLaws.{laws}
use Rattle.query_key.proofs.scrambled.Goals as goal

pub returns : goal.returns
returns c = search laws
