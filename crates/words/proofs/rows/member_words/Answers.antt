use Rattle.words.proofs.NewRowLaws.{laws}
use Rattle.words.proofs.rows.member_words.Goals as goal

pub returns : goal.returns
returns c = search laws
