use Rattle.read_rule.proofs.PairLaws.{word_laws}
use Rattle.read_rule.proofs.pair.has_helper.Goals as goal

pub returns : goal.returns
returns c = search word_laws
