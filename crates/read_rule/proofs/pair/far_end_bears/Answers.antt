use Rattle.read_rule.proofs.PairLaws.{word_laws}
use Rattle.read_rule.proofs.pair.far_end_bears.Goals as goal

pub returns : goal.returns
returns c = search word_laws
