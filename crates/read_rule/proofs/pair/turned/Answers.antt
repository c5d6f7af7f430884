use Rattle.read_rule.proofs.PairLaws.{word_laws}
use Rattle.read_rule.proofs.pair.turned.Goals as goal

pub returns-then-higher : goal.returns-then-higher
returns-then-higher c = search word_laws

pub returns-else-higher : goal.returns-else-higher
returns-else-higher c = search word_laws
