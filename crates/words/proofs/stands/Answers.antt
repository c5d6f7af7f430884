use Rattle.words.proofs.WordLaws.{laws}
use Rattle.words.proofs.stands.Goals as goal

pub returns-then-same_term : goal.returns-then-same_term
returns-then-same_term c = search laws

pub returns-then-kind_of-ne0 : goal.returns-then-kind_of-ne0
returns-then-kind_of-ne0 c = search laws

pub returns-else-kind_of-ne0 : goal.returns-else-kind_of-ne0
returns-else-kind_of-ne0 c = search laws
