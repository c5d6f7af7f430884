use Rattle.check_first.proofs.StartLaws.{laws}
use Rattle.check_first.proofs.same_query.Goals as goal

pub returns-then-p-q : goal.returns-then-p-q
returns-then-p-q c = search laws

pub returns-then-p-q-2 : goal.returns-then-p-q-2
returns-then-p-q-2 c = search laws

pub returns-then-equal_terms : goal.returns-then-equal_terms
returns-then-equal_terms c = search laws

pub returns-else-equal_terms : goal.returns-else-equal_terms
returns-else-equal_terms c = search laws
