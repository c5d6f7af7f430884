use Rattle.check_distinct.proofs.KeyLaws.{laws}
use Rattle.check_distinct.proofs.alike_at.Goals as goal

pub returns-then-members-j : goal.returns-then-members-j
returns-then-members-j c = search laws
