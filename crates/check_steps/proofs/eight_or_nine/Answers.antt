use Rattle.check_steps.proofs.WrittenLaws.{laws}
use Rattle.check_steps.proofs.eight_or_nine.Goals as goal

pub returns-then-refuses8 : goal.returns-then-refuses8
returns-then-refuses8 c = search laws

pub returns-else-refuses8 : goal.returns-else-refuses8
returns-else-refuses8 c = search laws
