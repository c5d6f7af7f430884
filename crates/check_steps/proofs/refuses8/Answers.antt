use Rattle.check_steps.proofs.WrittenLaws.{laws}
use Rattle.check_steps.proofs.refuses8.Goals as goal

pub returns-then-is_none : goal.returns-then-is_none
returns-then-is_none c = search laws

pub loop-k-preserved : goal.loop-k-preserved
loop-k-preserved c = search laws

pub returns : goal.returns
returns c = search laws
