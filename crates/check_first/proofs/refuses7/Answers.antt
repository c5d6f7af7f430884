use Rattle.check_first.proofs.StartLaws.{laws}
use Rattle.check_first.proofs.refuses7.Goals as goal

pub returns-then-n-eq0 : goal.returns-then-n-eq0
returns-then-n-eq0 c = search laws

pub returns-then-not-zero_step : goal.returns-then-not-zero_step
returns-then-not-zero_step c = search laws

pub returns-else-not-zero_step : goal.returns-else-not-zero_step
returns-else-not-zero_step c = search laws
