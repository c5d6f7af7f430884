use Rattle.check_steps.proofs.WrittenLaws.{laws}
use Rattle.check_steps.proofs.yielded.Goals as goal

pub returns-then-k-parent-clause-step : goal.returns-then-k-parent-clause-step
returns-then-k-parent-clause-step c = search laws

pub returns-clause-step : goal.returns-clause-step
returns-clause-step c = search laws
