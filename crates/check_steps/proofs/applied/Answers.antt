use Rattle.check_steps.proofs.WrittenLaws.{laws}
use Rattle.check_steps.proofs.applied.Goals as goal

pub returns-in-1-clause-step : goal.returns-in-1-clause-step
returns-in-1-clause-step c = search laws

pub returns-in-2-clause-step : goal.returns-in-2-clause-step
returns-in-2-clause-step c = search laws

pub returns-in_default-clause-step : goal.returns-in_default-clause-step
returns-in_default-clause-step c = search laws
