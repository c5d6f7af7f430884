use Rattle.check_steps.proofs.WrittenLaws.{laws}
use Rattle.check_steps.proofs.rule_at.Goals as goal

pub returns-then-rules-k-clause-step : goal.returns-then-rules-k-clause-step
returns-then-rules-k-clause-step c = search laws

pub returns-clause-step : goal.returns-clause-step
returns-clause-step c = search laws
