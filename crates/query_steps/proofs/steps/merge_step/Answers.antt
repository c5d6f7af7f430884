use Rattle.query_steps.proofs.StepLaws.{merge_laws}
use Rattle.query_steps.proofs.steps.merge_step.Goals as goal

pub returns-then-j-i-clause-step : goal.returns-then-j-i-clause-step
returns-then-j-i-clause-step c = search merge_laws

pub returns-then-q-j-clause-step : goal.returns-then-q-j-clause-step
returns-then-q-j-clause-step c = search merge_laws

pub unify-requires : goal.unify-requires
unify-requires c = search merge_laws

pub returns-in_err-unifier-clause-step : goal.returns-in_err-unifier-clause-step
returns-in_err-unifier-clause-step c = search merge_laws

pub returns-clause-step : goal.returns-clause-step
returns-clause-step c = search merge_laws
