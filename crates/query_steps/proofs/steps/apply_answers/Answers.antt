use Rattle.query_steps.proofs.StepLaws.{fill_laws}
use Rattle.query_steps.proofs.steps.apply_answers.Goals as goal

pub returns : goal.returns
returns c = search fill_laws

pub apply-requires : goal.apply-requires
apply-requires c = search fill_laws
