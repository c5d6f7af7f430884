use Rattle.query_steps.proofs.StepLaws.{once_laws}
use Rattle.query_steps.proofs.steps.keep_once.Goals as goal

pub loop-i-init : goal.loop-i-init
loop-i-init c = search once_laws

pub loop-i-preserved : goal.loop-i-preserved
loop-i-preserved c = (search once_laws, search once_laws, search once_laws, search once_laws)

pub returns : goal.returns
returns c = search once_laws
