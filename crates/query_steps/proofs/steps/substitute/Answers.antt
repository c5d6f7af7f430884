use Rattle.query_steps.proofs.StepLaws.{sent_laws}
use Rattle.query_steps.proofs.steps.substitute.Goals as goal

pub keep_once-requires : goal.keep_once-requires
keep_once-requires c = search sent_laws

pub returns : goal.returns
returns c = search sent_laws
