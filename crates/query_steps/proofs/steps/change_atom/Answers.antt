use Rattle.query_steps.proofs.StepLaws.{change_laws}
use Rattle.query_steps.proofs.steps.change_atom.Goals as goal

pub keep_once-requires : goal.keep_once-requires
keep_once-requires c = search change_laws

pub returns : goal.returns
returns c = search change_laws
