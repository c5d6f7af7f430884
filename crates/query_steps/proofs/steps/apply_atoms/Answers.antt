use Rattle.query_steps.proofs.StepLaws.{fill_laws}
use Rattle.query_steps.proofs.steps.apply_atoms.Goals as goal

pub apply_atom-requires : goal.apply_atom-requires
apply_atom-requires c = search fill_laws

pub returns : goal.returns
returns c = search fill_laws
