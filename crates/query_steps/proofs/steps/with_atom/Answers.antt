use Rattle.query_steps.proofs.StepLaws.{once_laws}
use Rattle.query_steps.proofs.steps.with_atom.Goals as goal

pub returns-then-has_atom : goal.returns-then-has_atom
returns-then-has_atom c = search once_laws

pub returns : goal.returns
returns c = search once_laws
