use Rattle.explain_steps.proofs.FillLaws.{tell_laws}
use Rattle.explain_steps.proofs.explain_from.Goals as goal

pub returns : goal.returns
returns c = search tell_laws
