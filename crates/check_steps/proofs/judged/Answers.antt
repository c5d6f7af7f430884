use Rattle.check_steps.proofs.WrittenLaws.{laws}
use Rattle.check_steps.proofs.judged.Goals as goal

pub returns-in-Some-clause-alike : goal.returns-in-Some-clause-alike
returns-in-Some-clause-alike c = search laws
