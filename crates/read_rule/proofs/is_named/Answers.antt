use Rattle.read_rule.proofs.RuleLaws.{form_laws}
use Rattle.read_rule.proofs.is_named.Goals as goal

pub returns : goal.returns
returns c = search form_laws
