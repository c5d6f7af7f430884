use Rattle.read_rule.proofs.RuleLaws.{form_laws}
use Rattle.read_rule.proofs.pair_forms.Goals as goal

pub returns : goal.returns
returns c = search form_laws
