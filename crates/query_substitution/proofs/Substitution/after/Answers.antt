use Rattle.query_substitution.proofs.SubstitutionLaws.{after_laws}
use Rattle.query_substitution.proofs.Substitution.after.Goals as goal

pub loop-i-init : goal.loop-i-init
loop-i-init c = search after_laws

pub loop-i-preserved : goal.loop-i-preserved
loop-i-preserved c = (search after_laws, search after_laws, search after_laws)

pub returns : goal.returns
returns c = search after_laws
