use Rattle.query_substitution.proofs.SubstitutionLaws.{identity_laws}
use Rattle.query_substitution.proofs.Substitution.identity.Goals as goal

pub loop-i-init : goal.loop-i-init
loop-i-init c = search identity_laws

pub loop-i-preserved : goal.loop-i-preserved
loop-i-preserved c = (search identity_laws, search identity_laws, search identity_laws)

pub returns : goal.returns
returns c = search identity_laws
