use Rattle.query_substitution.proofs.SubstitutionLaws.{join_laws}
use Rattle.query_substitution.proofs.Substitution.bind.Goals as goal

pub returns-clause-binds : goal.returns-clause-binds
returns-clause-binds c = search join_laws
