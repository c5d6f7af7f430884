use Rattle.query_substitution.proofs.SubstitutionLaws.{unify_laws}
use Rattle.query_substitution.proofs.unify.Goals as goal

pub bind-requires : goal.bind-requires
bind-requires c = search unify_laws

pub bind-requires-2 : goal.bind-requires-2
bind-requires-2 c = search unify_laws

pub returns-then-kind_of-clause-unifies : goal.returns-then-kind_of-clause-unifies
returns-then-kind_of-clause-unifies c = search unify_laws

pub returns-then-number_of-clause-unifies : goal.returns-then-number_of-clause-unifies
returns-then-number_of-clause-unifies c = search unify_laws

pub returns-in_err-s-clause-unifies : goal.returns-in_err-s-clause-unifies
returns-in_err-s-clause-unifies c = search unify_laws

pub returns-then-kind_of-eq0-clause-unifies : goal.returns-then-kind_of-eq0-clause-unifies
returns-then-kind_of-eq0-clause-unifies c = search unify_laws

pub returns-clause-unifies : goal.returns-clause-unifies
returns-clause-unifies c = search unify_laws
