use Rattle.query_substitution.proofs.SubstitutionLaws.{join_laws}
use Rattle.query_substitution.proofs.Substitution.join.Goals as goal

pub returns-then-t-s-clause-joins : goal.returns-then-t-s-clause-joins
returns-then-t-s-clause-joins c = search join_laws

pub returns-then-t-lt32-clause-joins : goal.returns-then-t-lt32-clause-joins
returns-then-t-lt32-clause-joins c = search join_laws

pub returns-then-s-lt32-clause-joins : goal.returns-then-s-lt32-clause-joins
returns-then-s-lt32-clause-joins c = search join_laws

pub returns-then-t-lt32-2-clause-joins : goal.returns-then-t-lt32-2-clause-joins
returns-then-t-lt32-2-clause-joins c = search join_laws

pub returns-clause-joins : goal.returns-clause-joins
returns-clause-joins c = search join_laws

pub returns-clause-small : goal.returns-clause-small
returns-clause-small c = search join_laws
