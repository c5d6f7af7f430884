use Rattle.query_substitution.proofs.SubstitutionLaws.{term_laws}
use Rattle.query_substitution.proofs.Substitution.apply.Goals as goal

pub returns-then-t-lt32 : goal.returns-then-t-lt32
returns-then-t-lt32 c = search term_laws

pub returns-else-t-lt32 : goal.returns-else-t-lt32
returns-else-t-lt32 c = search term_laws
