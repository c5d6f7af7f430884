use Rattle.query_substitution.proofs.SubstitutionLaws.{term_laws}
use Rattle.query_substitution.proofs.replaced.Goals as goal

pub returns-then-w-v : goal.returns-then-w-v
returns-then-w-v c = search term_laws

pub returns-else-w-v : goal.returns-else-w-v
returns-else-w-v c = search term_laws
