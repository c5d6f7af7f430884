use Rattle.read_rules.proofs.RefusalLaws.{paired_laws}
use Rattle.read_rules.proofs.read_paired.Goals as goal

pub fill_rules-requires : goal.fill_rules-requires
fill_rules-requires c = search paired_laws

pub returns-then-count-gt-MOST_RULES-clause-read : goal.returns-then-count-gt-MOST_RULES-clause-read
returns-then-count-gt-MOST_RULES-clause-read c = search paired_laws

pub returns-clause-read : goal.returns-clause-read
returns-clause-read c = search paired_laws
