use Rattle.read_facts.proofs.FactLaws.{laws}
use Rattle.read_facts.proofs.fact_word.Goals as goal

pub fact_name-requires : goal.fact_name-requires
fact_name-requires c = search laws

pub is_higher-requires : goal.is_higher-requires
is_higher-requires c = search laws

pub higher_word-requires : goal.higher_word-requires
higher_word-requires c = search laws

pub widened-requires : goal.widened-requires
widened-requires c = search laws

pub returns-then-is_higher : goal.returns-then-is_higher
returns-then-is_higher c = search laws

pub returns-else-is_higher : goal.returns-else-is_higher
returns-else-is_higher c = search laws
