use Rattle.read_facts.proofs.FactLaws.{laws}
use Rattle.read_facts.proofs.read_facts.Goals as goal

pub returns-then-s-ne0-clause-facts : goal.returns-then-s-ne0-clause-facts
returns-then-s-ne0-clause-facts c = search laws

pub returns-then-s-gt-MOST_FACT_BYTES-clause-facts : goal.returns-then-s-gt-MOST_FACT_BYTES-clause-facts
returns-then-s-gt-MOST_FACT_BYTES-clause-facts c = search laws

pub returns-then-not-fill_facts-clause-facts : goal.returns-then-not-fill_facts-clause-facts
returns-then-not-fill_facts-clause-facts c = search laws

pub returns-clause-facts : goal.returns-clause-facts
returns-clause-facts c = search laws
