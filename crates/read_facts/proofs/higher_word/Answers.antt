use Rattle.read_facts.proofs.FactLaws.{laws}
use Rattle.read_facts.proofs.higher_word.Goals as goal

pub fact_name-number-requires : goal.fact_name-number-requires
fact_name-number-requires c = search laws

pub fact_first-first-requires : goal.fact_first-first-requires
fact_first-first-requires c = search laws

pub fact_kind-requires : goal.fact_kind-requires
fact_kind-requires c = search laws

pub word-requires : goal.word-requires
word-requires c = search laws

pub lower-read-requires : goal.lower-read-requires
lower-read-requires c = search laws

pub fact_second-requires : goal.fact_second-requires
fact_second-requires c = search laws

pub word-requires-else-fact_kind-eq0 : goal.word-requires-else-fact_kind-eq0
word-requires-else-fact_kind-eq0 c = search laws

pub returns-then-fact_kind-eq0 : goal.returns-then-fact_kind-eq0
returns-then-fact_kind-eq0 c = search laws

pub returns-else-fact_kind-eq0 : goal.returns-else-fact_kind-eq0
returns-else-fact_kind-eq0 c = search laws
