use Rattle.read_facts.proofs.FactLaws.{laws}
use Rattle.read_facts.proofs.fact_sound.Goals as goal

pub fact_zeros-zeros-requires : goal.fact_zeros-zeros-requires
fact_zeros-zeros-requires c = search laws

pub fact_kind-kind-requires : goal.fact_kind-kind-requires
fact_kind-kind-requires c = search laws

pub fact_second-second-requires : goal.fact_second-second-requires
fact_second-second-requires c = search laws

pub returns : goal.returns
returns c = search laws
