use Rattle.read_facts.proofs.FactLaws.{laws}
use Rattle.read_facts.proofs.fill_facts.Goals as goal

pub loop-i-init : goal.loop-i-init
loop-i-init c = search laws

pub overflow_mul-i : goal.overflow_mul-i
overflow_mul-i c = search laws

pub six-x-requires : goal.six-x-requires
six-x-requires c = search laws

pub fact_sound-requires : goal.fact_sound-requires
fact_sound-requires c = search laws

pub shape_of-table-then-not-fact_sound : goal.shape_of-table-then-not-fact_sound
shape_of-table-then-not-fact_sound c = search laws

pub returns-then-not-fact_sound : goal.returns-then-not-fact_sound
returns-then-not-fact_sound c = search laws

pub fact_word-requires : goal.fact_word-requires
fact_word-requires c = search laws

pub offset_bounds-table-i : goal.offset_bounds-table-i
offset_bounds-table-i c = search laws

pub bounds-table-i : goal.bounds-table-i
bounds-table-i c = search laws

pub loop-i-preserved : goal.loop-i-preserved
loop-i-preserved c = search laws

pub shape_of-table : goal.shape_of-table
shape_of-table c = search laws

pub returns : goal.returns
returns c = search laws
