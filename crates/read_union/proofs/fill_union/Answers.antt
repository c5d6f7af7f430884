use Rattle.read_union.proofs.RowLaws.{laws}
use Rattle.read_union.proofs.fill_union.Goals as goal

pub loop-row-init : goal.loop-row-init
loop-row-init c = (search laws, search laws, search laws)

pub four-step-requires : goal.four-step-requires
four-step-requires c = search laws

pub overflow_add-at : goal.overflow_add-at
overflow_add-at c = search laws

pub read_query-q-requires : goal.read_query-q-requires
read_query-q-requires c = search laws

pub loop-row-preserved : goal.loop-row-preserved
loop-row-preserved c = (search laws, search laws, search laws)

pub returns : goal.returns
returns c = (search laws, search laws, search laws)
