use Rattle.write_sheet.proofs.UnionLaws.{laws}
use Rattle.write_sheet.proofs.put_union.Goals as goal

pub put_number-requires : goal.put_number-requires
put_number-requires c = search laws

pub put_members-end-requires : goal.put_members-end-requires
put_members-end-requires c = search laws

pub slice_bounds-clear-count : goal.slice_bounds-clear-count
slice_bounds-clear-count c = search laws

pub slice_bounds-clear-start : goal.slice_bounds-clear-start
slice_bounds-clear-start c = search laws

pub returns : goal.returns
returns c = search laws
