use Rattle.read_union.proofs.RowLaws.{laws}
use Rattle.read_union.proofs.read_union.Goals as goal

pub member_count-count-requires : goal.member_count-count-requires
member_count-count-requires c = search laws

pub fill_union-requires : goal.fill_union-requires
fill_union-requires c = search laws

pub returns-clause-union : goal.returns-clause-union
returns-clause-union c = search laws
