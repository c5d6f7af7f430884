use Rattle.check_sheet.proofs.MembersLaws.{laws}
use Rattle.check_sheet.proofs.read_members.Goals as goal

pub check_union-requires : goal.check_union-requires
check_union-requires c = (search laws, search (laws, c.in_ok-count.ensures.union))

pub returns-clause-members : goal.returns-clause-members
returns-clause-members c = search (laws, c.in_ok-count.ensures.union, c.in_ok-check_union.ensures)
