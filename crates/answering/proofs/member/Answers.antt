use Rattle.answering.proofs.ShowLaws.{laws}
use Rattle.answering.proofs.member.Goals as goal

pub default_partners-partners-requires : goal.default_partners-partners-requires
default_partners-partners-requires c = search laws

pub slice_bounds-member-end : goal.slice_bounds-member-end
slice_bounds-member-end c = search laws

pub member-requires : goal.member-requires
member-requires c = search laws

pub returns : goal.returns
returns c = search laws
