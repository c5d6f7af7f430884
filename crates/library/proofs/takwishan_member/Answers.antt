use Rattle.library.proofs.PlaceLaws.{laws}
use Rattle.library.proofs.takwishan_member.Goals as goal

pub default_partners-partners-requires : goal.default_partners-partners-requires
default_partners-partners-requires c = search laws

pub slice_bounds-member_place-end : goal.slice_bounds-member_place-end
slice_bounds-member_place-end c = search laws

pub member_place-place-requires : goal.member_place-place-requires
member_place-place-requires c = search laws

pub returns : goal.returns
returns c = search laws
