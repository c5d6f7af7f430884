use Rattle.read_shown.proofs.ShownLaws.{laws}
use Rattle.read_shown.proofs.member_start.Goals as goal

pub member_end-at-requires : goal.member_end-at-requires
member_end-at-requires c = search laws

pub loop-earlier-init : goal.loop-earlier-init
loop-earlier-init c = search laws

pub loop-earlier-preserved : goal.loop-earlier-preserved
loop-earlier-preserved c = search laws
