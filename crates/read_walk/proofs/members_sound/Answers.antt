use Rattle.read_walk.proofs.WalkLaws.{laws}
use Rattle.read_walk.proofs.members_sound.Goals as goal

pub loop-seen-init : goal.loop-seen-init
loop-seen-init c = search laws

pub returns-in-None : goal.returns-in-None
returns-in-None c = search laws

pub loop-seen-preserved : goal.loop-seen-preserved
loop-seen-preserved c = search laws

pub returns : goal.returns
returns c = search laws
