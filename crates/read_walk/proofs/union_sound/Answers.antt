use Rattle.read_walk.proofs.WalkLaws.{laws}
use Rattle.read_walk.proofs.union_sound.Goals as goal

pub returns-in-1-to-512 : goal.returns-in-1-to-512
returns-in-1-to-512 c = search laws

pub returns-in_default-count : goal.returns-in_default-count
returns-in_default-count c = search laws

pub returns-in_default-count-2 : goal.returns-in_default-count-2
returns-in_default-count-2 c = search laws

pub returns-in_default : goal.returns-in_default
returns-in_default c = search laws

pub returns-in_default-2 : goal.returns-in_default-2
returns-in_default-2 c = search laws
