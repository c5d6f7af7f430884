use Rattle.read_walk.proofs.WalkLaws.{laws}
use Rattle.read_walk.proofs.member_sound.Goals as goal

pub returns-then-not-question_sound : goal.returns-then-not-question_sound
returns-then-not-question_sound c = search laws

pub returns-then-not-repeated_atom : goal.returns-then-not-repeated_atom
returns-then-not-repeated_atom c = search laws

pub returns-else-not-repeated_atom : goal.returns-else-not-repeated_atom
returns-else-not-repeated_atom c = search laws
