-- The place in its 40 bytes, or zeros past the last that is used.
use Rattle.explain_place.proofs.FieldLaws.{laws}
use Rattle.explain_place.proofs.place_in.Goals as goal

pub returns-then-i-n : goal.returns-then-i-n
returns-then-i-n c = search laws

pub returns-else-i-n : goal.returns-else-i-n
returns-else-i-n c = search laws
