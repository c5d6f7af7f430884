use Rattle.read_records.proofs.RecordLaws.{laws}
use Rattle.read_records.proofs.terms.atom_sound.Goals as goal

pub returns-then-term_sound : goal.returns-then-term_sound
returns-then-term_sound c = search laws

pub returns-else-term_sound : goal.returns-else-term_sound
returns-else-term_sound c = search laws
