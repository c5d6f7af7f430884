use Rattle.read_records.proofs.RecordLaws.{laws}
use Rattle.read_records.proofs.terms.term_sound.Goals as goal

pub returns-then-term_kind-ne0 : goal.returns-then-term_kind-ne0
returns-then-term_kind-ne0 c = search laws

pub returns-else-term_kind-ne0 : goal.returns-else-term_kind-ne0
returns-else-term_kind-ne0 c = search laws
