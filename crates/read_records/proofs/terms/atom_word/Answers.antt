use Rattle.read_records.proofs.RecordLaws.{laws}
use Rattle.read_records.proofs.terms.atom_word.Goals as goal

pub returns-then-atom_kind-eq0 : goal.returns-then-atom_kind-eq0
returns-then-atom_kind-eq0 c = search laws

pub returns-else-atom_kind-eq0 : goal.returns-else-atom_kind-eq0
returns-else-atom_kind-eq0 c = search laws
