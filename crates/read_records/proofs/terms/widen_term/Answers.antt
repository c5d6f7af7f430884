use Rattle.read_records.proofs.RecordLaws.{laws}
use Rattle.read_records.proofs.terms.widen_term.Goals as goal

pub returns : goal.returns
returns c = search laws
