use Rattle.read_records.proofs.RecordLaws.{laws}
use Rattle.read_records.proofs.terms.role_as_read.Goals as goal

pub returns-then-is_higher : goal.returns-then-is_higher
returns-then-is_higher c = search laws

pub returns-else-is_higher : goal.returns-else-is_higher
returns-else-is_higher c = search laws
