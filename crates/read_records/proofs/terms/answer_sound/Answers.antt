use Rattle.read_records.proofs.RecordLaws.{laws}
use Rattle.read_records.proofs.terms.answer_sound.Goals as goal

pub returns-then-x-lt-SHEET_TERM_BOUND : goal.returns-then-x-lt-SHEET_TERM_BOUND
returns-then-x-lt-SHEET_TERM_BOUND c = search laws

pub returns-else-x-lt-SHEET_TERM_BOUND : goal.returns-else-x-lt-SHEET_TERM_BOUND
returns-else-x-lt-SHEET_TERM_BOUND c = search laws
