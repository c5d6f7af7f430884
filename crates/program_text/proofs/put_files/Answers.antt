-- The text of what was read is that of the files.
use Rattle.program_text.proofs.TextLaws.{laws}
use Rattle.program_text.proofs.put_files.Goals as goal

pub returns : goal.returns
returns c = search laws
