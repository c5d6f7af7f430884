-- The text is the report of what the call gave.
use Rattle.program_text.proofs.TextLaws.{laws}
use Rattle.program_text.proofs.put_answers.Goals as goal

pub put_drawn-requires : goal.put_drawn-requires
put_drawn-requires c = (search laws, search laws)

pub returns : goal.returns
returns c = record { text = search laws; within = search laws }
