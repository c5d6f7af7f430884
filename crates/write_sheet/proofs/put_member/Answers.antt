use Rattle.write_sheet.proofs.MemberLaws.{laws}
use Rattle.write_sheet.proofs.put_member.Goals as goal

pub put_number-requires : goal.put_number-requires
put_number-requires c = search laws

pub put_question-requires : goal.put_question-requires
put_question-requires c = search laws

pub returns : goal.returns
returns c = search laws
