use Rattle.read_shown.proofs.ShownLaws.{laws}
use Rattle.read_shown.proofs.member_place.Goals as goal

pub member_start-start-requires : goal.member_start-start-requires
member_start-start-requires c = search laws

pub overflow_add-start : goal.overflow_add-start
overflow_add-start c = search laws

pub question_length-length-requires : goal.question_length-length-requires
question_length-length-requires c = search laws

pub returns-then-has_member : goal.returns-then-has_member
returns-then-has_member c = search laws

pub returns-else-has_member : goal.returns-else-has_member
returns-else-has_member c = search laws
