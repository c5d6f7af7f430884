use Rattle.words.proofs.TagLaws.{laws}
use Rattle.words.proofs.lost_tags.may_answer.Goals as goal

pub returns-then-object-lt-FIRST_LOST_TAG : goal.returns-then-object-lt-FIRST_LOST_TAG
returns-then-object-lt-FIRST_LOST_TAG c = search laws

pub returns-else-object-lt-FIRST_LOST_TAG : goal.returns-else-object-lt-FIRST_LOST_TAG
returns-else-object-lt-FIRST_LOST_TAG c = search laws
