use Rattle.read_shown.proofs.ShownLaws.{laws}
use Rattle.read_shown.proofs.has_member.Goals as goal

pub returns-else-union_sound : goal.returns-else-union_sound
returns-else-union_sound c = search laws
