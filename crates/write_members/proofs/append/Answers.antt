use Rattle.write_members.proofs.MemberLaws.{laws}
use Rattle.write_members.proofs.append.Goals as goal

pub returns-in_default : goal.returns-in_default
returns-in_default c = search laws

pub returns-then-is_there : goal.returns-then-is_there
returns-then-is_there c = search laws

pub returns : goal.returns
returns c = search laws
