use Rattle.write_members.proofs.MemberLaws.{laws}
use Rattle.write_members.proofs.append_new.Goals as goal

pub returns-then-n-ge-MOST_MEMBERS : goal.returns-then-n-ge-MOST_MEMBERS
returns-then-n-ge-MOST_MEMBERS c = search laws

pub returns : goal.returns
returns c = search laws
