use Rattle.write_members.proofs.TakeLaws.{first_member}
use Rattle.write_members.proofs.write_members.Goals as goal

pub take_members-requires : goal.take_members-requires
take_members-requires c = search first_member

pub returns-clause-members : goal.returns-clause-members
returns-clause-members c = search first_member

pub returns-clause-few : goal.returns-clause-few
returns-clause-few c = search first_member
