use Rattle.write_sheet.proofs.MemberLaws.{loop_laws}
use Rattle.write_sheet.proofs.put_members.Goals as goal

pub loop-j-init : goal.loop-j-init
loop-j-init c = search loop_laws

pub put_member-at-requires : goal.put_member-at-requires
put_member-at-requires c = search loop_laws

pub loop-j-preserved : goal.loop-j-preserved
loop-j-preserved c = search loop_laws

pub returns : goal.returns
returns c = search loop_laws
