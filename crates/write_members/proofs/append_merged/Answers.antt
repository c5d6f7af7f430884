use Rattle.std.proofs.lemmas.Result.{err_from_is_err_and}
use Rattle.write_members.proofs.LoopLaws.{later_loop}
use Rattle.write_members.proofs.append_merged.Goals as goal

pub loop-j-init : goal.loop-j-init
loop-j-init c = search later_loop

pub append-requires : goal.append-requires
append-requires c = search later_loop

pub returns-in_err-members : goal.returns-in_err-members
returns-in_err-members c =
    let p = err_from_is_err_and c.from_residual.result c.from_residual.ensures.1 in
    rw (p.1, p.2) (search (later_loop, c.in_err-members.ensures))

pub loop-j-preserved : goal.loop-j-preserved
loop-j-preserved c = search (later_loop, c.in_ok-members.ensures)

pub returns : goal.returns
returns c = search later_loop
