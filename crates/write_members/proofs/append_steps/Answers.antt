use Rattle.std.proofs.lemmas.Result.{err_from_is_err_and}
use Rattle.write_members.proofs.TakeLaws.{member_steps}
use Rattle.write_members.proofs.append_steps.Goals as goal

pub returns-in_err-members : goal.returns-in_err-members
returns-in_err-members c =
    let p = err_from_is_err_and c.from_residual.result c.from_residual.ensures.1 in
    rw (p.1, p.2) (search (member_steps, c.in_err-members.ensures))

pub returns : goal.returns
returns c = search (member_steps, c.in_ok-members.ensures)
