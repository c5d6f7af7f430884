use Rattle.std.proofs.lemmas.Result.{err_from_is_err_and}
use Rattle.write_members.proofs.LoopLaws.{rule_loop}
use Rattle.write_members.proofs.append_by_rules.Goals as goal

pub returns-in_err-members : goal.returns-in_err-members
returns-in_err-members c =
    let p = err_from_is_err_and c.from_residual.result c.from_residual.ensures.1 in
    rw (p.1, p.2) (search (rule_loop, c.in_err-members.ensures))

pub loop-k-preserved : goal.loop-k-preserved
loop-k-preserved c = search (rule_loop, c.in_ok-members.ensures)

pub returns : goal.returns
returns c = search rule_loop
