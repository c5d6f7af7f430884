use Rattle.std.proofs.lemmas.Result.{err_from_is_err_and}
use Rattle.check_steps.proofs.WrittenLaws.{laws}
use Rattle.check_steps.proofs.check_written.Goals as goal

pub returns-in_err-judged : goal.returns-in_err-judged
returns-in_err-judged c =
    let p = err_from_is_err_and c.from_residual.result c.from_residual.ensures.1 in
    rw (p.1, p.2) (search (laws, c.in_err-judged.ensures.fails))

pub returns-then-not-branch : goal.returns-then-not-branch
returns-then-not-branch c = search (laws, c.in_ok-judged.ensures.alike)

pub loop-k-preserved : goal.loop-k-preserved
loop-k-preserved c = search (laws, c.in_ok-judged.ensures.alike.same_is)

pub returns : goal.returns
returns c = search laws
