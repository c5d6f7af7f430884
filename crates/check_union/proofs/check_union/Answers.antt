use mathlib.Core.Path.{refl}
use Rattle.std.proofs.lemmas.Result.{err_from_is_err_and}
use Rattle.check_union.proofs.CheckLaws.{laws, gives_later}
use Rattle.check_union.proofs.check_union.Goals as goal

pub returns-then-refuses7 : goal.returns-then-refuses7
returns-then-refuses7 c = search laws

pub returns-in_err-check_written : goal.returns-in_err-check_written
returns-in_err-check_written c =
    let p = err_from_is_err_and c.from_residual.result c.from_residual.ensures.1 in
    rw (p.1, p.2) (search (laws, c.in_err-check_written.ensures))

pub returns : goal.returns
returns c =
    gives_later _ _ _ _ c.refuses7.ensures 0 c.in_ok-check_written.ensures c.if-refuses7.false _ refl c.check_alike.ensures
