use Rattle.std.proofs.lemmas.Result.{err_from_is_err_and}
use Rattle.comparing.proofs.CompareLaws.{laws}
use Rattle.comparing.proofs.rename.Goals as goal

pub returns-in_err-from : goal.returns-in_err-from
returns-in_err-from c =
    let p = err_from_is_err_and c.from_residual.result c.from_residual.ensures.1 in
    rw (p.1, p.2) (search (laws, c.in_err-from.ensures))

pub returns-in_err-to : goal.returns-in_err-to
returns-in_err-to c =
    let p = err_from_is_err_and c.from_residual-in_err-to.result c.from_residual-in_err-to.ensures.1 in
    rw (p.1, p.2) (search (laws, c.in_ok-from.ensures, c.in_err-to.ensures))

pub by_which_names-requires : goal.by_which_names-requires
by_which_names-requires c = search (laws, c.in_ok-from.ensures, c.in_ok-to.ensures)

pub returns : goal.returns
returns c = search (laws, c.in_ok-from.ensures, c.in_ok-to.ensures)
