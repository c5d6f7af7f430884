use Rattle.std.proofs.lemmas.Result.{err_from_is_err_and}
use Rattle.answering.proofs.CheckLaws.{laws, with_meaning}
use Rattle.answering.proofs.check.Goals as goal

pub returns-in_err-read : goal.returns-in_err-read
returns-in_err-read c =
    let p = err_from_is_err_and c.from_residual.result c.from_residual.ensures.1 in
    rw (p.1, p.2) (with_meaning _ _ _ _ (search (laws, c.in_err-read.ensures.rules)))

pub returns-in_err-query : goal.returns-in_err-query
returns-in_err-query c =
    let p = err_from_is_err_and c.from_residual-in_err-query.result c.from_residual-in_err-query.ensures.1 in
    rw (p.1, p.2) (with_meaning _ _ _ _ (search (laws, c.in_ok-read.ensures.rules, c.in_err-query.ensures)))

pub check_members-requires : goal.check_members-requires
check_members-requires c = search (laws, c.in_ok-query.ensures)

pub returns-in_err-check_members : goal.returns-in_err-check_members
returns-in_err-check_members c =
    let p = err_from_is_err_and c.from_residual-in_err-check_members.result c.from_residual-in_err-check_members.ensures.1 in
    rw (p.1, p.2) (with_meaning _ _ _ _
    (search (laws, c.in_ok-read.ensures.rules, c.in_ok-query.ensures, c.in_err-check_members.ensures)))

pub asked_clashes-requires : goal.asked_clashes-requires
asked_clashes-requires c = (search (laws, c.in_ok-read.ensures.helpers), search (laws, c.in_ok-query.ensures))

pub returns-then-asked_clashes : goal.returns-then-asked_clashes
returns-then-asked_clashes c = with_meaning _ _ _ _
    (search (laws, c.in_ok-read.ensures.rules, c.in_ok-read.ensures.helpers, c.in_ok-query.ensures, c.in_ok-check_members.ensures))

pub returns : goal.returns
returns c = with_meaning _ _ _ _
    (search (laws, c.in_ok-read.ensures.rules, c.in_ok-read.ensures.helpers, c.in_ok-query.ensures, c.in_ok-check_members.ensures))
