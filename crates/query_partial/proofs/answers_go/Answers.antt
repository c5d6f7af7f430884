use Rattle.query_partial.proofs.PartialLaws.{loop_laws}
use Rattle.query_partial.proofs.answers_go.Goals as goal

pub may_be-requires : goal.may_be-requires
may_be-requires c = (search loop_laws, search loop_laws, search loop_laws, search loop_laws)

pub loop-i-preserved : goal.loop-i-preserved
loop-i-preserved c = search loop_laws

pub returns : goal.returns
returns c = search loop_laws

pub returns-then-p-q : goal.returns-then-p-q
returns-then-p-q c = search loop_laws

pub returns-then-not-may_be : goal.returns-then-not-may_be
returns-then-not-may_be c = search loop_laws
