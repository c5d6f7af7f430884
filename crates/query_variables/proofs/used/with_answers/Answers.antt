use Rattle.query_variables.proofs.UsedLaws.{laws}
use Rattle.query_variables.proofs.used.with_answers.Goals as goal

pub loop-i-init : goal.loop-i-init
loop-i-init c = search laws

pub with_term-all-requires : goal.with_term-all-requires
with_term-all-requires c = search laws

pub loop-i-preserved : goal.loop-i-preserved
loop-i-preserved c = search laws

pub returns : goal.returns
returns c = search laws
