use Rattle.check_distinct.proofs.KeyLaws.{laws}
use Rattle.check_distinct.proofs.refuses10.Goals as goal

pub returns-then-alike_from : goal.returns-then-alike_from
returns-then-alike_from c = search laws

pub loop-i-preserved : goal.loop-i-preserved
loop-i-preserved c = search laws

pub returns : goal.returns
returns c = search laws
