use Rattle.check_closed.proofs.ClosureLaws.{laws}
use Rattle.check_closed.proofs.repeated.Goals as goal

pub returns-then-rules-earlier : goal.returns-then-rules-earlier
returns-then-rules-earlier c = search laws

pub loop-earlier-preserved : goal.loop-earlier-preserved
loop-earlier-preserved c = search laws

pub returns : goal.returns
returns c = search laws
