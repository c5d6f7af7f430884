use Rattle.check_union.proofs.CheckLaws.{laws}
use Rattle.check_union.proofs.decide_alike.Goals as goal

pub returns-then-refuses10 : goal.returns-then-refuses10
returns-then-refuses10 c = search laws

pub returns-then-refuses11 : goal.returns-then-refuses11
returns-then-refuses11 c = search laws

pub returns : goal.returns
returns c = search laws
