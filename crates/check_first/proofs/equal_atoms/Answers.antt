use Rattle.check_first.proofs.StartLaws.{laws}
use Rattle.check_first.proofs.equal_atoms.Goals as goal

pub returns-then-not-same_atom : goal.returns-then-not-same_atom
returns-then-not-same_atom c = search laws

pub loop-i-preserved : goal.loop-i-preserved
loop-i-preserved c = search laws

pub returns : goal.returns
returns c = search laws
