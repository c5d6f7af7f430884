use Rattle.read_question.proofs.QuestionLaws.{laws}
use Rattle.read_question.proofs.atoms_sound.Goals as goal

pub loop-i-init : goal.loop-i-init
loop-i-init c = search laws

pub returns-then-not-atom_sound : goal.returns-then-not-atom_sound
returns-then-not-atom_sound c = search laws

pub loop-i-preserved : goal.loop-i-preserved
loop-i-preserved c = search laws

pub returns : goal.returns
returns c = search laws
