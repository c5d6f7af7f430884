use Rattle.read_rules.proofs.RuleSheetLaws.{sound_laws}
use Rattle.read_rules.proofs.pairs_sound.Goals as goal

pub loop-i-init : goal.loop-i-init
loop-i-init c = search sound_laws

pub returns-then-not-follows : goal.returns-then-not-follows
returns-then-not-follows c = search sound_laws

pub loop-i-preserved : goal.loop-i-preserved
loop-i-preserved c = search sound_laws

pub returns : goal.returns
returns c = search sound_laws
