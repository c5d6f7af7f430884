use mathlib.Core.Path.{◌≡◌}
use mathlib.Core.Bool.{false}
use Rattle.sheets.specs.Format.{rule_records}
use Rattle.sheets.specs.Tests.{pairs_sound}
use Rattle.read_rules.specs.Filling.{rest}
use Rattle.read_rules.proofs.pairs_sound.Given as goal

abbrev pub invariant-loop-i : goal.invariant-loop-i
invariant-loop-i l = pairs_sound l.waits (rest l.s l.i) ≡ pairs_sound false (rule_records l.s)
