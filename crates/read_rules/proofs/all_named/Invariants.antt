use mathlib.Core.Path.{◌≡◌}
use Rattle.theory.specs.Lists.{all}
use Rattle.sheets.specs.Format.{rule_records}
use Rattle.sheets.specs.Tests.{passes2}
use Rattle.read_rules.specs.Filling.{rest}
use Rattle.read_rules.proofs.all_named.Given as goal

abbrev pub invariant-loop-i : goal.invariant-loop-i
invariant-loop-i l = all passes2 (rest l.s l.i) ≡ all passes2 (rule_records l.s)
