use mathlib.Core.Path.{◌≡◌}
use Prim.Native.Nat.{◌-◌, ◌/◌}
use lib.ListN.{length}
use Rattle.words.specs.Limits.{rule_bytes}
use Rattle.read_rules.specs.Filling.{FillingRules}
use Rattle.read_rules.proofs.fill_rules.Given as goal

abbrev pub invariant-loop-i : goal.invariant-loop-i
invariant-loop-i l = FillingRules l.partners l.s l.table l.i l.count l.helper
    × (length l.table ≡ length l.initial.table)

abbrev pub decreases-loop-i : goal.decreases-loop-i
decreases-loop-i l = length l.s / rule_bytes - l.i
