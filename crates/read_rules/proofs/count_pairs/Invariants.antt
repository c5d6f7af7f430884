use mathlib.Core.Path.{◌≡◌}
use Prim.Native.Nat.{◌+◌, ◌≤◌}
use Rattle.sheets.specs.Format.{rule_records, pairs_in}
use Rattle.read_rules.specs.Filling.{rest}
use Rattle.read_rules.proofs.count_pairs.Given as goal

abbrev pub invariant-loop-i : goal.invariant-loop-i
invariant-loop-i l = (l.pairs ≤ l.i) × (l.pairs + pairs_in (rest l.s l.i) ≡ pairs_in (rule_records l.s))
