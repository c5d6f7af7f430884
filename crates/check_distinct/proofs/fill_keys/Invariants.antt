use mathlib.Core.Path.{◌≡◌}
use lib.ListN.{length}
use Rattle.check_distinct.proofs.KeyLaws.{KeysBelow}
use Rattle.check_distinct.proofs.fill_keys.Given as goal

abbrev pub invariant-loop-j : goal.invariant-loop-j
invariant-loop-j l = (length l.keys ≡ length l.initial.keys) × KeysBelow l.table l.keys l.j
