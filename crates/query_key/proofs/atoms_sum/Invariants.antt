use mathlib.Core.Path.{◌≡◌}
use Prim.Native.Nat.{◌*◌, ◌≤◌}
use Rattle.query_key.specs.Key.{top, colour_by}
use Rattle.query_key.specs.Colours.{colour_in}
use Rattle.query_key.proofs.LoopLaws.{atoms_sum}
use Rattle.query_key.proofs.atoms_sum.Given as goal

abbrev pub invariant-loop-i : goal.invariant-loop-i
invariant-loop-i l = (l.sum ≤ l.i * top) × (l.sum ≡ atoms_sum (colour_by (colour_in l.colours)) l.q.atoms l.i)
