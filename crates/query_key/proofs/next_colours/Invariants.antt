use Prim.Native.Nat.{◌*◌}
use Rattle.query_key.specs.Key.{colour_by}
use Rattle.query_key.specs.Colours.{colour_in, ColoursOf, Upto}
use Rattle.query_key.proofs.LoopLaws.{atoms_give}
use Rattle.query_key.proofs.next_colours.Given as goal

abbrev pub invariant-loop-i : goal.invariant-loop-i
invariant-loop-i l = Upto (2 * l.i) l.all × ColoursOf (atoms_give (colour_by (colour_in l.colours)) l.q.atoms l.i) l.all
