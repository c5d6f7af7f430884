use Rattle.query_key.specs.Colours.{ColoursOf, Upto}
use Rattle.query_key.proofs.LoopLaws.{answers_give}
use Rattle.query_key.proofs.first_colours.Given as goal

abbrev pub invariant-loop-i : goal.invariant-loop-i
invariant-loop-i l = Upto l.i l.all × ColoursOf (answers_give l.q.answers l.i) l.all
