-- After i turns the first i places hold what they are to hold, and the rest are as they were.
use Rattle.std.proofs.Common.{◌≡◌}
use Rattle.explain_places.proofs.FillLaws.{filled}
use Rattle.explain_places.proofs.fill_places.Given as goal

abbrev pub invariant-loop-i : goal.invariant-loop-i
invariant-loop-i l = l.steps ≡ filled l.packed l.n l.fn.steps l.i
