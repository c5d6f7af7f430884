use mathlib.Core.Path.{◌≡◌}
use Rattle.theory.specs.Lists.{any, numbers}
use Rattle.theory.specs.Laws.Scans.{some_from}
use Rattle.check_closed.proofs.ClosureLaws.{same_word}
use Rattle.check_closed.proofs.repeated.Given as goal

abbrev pub invariant-loop-earlier : goal.invariant-loop-earlier
invariant-loop-earlier l = some_from (same_word l.rules l.k) l.earlier l.k ≡ any (same_word l.rules l.k) (numbers 0 l.k)
