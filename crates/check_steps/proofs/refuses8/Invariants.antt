use mathlib.Core.Path.{◌≡◌}
use lib.ListN.{length}
use Rattle.theory.specs.Laws.Scans.{some_from}
use Rattle.words.specs.Words.{rules_in}
use Rattle.check_steps.proofs.WrittenLaws.{fails_at}
use Rattle.check_steps.proofs.refuses8.Given as goal

abbrev pub invariant-loop-k : goal.invariant-loop-k
invariant-loop-k l =
    some_from (fails_at (rules_in l.rules (length l.rules)) l.table l.n) l.k l.n
    ≡ some_from (fails_at (rules_in l.rules (length l.rules)) l.table l.n) 1 l.n
