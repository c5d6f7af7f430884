use mathlib.Core.Path.{◌≡◌}
use lib.ListN.{length}
use Rattle.theory.specs.Laws.Scans.{some_from}
use Rattle.read_question.proofs.QuestionTests.{stands_at}
use Rattle.read_question.proofs.stands_in.Given as goal

abbrev pub invariant-loop-a : goal.invariant-loop-a
invariant-loop-a l = some_from (stands_at l.t l.atoms) l.a-index (length l.atoms) ≡ some_from (stands_at l.t l.atoms) 0 (length l.atoms)
