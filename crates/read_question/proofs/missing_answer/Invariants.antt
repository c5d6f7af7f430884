use mathlib.Core.Path.{◌≡◌}
use lib.ListN.{length, take}
use Rattle.theory.specs.Laws.Scans.{all_from}
use Rattle.read_question.proofs.QuestionTests.{covered_at}
use Rattle.read_question.proofs.missing_answer.Given as goal

abbrev pub invariant-loop-t : goal.invariant-loop-t
invariant-loop-t l = all_from (covered_at (take l.fn.q.terms l.fn.q.answers) l.atoms) l.t-index (length (take l.fn.q.terms l.fn.q.answers))
    ≡ all_from (covered_at (take l.fn.q.terms l.fn.q.answers) l.atoms) 0 (length (take l.fn.q.terms l.fn.q.answers))
