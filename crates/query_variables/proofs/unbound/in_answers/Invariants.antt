use Rattle.std.specs.Prelude.{◌≡◌}
use Rattle.theory.specs.Syntax.{same_term}
use Rattle.theory.specs.Laws.Scans.{some_from, test_at}
use Rattle.words.specs.Words.{word_term}
use Rattle.query_variables.proofs.unbound.in_answers.Given as goal

abbrev pub invariant-loop-i : goal.invariant-loop-i
invariant-loop-i l =
    some_from (test_at (same_term (word_term l.t)) word_term l.q.answers) l.i l.q.terms
    ≡ some_from (test_at (same_term (word_term l.t)) word_term l.q.answers) 0 l.q.terms
