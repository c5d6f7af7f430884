use mathlib.Core.Path.{◌≡◌}
use lib.ListN.{get_or}
use Rattle.theory.specs.Laws.Scans.{all_from}
use Rattle.words.specs.Words.{word_term}
use Rattle.query_partial.specs.Partial.{may_become}
use Rattle.query_partial.proofs.answers_go.Given as goal

abbrev pub invariant-loop-i : goal.invariant-loop-i
invariant-loop-i l =
    (all_from (λ k. may_become l.m (word_term (get_or l.p.answers k 0)) (word_term (get_or l.q.answers k 0))) l.i l.p.terms
    ≡ all_from (λ k. may_become l.m (word_term (get_or l.p.answers k 0)) (word_term (get_or l.q.answers k 0))) 0 l.p.terms)
