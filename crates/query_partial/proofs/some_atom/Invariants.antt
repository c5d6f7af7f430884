use Rattle.std.specs.Prelude.{◌≡◌, Bool}
use Rattle.theory.specs.Syntax.{Term, Atom}
use Rattle.theory.specs.Laws.Scans.{some_from, test_at}
use Rattle.words.specs.Words.{word_atom}
use Rattle.query_partial.specs.Partial.{Decides}
use Rattle.query_partial.proofs.some_atom.Given as goal

abbrev pub invariant-loop-i : goal.invariant-loop-i
invariant-loop-i g l =
    (passes : Atom Term → Bool) → Decides passes (goal.F-post g l.test)
    → some_from (test_at passes word_atom l.q.atoms) l.i l.q.size ≡ some_from (test_at passes word_atom l.q.atoms) 0 l.q.size
