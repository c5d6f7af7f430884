use mathlib.Core.Path.{◌≡◌}
use Rattle.theory.specs.Syntax.{same_atom}
use Rattle.theory.specs.Laws.Scans.{all_from}
use Rattle.words.specs.Words.{word_atom}
use Rattle.check_first.proofs.StartLaws.{same_at}
use Rattle.check_first.proofs.equal_atoms.Given as goal

abbrev pub invariant-loop-i : goal.invariant-loop-i
invariant-loop-i l =
    all_from (same_at same_atom word_atom l.a l.b) l.i l.n ≡ all_from (same_at same_atom word_atom l.a l.b) 0 l.n
