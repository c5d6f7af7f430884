use mathlib.Core.Path.{◌≡◌}
use mathlib.Core.List.{map}
use lib.ListN.{drop}
use Rattle.words.specs.Words.{word_atom}
use Rattle.sheets.specs.Tests.{repeats}
use Rattle.read_question.proofs.repeated_atom.Given as goal

abbrev pub invariant-loop-i : goal.invariant-loop-i
invariant-loop-i l = repeats (map word_atom (drop l.i l.atoms)) ≡ repeats (map word_atom l.atoms)
