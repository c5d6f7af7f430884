use mathlib.Core.Path.{◌≡◌}
use Rattle.theory.specs.Lists.{all}
use Rattle.words.specs.Limits.{sheet_width, record_bytes}
use Rattle.sheets.specs.Laws.RecordLoops.{left}
use Rattle.sheets.specs.Tests.{atom_sound}
use Rattle.read_question.specs.QuestionWords.{atoms_from}
use Rattle.read_question.proofs.atoms_sound.Given as goal

abbrev pub invariant-loop-i : goal.invariant-loop-i
invariant-loop-i l =
    (all (atom_sound sheet_width) (left (record_bytes sheet_width) l.s l.from l.n l.i)
    ≡ all (atom_sound sheet_width) (atoms_from l.s l.from l.n))
