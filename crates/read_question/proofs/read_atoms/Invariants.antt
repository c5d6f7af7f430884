use mathlib.Core.Path.{◌≡◌}
use Prim.Native.Nat.{◌≤◌}
use mathlib.Core.List.{◌++◌, map}
use lib.ListN.{length, take}
use Rattle.words.specs.Limits.{sheet_width, record_bytes}
use Rattle.words.specs.Words.{word_atom}
use Rattle.sheets.specs.Laws.RecordLoops.{left}
use Rattle.read_question.specs.QuestionWords.{atoms_from}
use Rattle.read_question.proofs.QuestionLaws.{atom_read}
use Rattle.read_question.proofs.read_atoms.Given as goal

abbrev pub invariant-loop-i : goal.invariant-loop-i
invariant-loop-i l =
    (l.n ≤ length l.words)
    × (map word_atom (take l.i l.words) ++ map (atom_read l.partners) (left (record_bytes sheet_width) l.s l.from l.n l.i)
    ≡ map (atom_read l.partners) (atoms_from l.s l.from l.n))
