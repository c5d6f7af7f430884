-- The loop's invariant: the atoms that are left, put where they belong, make the sheet that is promised.
use mathlib.Core.List.{map}
use Prim.Native.Nat.{◌+◌, ◌*◌}
use lib.ListN.{take}
use Rattle.words.specs.Limits.{sheet_width, record_bytes}
use Rattle.words.specs.Words.{word_atom}
use Rattle.write_sheet.specs.PutAt.{atoms_bytes}
use Rattle.write_sheet.proofs.PutLaws.{Remaining}
use Rattle.write_sheet.proofs.QuestionLaws.{atoms_from}
use Rattle.write_sheet.proofs.questions.put_atoms.Given as goal

abbrev pub invariant-loop-i : goal.invariant-loop-i
invariant-loop-i l =
    Remaining l.initial.sheet l.at (atoms_bytes sheet_width (map word_atom (take l.n l.atoms))) l.sheet
    (l.at + record_bytes sheet_width * l.i)
    (atoms_from l.atoms l.n l.i)
