-- The loop's invariant: the answer terms that are left, put where they belong, make the sheet that is promised.
use mathlib.Core.List.{map}
use Prim.Native.Nat.{◌+◌, ◌*◌}
use lib.ListN.{take}
use Rattle.words.specs.Limits.{sheet_width, answer_bytes}
use Rattle.words.specs.Words.{word_term}
use Rattle.write_sheet.specs.PutAt.{answers_bytes}
use Rattle.write_sheet.proofs.PutLaws.{Remaining}
use Rattle.write_sheet.proofs.QuestionLaws.{answers_from}
use Rattle.write_sheet.proofs.questions.put_answers.Given as goal

abbrev pub invariant-loop-i : goal.invariant-loop-i
invariant-loop-i l =
    Remaining l.initial.sheet l.at (answers_bytes sheet_width (map word_term (take l.n l.answers))) l.sheet
    (l.at + answer_bytes sheet_width * l.i)
    (answers_from l.answers l.n l.i)
