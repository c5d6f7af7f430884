use mathlib.Core.Path.{◌≡◌}
use Prim.Native.Nat.{◌≤◌}
use mathlib.Core.List.{◌++◌, map}
use lib.ListN.{length, take}
use Rattle.words.specs.Limits.{sheet_width, answer_bytes}
use Rattle.words.specs.Records.{term_of}
use Rattle.words.specs.Words.{TermWords, word_term}
use Rattle.sheets.specs.Laws.RecordLoops.{left}
use Rattle.read_question.specs.QuestionWords.{answers_from}
use Rattle.read_question.proofs.read_answers.Given as goal

abbrev pub invariant-loop-i : goal.invariant-loop-i
invariant-loop-i l =
    (l.n ≤ length l.words) × TermWords l.words
    × (map word_term (take l.i l.words) ++ map (term_of sheet_width) (left (answer_bytes sheet_width) l.s l.from l.n l.i)
    ≡ map (term_of sheet_width) (answers_from l.s l.from l.n))
