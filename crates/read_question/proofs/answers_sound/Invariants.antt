use mathlib.Core.Path.{◌≡◌}
use Rattle.theory.specs.Lists.{all}
use Rattle.words.specs.Limits.{sheet_width, answer_bytes}
use Rattle.sheets.specs.Laws.RecordLoops.{left}
use Rattle.sheets.specs.Tests.{answer_sound}
use Rattle.read_question.specs.QuestionWords.{answers_from}
use Rattle.read_question.proofs.answers_sound.Given as goal

abbrev pub invariant-loop-i : goal.invariant-loop-i
invariant-loop-i l =
    (all (answer_sound sheet_width) (left (answer_bytes sheet_width) l.s l.from l.n l.i)
    ≡ all (answer_sound sheet_width) (answers_from l.s l.from l.n))
