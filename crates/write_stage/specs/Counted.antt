-- What writing gives beside the sheet, as numbers: 0 on a refusal.
use Rattle.std.specs.Prelude.{ℕ, Result, Ok, Err}
use Rattle.words.specs.declared.refusals.Refusal.{Refusal}
use Rattle.write_stage.specs.declared.Written.{Written}

-- how many members, and how many bytes, a call wrote
abbrev pub count_written : Result Written Refusal → ℕ
count_written (Ok w) = w.count
count_written (Err refusal) = 0

abbrev pub size_written : Result Written Refusal → ℕ
size_written (Ok w) = w.length
size_written (Err refusal) = 0
