-- Where a member ends on a union sheet, and whether it is whole and sound.
use Rattle.std.specs.Prelude.{ℕ, ◌+◌, Bool, ◌&&◌, List, leb, length}
use Rattle.words.specs.Limits.{sheet_width, step_bytes}
use Rattle.sheets.specs.Format.{question_length}
use Rattle.sheets.specs.Tests.{member_sound_at}

-- the end of the member that begins at byte `at`
abbrev pub member_end : List ℕ → ℕ → ℕ
member_end s at = at + step_bytes + question_length sheet_width s (at + step_bytes)

-- that member ends within the sheet and is sound
abbrev pub whole_and_sound : List ℕ → ℕ → List ℕ → ℕ → Bool
whole_and_sound partners arity s at = leb (member_end s at) (length s) && member_sound_at partners sheet_width arity s (at + step_bytes)
