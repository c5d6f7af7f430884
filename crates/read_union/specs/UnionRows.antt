-- What reading a union gives, and what the reader hands from one function to the next.
use Rattle.std.specs.Prelude.{◌≡◌, ℕ, ◌≤◌, ◌<◌, true, List, length}
use Rattle.theory.specs.Lists.{pick}
use Rattle.words.specs.Limits.{sheet_width, most_members}
use Rattle.words.specs.Words.{union_in}
use Rattle.words.specs.Rows.{NarrowRows}
use Rattle.sheets.specs.Format.{member_start, question_start}
use Rattle.sheets.specs.Reading.{union_as_read}
use Rattle.sheets.specs.Tests.{question_sound, refuses6}
use Rattle.read_records.specs.ReadInto.{ReadInto}

-- ---- the pledges

-- for a question with so many answer terms
pub record UnionRead (partners s : List ℕ) (arity : ℕ) (table : List ℕ) (number count : ℕ) : Type 0 where
  -- the number is 6 where that applies; where it doesn't, the table's first `count` rows are the sheet's members as read, and the count is
  -- their number
  pub sheet : ReadInto
      (pick (refuses6 partners sheet_width arity s) 6 0) (union_as_read partners sheet_width s) (union_in table) most_members number count
  -- which is not 0
  pub some : number ≡ 0 → 1 ≤ count
  pub narrow : NarrowRows table count

-- ---- between the reader's functions

-- the first n members stand within the sheet, and each has a sound question
pub record Readable (s : List ℕ) (n : ℕ) : Type 0 where
  pub within : member_start sheet_width s n ≤ length s
  pub each : (j : ℕ) → j < n → question_sound sheet_width s (question_start sheet_width s j) ≡ true
