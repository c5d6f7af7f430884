-- What the program `write_union` writes for two sheets, from their bytes alone (02, T-02: keepers with no desk software): the union's bytes
-- to standard output; on a refusal nothing there, and "refused N" to standard error.
use Rattle.std.specs.Prelude.{ℕ, cond, [], List, eqb, take}
use Rattle.words.specs.Limits.{sheet_width, most_union_bytes}
use Rattle.promises.specs.Writing.{WriteOutcome, write_outcome}
use Rattle.promises.specs.Report.{refused_text, first_line}

-- its sheet has room for the longest union, so that 16 is never met
abbrev pub sheet_room : ℕ
sheet_room = most_union_bytes sheet_width

-- the line for a number on standard error; none for 0
unfoldable pub error_line : ℕ → List ℕ
error_line number = cond (eqb number 0) [] (first_line refused_text number)

-- room for the longest line
abbrev pub error_room : ℕ
error_room = 33

module _ (rules question : List ℕ) where
  -- the outcome of the program's call
  abbrev pub program_writes : WriteOutcome
  program_writes = write_outcome rules question sheet_room

  -- THE OUTPUT: the bytes of the union; a refusal's length is 0
  unfoldable pub output_for : List ℕ
  output_for = take program_writes.size program_writes.sheet

  -- and what goes to standard error
  unfoldable pub error_for : List ℕ
  unfolding error_line
  error_for = error_line program_writes.number
