-- What the program prints for four sheets, from their bytes alone. That it is what 01 says is proved in Laws/Printing.
use Rattle.std.specs.Prelude.{ℕ, ◌+◌, ◌*◌, List}
use Rattle.sheets.specs.Format.{term_count}
use Rattle.promises.specs.Drawing.{Outcome, outcome}
use Rattle.promises.specs.Report.{report}

-- "Its answer list has 16,384 bytes."
abbrev pub list_room : ℕ
list_room = 16384

-- room for the longest text: a first line of at most 30 bytes, and three bytes for each byte of the answer list
abbrev pub text_room : ℕ
text_room = 30 + 3 * list_room

module _ (rules question union facts : List ℕ) where
  -- the outcome of the program's call
  abbrev pub drawn : Outcome
  drawn = outcome rules question union facts list_room

  -- THE TEXT: the report of that outcome. A question's number of answer terms stands in its first byte.
  unfoldable pub text_for : List ℕ
  unfolding report
  text_for = report drawn.number drawn.count (term_count question 0) drawn.list
