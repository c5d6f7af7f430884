-- 01: "Showing member m of a union sheet returns the part of the caller's sheet holding its question. If the sheet meets 6 on its own (the
-- comparison of term counts then being with member 0), or m doesn't exist, the part is empty."
use Rattle.std.specs.Prelude.{◌≡◌, ℕ, ◌+◌, ◌≤◌, Bool, not, ◌&&◌, ltb, length, take, drop}
use mathlib.Core.List.{List, []}
use Rattle.theory.specs.Lists.{pick}
use Rattle.sheets.specs.Bits.{number_at}
use Rattle.sheets.specs.Format.{term_count, question_length, member_count, member_start, question_start, first_question}
use Rattle.sheets.specs.Tests.{refuses6}

module _ (partners : List ℕ) (w : ℕ) (s : List ℕ) (m : ℕ) where
  -- the sheet doesn't meet 6 on its own, and has a member m
  abbrev pub has_member : Bool
  has_member = not (refuses6 partners w (term_count s first_question) s) && ltb m (member_count s)

  -- the part that holds its question
  unfoldable pub member_part : List ℕ
  unfolding refuses6 member_start number_at
  member_part = pick has_member (take (question_length w s (question_start w s m)) (drop (question_start w s m) s)) []

  -- the index of the part's first byte. Of an empty part the papers leave the place free: it is given as 0.
  unfoldable pub part_start : ℕ
  part_start = pick has_member (question_start w s m) 0

-- the place of that part
pub record Placed (partners : List ℕ) (w : ℕ) (s : List ℕ) (m start size : ℕ) : Type 0 where
  -- its first byte, 0 for an empty part, and its length
  pub start_is : start ≡ part_start partners w s m
  pub size_is : size ≡ length (member_part partners w s m)
  -- it lies within the sheet
  pub within : start + size ≤ length s
  -- and is the part
  pub part : take size (drop start s) ≡ member_part partners w s m
