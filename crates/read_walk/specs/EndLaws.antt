-- A member's end is where the next one begins, and lies within the sheet where a later one does.
use Rattle.std.specs.Prelude.{◌≡◌, ℕ, suc, ◌+◌, ◌≤◌, ◌<◌, List, length}
use Rattle.std.proofs.Common.{ap, ◌∙◌, add-one, arith}
use Rattle.words.specs.Limits.{sheet_width}
use Rattle.sheets.specs.Format.{member_start}
use Rattle.sheets.proofs.Laws.UnionRefusals.{start_rises}
use Rattle.sheets.proofs.Laws.UnionLengths.{next_start}
use Rattle.read_walk.specs.Ends.{member_end}

module _ (s : List ℕ) (at j count : ℕ) (begins : at ≡ member_start sheet_width s j) where
  pub end_begins : (end : ℕ) → end ≡ member_end s at → end ≡ member_start sheet_width s (j + 1)
  end_begins end e = rw (add-one j) (e ∙ ap (λ a. member_end s a) begins ∙ next_start s j)

  -- member j stands within the sheet
  module _ (h : j < count) (fits : member_start sheet_width s count ≤ length s) where
    pub end_within : member_end s at ≤ length s
    end_within =
        let e : member_end s at ≡ member_start sheet_width s (suc j) = ap (λ a. member_end s a) begins ∙ next_start s j in
        omega (arith, start_rises sheet_width s (suc j) count h)

    pub start_within : at ≤ length s
    start_within = let e : member_end s at ≤ length s = end_within in omega arith
