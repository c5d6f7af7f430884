-- Showing a member by 01's table of partners.
use mathlib.Core.Path.{◌≡◌, ap, ◌∙◌}
use Prim.Native.Nat.{ℕ}
use mathlib.Core.List.{List}
use borrow.Author.Rules.{rules}
use Rattle.words.specs.Limits.{sheet_width}
use Rattle.sheets.specs.Partners.{partners01}
use Rattle.sheets.specs.Showing.{member_part}
use Rattle.promises.specs.TheSheets.{the_part}

pub part_shown : (p s part : List ℕ) (m : ℕ) → p ≡ partners01 → part ≡ member_part p sheet_width s m → part ≡ the_part s m
part_shown p s part m e d = d ∙ ap (λ t. member_part t sheet_width s m) e

pub ruleset laws = (rules, part_shown)
