-- The place of a member's part, by 01's table of partners.
use mathlib.Core.Path.{◌≡◌, subst}
use Prim.Native.Nat.{ℕ}
use mathlib.Core.List.{List}
use borrow.Author.Rules.{rules}
use Rattle.words.specs.Limits.{sheet_width}
use Rattle.sheets.specs.Partners.{partners01}
use Rattle.sheets.specs.Showing.{Placed}
use Rattle.promises.specs.Showing.{Shown}

pub place_shown : (p s : List ℕ) (m start size : ℕ) → p ≡ partners01 → Placed p sheet_width s m start size → Shown s m start size
place_shown p s m start size e d = subst (λ t. Placed t sheet_width s m start size) e d

pub ruleset laws = (rules, place_shown)
