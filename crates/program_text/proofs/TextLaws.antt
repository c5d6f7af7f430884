-- What a call gave is what its text reports.
use mathlib.Core.Path.{◌≡◌, refl, sym, ap, ap₂, ◌∙◌, subst}
use Prim.Native.Nat.{ℕ, ◌+◌, ◌*◌, ◌/◌, ◌≤◌}
use native.Mathlib.Omega.{arith}
use mathlib.Core.List.{List, [], ◌∷◌}
use lib.ListN.{length, take, get_or}
use borrow.Author.Rules.{rules}
use Rattle.promises.specs.Drawing.{Outcome, outcome}
use Rattle.promises.specs.Report.{report}
use Rattle.promises.specs.Text.{list_room, text_room, text_for}
use Rattle.promises.proofs.Laws.Printing.{fits, list_long}
use Rattle.program_text.specs.Laws.Whole.{whole_files}

-- ---- the question's number of terms

pub no_terms : (question : List ℕ) → length question ≡ 0 → 0 ≡ get_or question 0 0 / 16
no_terms [] h = refl
no_terms (x ∷ xs) h = absurd (omega arith)

-- ---- what a call gave is what its text reports

module _ (rules question union facts : List ℕ) where
  abbrev by : ℕ → Outcome
  by room = outcome rules question union facts room

  module _ (entry list : List ℕ) (number count terms : ℕ) (room : length entry ≡ list_room) (n : number ≡ (by (length entry)).number)
      (k : count ≡ (by (length entry)).count) (l : list ≡ (by (length entry)).list) (t : terms ≡ get_or question 0 0 / 16) where
    long : length list ≡ list_room
    long = ap length l ∙ list_long rules question union facts (length entry) ∙ room

    pub answers_fit : number ≡ 0 → 2 * terms * count ≤ length list
    answers_fit zero =
        let h : 2 * (get_or question 0 0 / 16) * (by (length entry)).count ≤ length entry
        = fits rules question union facts (length entry) (sym n ∙ zero) in
        let same : length entry ≡ length list = room ∙ sym long in
        subst (λ m. 2 * terms * count ≤ m) same (rw (t, k) h)

    pub text_fits : (text : List ℕ) → text_room ≤ length text → 30 + 3 * length list ≤ length text
    text_fits text h = let e = long in omega arith

    pub text_put : (after : List ℕ) (r : ℕ) → take r after ≡ report number count terms list
        → take r after ≡ text_for rules question union facts
    unfolding text_for
    text_put after r e =
        e
        ∙ ap₂ (λ x y. report x y terms list) n k
        ∙ ap₂ (λ x y. report (by (length entry)).number (by (length entry)).count x y) t l
        ∙ ap (λ m. report (by m).number (by m).count (get_or question 0 0 / 16) (by m).list) room

pub ruleset laws = (rules, no_terms, answers_fit, text_fits, text_put, whole_files)
