-- What the fields of a place make together, and what a place holds.
use mathlib.Core.Path.{◌≡◌, sym, ap, ◌∙◌}
use Prim.Native.Nat.{ℕ, ◌+◌, ◌*◌, ◌-◌, ◌<◌, ◌≤◌}
use native.Mathlib.Nat.{add-zero}
use native.Mathlib.Omega.{arith}
use mathlib.Core.List.{List, [], ◌∷◌}
use lib.ListN.{get_or, take, drop}
use borrow.Author.Rules.{rules}
use Rattle.std.specs.Int.{w16, from_be_bytes}
use Rattle.words.specs.Limits.{place_size}
use Rattle.sheets.specs.Bits.{number_at}
use Rattle.explain_place.specs.declared.Place.{Place}
use Rattle.explain_place.specs.Places.{place_at, no_place, place_in}
use Rattle.explain_place.specs.PlaceLaws.{place_used, place_unused}

-- two bytes read as a number
read_two : (xs : List ℕ) (i j r : ℕ) → r ≡ from_be_bytes w16 (get_or xs i 0 ∷ get_or xs j 0 ∷ []) → j ≡ i + 1 → r ≡ number_at xs i 2
unfolding number_at
read_two xs i j r e next =
    let high : get_or xs (i + 0) 0 ≡ get_or xs i 0 = ap (λ k. get_or xs k 0) (add-zero i) in
    let low : get_or xs j 0 ≡ get_or xs (i + 1) 0 = ap (λ k. get_or xs k 0) next in
    omega arith

-- the fields, each as the code has it
pub place_made : (xs : List ℕ) (at m p o : ℕ) (ts : List ℕ) → m ≡ from_be_bytes w16 (get_or xs at 0 ∷ get_or xs (at + 1) 0 ∷ [])
    → p ≡ from_be_bytes w16 (get_or xs (at + 3) 0 ∷ get_or xs (at + 4) 0 ∷ [])
    → o ≡ from_be_bytes w16 (get_or xs (at + 6) 0 ∷ get_or xs (at + 7) 0 ∷ []) → ts ≡ take (at + 40 - (at + 8)) (drop (at + 8) xs)
    → record { member = m; kind = get_or xs (at + 2) 0; parent = p; atom = get_or xs (at + 5) 0; other = o; targets = ts } ≡ place_at xs at
unfolding place_at
place_made xs at m p o ts em ep eo et =
    let member = read_two xs at (at + 1) m em (omega arith) in
    let parent = read_two xs (at + 3) (at + 4) p ep (omega arith) in
    let other = read_two xs (at + 6) (at + 7) o eo (omega arith) in
    let long : at + 40 - (at + 8) ≡ 32 = omega arith in
    let targets : ts ≡ take 32 (drop (at + 8) xs) = et ∙ ap (λ k. take k (drop (at + 8) xs)) long in
    cc

module _ (packed : List ℕ) (n i : ℕ) where
  pub used_taken : (p : Place) → p ≡ place_at packed (place_size * i) → i < n → p ≡ place_in packed n i
  used_taken p e h = e ∙ sym (place_used packed n i h)

  pub unused_taken : (p : Place) → p ≡ no_place → n ≤ i → p ≡ place_in packed n i
  unused_taken p e h = e ∙ sym (place_unused packed n i h)

pub ruleset laws = (rules, place_made, used_taken, unused_taken)
