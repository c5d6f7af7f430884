-- The places, filled one by one: after i turns the first i hold what they are to hold, and the rest are as they were.
use mathlib.Core.Path.{◌≡◌, refl, sym, ap, ap₂, ◌∙◌}
use Prim.Native.Nat.{ℕ, suc, ◌+◌, ◌<◌}
use native.Mathlib.Numerals.{add-one}
use mathlib.Core.List.{List, ◌++◌}
use lib.ListN.{length, drop, set}
use lib.Seq.{drop-cons, set_at, append_snoc}
use Rattle.explain_place.specs.declared.Place.{Place}
use Rattle.explain_place.specs.Places.{no_place, place_in, places_in}
use Rattle.explain_place.specs.PlaceLaws.{length_places}

module _ (packed : List ℕ) (n : ℕ) (old : List Place) where
  -- the first i places, and what stood in the others
  abbrev pub filled : ℕ → List Place
  filled i = places_in packed n i ++ drop i old

  pub filled_none : filled 0 ≡ old
  unfolding places_in
  filled_none = refl

  pub filled_more : (i : ℕ) (s : Place) → s ≡ place_in packed n i → i < length old → set (filled i) i s ≡ filled (i + 1)
  unfolding places_in
  filled_more i s e h =
      ap₂ (λ r y. set (places_in packed n i ++ r) i y) (drop-cons old i no_place h) e
      ∙ set_at (places_in packed n i) _ (drop (suc i) old) (place_in packed n i) i (length_places packed n i)
      ∙ sym (append_snoc (places_in packed n i) (place_in packed n i) (drop (suc i) old))
      ∙ ap filled (sym (add-one i))
