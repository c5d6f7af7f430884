-- How many places are used, and the list that the packed bytes begin with.
use mathlib.Core.Path.{◌≡◌, refl, sym, ◌∙◌, subst}
use mathlib.Core.Logic.{inl, inr}
use Prim.Native.Nat.{ℕ, ◌*◌, ◌<◌, ◌≤◌}
use native.Mathlib.Omega.{arith}
use mathlib.Core.List.{List, ◌++◌, flat_map}
use lib.ListN.{length, take, drop, length-append}
use lib.Seq.{take_at, length-take-le}
use borrow.Author.Rules.{rules}
use Rattle.words.specs.Limits.{place_size, most_steps}
use Rattle.explain_place.specs.declared.Place.{Place}
use Rattle.explain_place.specs.Places.{bytes_of_place, places_in}
use Rattle.promises.specs.Explaining.{Explained}
use Rattle.explain_packed.specs.Packed.{most_bytes, PlacesUsed, ExplainedIn}
use Rattle.explain_packed.proofs.RoomLaws.{steps_within, places_filled}

pub all_used : (lent : ℕ) → lent < most_steps → PlacesUsed lent lent
all_used lent h = record { not_more = omega arith; enough = inl refl }

pub most_used : (lent : ℕ) → most_steps ≤ lent → PlacesUsed lent most_steps
most_used lent h = record { not_more = h; enough = inr (omega arith) }

pub packed_explained : (packed : List ℕ) (lent places : ℕ) → length packed ≡ most_bytes → PlacesUsed lent places → places ≤ most_steps
    → (rules question union facts tuple out : List ℕ) (number count : ℕ) → length out ≡ length (take (place_size * places) packed)
    → Explained rules question union facts tuple (length (take (place_size * places) packed)) number count out
    → ExplainedIn rules question union facts tuple lent number count (out ++ drop (place_size * places) packed)
packed_explained packed lent places long used few rules question union facts tuple out number count same so =
    let size : ℕ = place_size * places in
    let whole : length (take size packed) ≡ size = length-take-le size packed (omega arith) in
    record {
      places = places;
      used = used;
      fits = rw (length-append out (drop size packed)) (omega arith);
      begins =
          subst (λ l. Explained rules question union facts tuple size number count l)
          (sym (take_at out (drop size packed) size (same ∙ whole)))
          (subst (λ r. Explained rules question union facts tuple r number count out) whole so);
    }

module _ (rules question union facts tuple : List ℕ) (lent number count : ℕ) (packed : List ℕ) where
  -- the bytes of the steps lie within
  pub count_within : ExplainedIn rules question union facts tuple lent number count packed → place_size * count ≤ length packed
  count_within x =
      steps_within rules question union facts tuple packed lent x.places number count x.used x.fits x.begins

  pub places_explained : (steps : List Place) → ExplainedIn rules question union facts tuple lent number count packed
      → steps ≡ places_in packed count lent
      → Explained rules question union facts tuple (place_size * lent) number count (flat_map bytes_of_place steps)
  places_explained steps x e =
      subst (λ s. Explained rules question union facts tuple (place_size * lent) number count (flat_map bytes_of_place s)) (sym e)
      (places_filled rules question union facts tuple packed lent x.places number count x.used x.fits x.begins)

pub ruleset laws = (rules, all_used, most_used, packed_explained)
