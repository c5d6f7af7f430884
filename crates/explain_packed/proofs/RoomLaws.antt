-- The pledge of `explain` for a list that is longer than the one that was lent: it holds of the same list with zeros after it, where the
-- same steps fit.
use mathlib.Core.Path.{◌≡◌, sym, ap, ap₂, ◌∙◌, subst}
use mathlib.Core.Logic.{◌⊎◌, inl, inr, ◌↔◌}
use Prim.Native.Nat.{ℕ, ◌+◌, ◌*◌, ◌-◌, ◌<◌, ◌≤◌}
use native.Mathlib.Decide.{dec_lt, ℕ_discrete}
use native.Mathlib.Omega.{arith}
use mathlib.Core.List.Memᴰ
use mathlib.Core.List.{List, [], ◌∷◌, ◌++◌, flat_map, append_assoc}
use lib.ListN.{length, take, replicate, replicate-append-replicate}
use lib.Seq.{take_at, take-take}
use Rattle.theory.specs.Refusals.{First, NoneHolds, DecidedBy}
use Rattle.words.specs.Limits.{place_size}
use Rattle.sheets.specs.StepList.{place_bytes, step_list}
use Rattle.sheets.specs.Refusals.{drawing}
use Rattle.promises.specs.TheSheets.{the_rules, the_union, the_facts, the_conditions}
use Rattle.promises.specs.Checking.{SoundAndAccepted}
use Rattle.promises.specs.Explaining.{four_sheets, the_tuple, Meets19, Meets20, explain_conditions, StepsBehind, Explained}
use Rattle.promises.proofs.Laws.Conditions.{first_both, none_both}
use Rattle.promises.proofs.Laws.ExplainPromises.{twenty_means, always_fits}
use Rattle.explain_place.specs.Places.{bytes_of_place, places_in}
use Rattle.explain_place.specs.PlaceLaws.{Bytes, pack_first}
use Rattle.explain_packed.specs.Packed.{PlacesUsed}
use Rattle.explain_packed.proofs.StepLaws.{length_steps, low_steps}

abbrev zeros : ℕ → List ℕ
zeros n = replicate n 0

sum_on : (k room room' : ℕ) → k ≤ room → room ≤ room' → room - k + (room' - room) ≡ room' - k
sum_on k room room' h l = omega arith

-- zeros after zeros
zeros_on : (k room room' : ℕ) → k ≤ room → room ≤ room' → zeros (room - k) ++ zeros (room' - room) ≡ zeros (room' - k)
zeros_on k room room' h l = replicate-append-replicate (room - k) (room' - room) 0 ∙ ap zeros (sum_on k room room' h l)

module _ (rules question union facts tuple : List ℕ) where
  -- ---- the steps lie within the list

  module _ (room number count : ℕ) (list : List ℕ) (x : Explained rules question union facts tuple room number count list) where
    -- those behind the tuple, where nothing is refused
    module _ (z : number ≡ 0) where
      abbrev behind : StepsBehind rules question union facts tuple room count list
      behind = x.explained z

      abbrev bytes : List ℕ
      bytes = flat_map place_bytes behind.steps

      many : length bytes ≡ place_size * count
      many =
          length_steps (the_rules rules) (the_facts facts) (the_union union) (the_tuple rules question union facts tuple) behind.steps
          behind.explains ∙ ap (λ n. place_size * n) (sym behind.count_is)

      fit : place_size * count ≤ room
      fit =
          elim (dec_lt room (place_size * count)) [
            | yes l ↦ absurd ((x.zero.0 z).3 (behind.steps, behind.explains, subst (λ n. room < place_size * n) behind.count_is l))
            | no f ↦ omega arith
          ]

    -- the bytes of the steps fit in any case
    pub within_room : place_size * count ≤ room
    within_room = elim (ℕ_discrete number 0) [ yes z ↦ fit z | no f ↦ (let e : count ≡ 0 = (x.refused f).0 in omega arith) ]

    -- the list is those bytes, and zeros after them
    pub steps_first : (bytes : List ℕ) × Bytes bytes × (length bytes ≡ place_size * count)
        × (list ≡ bytes ++ zeros (room - place_size * count))
    unfolding step_list
    steps_first = elim (ℕ_discrete number 0) [ yes z ↦ given z | no f ↦ none f ]
      where
        given : number ≡ 0 → (bytes : List ℕ) × Bytes bytes × (length bytes ≡ place_size * count)
            × (list ≡ bytes ++ zeros (room - place_size * count))
        given z = (
          bytes z,
          record { each = low_steps (behind z).steps },
          many z,
          (behind z).list_is ∙ ap (λ n. bytes z ++ zeros (room - n)) (many z),
        )

        none : (number ≡ 0 → ⊥) → (bytes : List ℕ) × Bytes bytes × (length bytes ≡ place_size * count)
            × (list ≡ bytes ++ zeros (room - place_size * count))
        none f =
            let e : count ≡ 0 = (x.refused f).0 in
            let k : room ≡ room - place_size * count = omega arith in
            ([], record { each = λ b m. absurd (Memᴰ.not-nil m) }, omega arith, (x.refused f).1 ∙ ap zeros k)

    -- ---- more room

    module _ (room' : ℕ) (more : room ≤ room') (same20 : SoundAndAccepted rules question union
        → Meets20 rules question union facts tuple room ↔ Meets20 rules question union facts tuple room') where
      -- the sheets' own conditions, which no room is read for
      abbrev own : List {1} (ℕ × Type 0)
      own = the_conditions drawing (four_sheets rules question union facts tuple)

      -- 19 and 20, where so much is lent
      abbrev last : ℕ → List {1} (ℕ × Type 0)
      last n = (19, Meets19 rules question union facts tuple) ∷ (20, Meets20 rules question union facts tuple n) ∷ []

      decided : DecidedBy (explain_conditions rules question union facts tuple room') number
      decided =
          elim x.number_is [
            | inl h ↦ inl ((first_both own (last room') number).1 (some ((first_both own (last room) number).0 h)))
            | inr h ↦ inr (h.0, (none_both own (last room')).1 (none h.0 ((none_both own (last room)).0 h.1)))
          ]
        where
          some : (First own number ⊎ (NoneHolds own × First (last room) number))
              → First own number ⊎ (NoneHolds own × First (last room') number)
          some (inl h) = inl h
          some (inr (h, inl k)) = inr (h, inl k)
          some (inr (h, inr (f, inl (e, m)))) =
              let sound = ((twenty_means rules question union facts tuple room number count list x).0 (sym e)).0 in
              inr (h, inr (f, inl (e, (same20 sound).0 m)))
          some (inr (h, inr (f, inr (g, k)))) = absurd k

          none : number ≡ 0 → (NoneHolds own × NoneHolds (last room)) → NoneHolds own × NoneHolds (last room')
          none z (h, (f, (g, k))) = (h, (f, (λ m. g ((same20 (x.zero.0 z).0).1 m), k)))

      -- THE PLEDGE, with more room
      pub more_room : Explained rules question union facts tuple room' number count (list ++ zeros (room' - room))
      unfolding step_list
      more_room = record {
        number_is = decided;
        zero = (
          λ z. let (a, s, f, g) = x.zero.0 z in (a, s, f, λ m. g ((same20 a).1 m)),
          λ (a, s, f, g). x.zero.1 (a, s, f, λ m. g ((same20 a).0 m)),
        );
        explained = λ z. longer z;
        refused = λ f. ((x.refused f).0, ap (λ l. l ++ zeros (room' - room)) (x.refused f).1 ∙ all_zeros);
      }
        where
          all_zeros : zeros room ++ zeros (room' - room) ≡ zeros room'
          all_zeros = let sum : room + (room' - room) ≡ room' = omega arith in
              replicate-append-replicate room (room' - room) 0 ∙ ap zeros sum

          longer : number ≡ 0 → StepsBehind rules question union facts tuple room' count (list ++ zeros (room' - room))
          longer z =
              let b = x.explained z in
              let n : ℕ = length (bytes z) in
              let h : n ≤ room = (let e : n ≡ place_size * count = many z in let l : place_size * count ≤ room = fit z in omega arith) in
              record {
                steps = b.steps;
                explains = b.explains;
                count_is = b.count_is;
                list_is =
                    ap (λ l. l ++ zeros (room' - room)) b.list_is ∙ append_assoc (bytes z) (zeros (room - n)) (zeros (room' - room))
                    ∙ ap (λ l. bytes z ++ l) (zeros_on n room room' h more);
                replays = b.replays;
                found = b.found;
                suffice = b.suffice;
              }

  -- ---- the places

  -- 20 is met by no more than by the places used: there are as many, or more than any explanation needs
  same_refusal_lem : (lent used : ℕ) → PlacesUsed lent used → SoundAndAccepted rules question union
      → Meets20 rules question union facts tuple (place_size * used) ↔ Meets20 rules question union facts tuple (place_size * lent)
  same_refusal_lem lent used p sound =
      elim p.enough [
        | inl e ↦ rw e (λ m. m, λ m. m)
        | inr h ↦ (
          λ m. absurd (always_fits rules question union facts tuple (place_size * used) sound (omega arith) m),
          λ m. absurd (always_fits rules question union facts tuple (place_size * lent) sound
              (let g : used ≤ lent = p.not_more in omega arith) m),
        )
      ]

  module _ (packed : List ℕ) (lent used number count : ℕ) (p : PlacesUsed lent used) (within : place_size * used ≤ length packed)
      (x : Explained rules question union facts tuple (place_size * used) number count (take (place_size * used) packed)) where
    pub steps_within : place_size * count ≤ length packed
    steps_within =
        let size : ℕ = place_size * used in
        let h : place_size * count ≤ size = within_room size number count (take size packed) x in
        omega arith

    -- the places filled from the packed bytes are explained
    pub places_filled : Explained rules question union facts tuple (place_size * lent) number count
        (flat_map bytes_of_place (places_in packed count lent))
    places_filled =
        let size : ℕ = place_size * used in
        let k : ℕ = place_size * count in
        let (bytes, low, many, is) = steps_first size number count (take size packed) x in
        let fits : k ≤ size = within_room size number count (take size packed) x in
        let g : used ≤ lent = p.not_more in
        let first : take k packed ≡ bytes = sym (take-take k size packed fits) ∙ ap (take k) is ∙ take_at bytes (zeros (size - k)) k many in
        let rest : place_size * (lent - count) ≡ place_size * lent - k = omega arith in
        let same : flat_map bytes_of_place (places_in packed count lent) ≡ take size packed ++ zeros (place_size * lent - size) =
        pack_first packed count steps_within (subst Bytes (sym first) low) lent (omega arith)
        ∙ ap₂ (λ l n. l ++ zeros n) first rest
        ∙ sym (ap (λ l. l ++ zeros (place_size * lent - size)) is ∙ append_assoc bytes (zeros (size - k)) (zeros (place_size * lent - size))
        ∙ ap (λ l. bytes ++ l) (zeros_on k size (place_size * lent) fits (omega arith))) in
        subst (λ l. Explained rules question union facts tuple (place_size * lent) number count l) (sym same)
        (more_room size number count (take size packed) x (place_size * lent) (omega arith) (same_refusal_lem lent used p))
