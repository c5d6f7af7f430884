-- The places that packed bytes hold: what stands in each, how many there are, and that their bytes, one after another, are the packed
-- bytes of those that are used, and zeros after them.
use Rattle.std.specs.Prelude.{◌≡◌, Bool, true, false, ltb}
use Rattle.std.proofs.Math.Path.{refl, sym, ap, ap₂}
use Rattle.std.proofs.Common.{◌∙◌, subst, add-zero, add-one, lt→ltb, nltb→le, length-append, get_or-take, take-add}
use Prim.Native.Nat.{ℕ, zero, suc, ◌+◌, ◌*◌, ◌-◌, ◌/◌, ◌%◌, ◌<◌, ◌≤◌}
use native.Mathlib.Omega.{arith}
use mathlib.Core.List.{List, [], ◌∷◌, ◌++◌, flat_map, append-nil, append_assoc}
use Rattle.std.proofs.Math.Dec.{ltb→lt}
use Rattle.std.proofs.Math.ListN.{length, get_or, take, drop, replicate, get_or-append}
use Rattle.std.proofs.lemmas.List.{replicate-append-replicate, get_or_at}
use Rattle.std.proofs.Math.Seq.{drop-cons}
use Rattle.theory.specs.Laws.Options.{pick_true, pick_false}
use Rattle.theory.specs.Laws.Lists.{flat_map_append}
use Rattle.words.specs.Limits.{place_size}
use Rattle.sheets.specs.Bits.{number_at}
use Rattle.sheets.specs.Packing.{All, IsByte}
use Rattle.sheets.proofs.Laws.Numbers.{all_take}
use Rattle.sheets.proofs.Laws.PackingBytes.{all_at}
use Rattle.explain_place.specs.Places.{bytes_of_place, place_at, no_place, place_in, places_in}

module _ (packed : List ℕ) (n i : ℕ) where
  pub place_used : i < n → place_in packed n i ≡ place_at packed (place_size * i)
  unfolding place_in
  place_used h = pick_true (ltb i n) (place_at packed (place_size * i)) no_place (lt→ltb i n h)

  pub place_unused : n ≤ i → place_in packed n i ≡ no_place
  unfolding place_in
  place_unused h =
      pick_false (ltb i n) (place_at packed (place_size * i)) no_place (λ t. let d : i < n = ltb→lt i n t in omega arith)

pub length_places : (packed : List ℕ) (n m : ℕ) → length (places_in packed n m) ≡ m
unfolding places_in
length_places packed n zero = refl
length_places packed n (suc m) =
    length-append (places_in packed n m) (place_in packed n m ∷ []) ∙ ap (λ k. k + 1) (length_places packed n m) ∙ add-one m

-- each place holds what the definition says
pub place_of : (packed : List ℕ) (n m i : ℕ) → i < m → get_or (places_in packed n m) i no_place ≡ place_in packed n i
unfolding places_in
place_of packed n zero i h = absurd (let z : suc i ≤ 0 = h in omega arith)
place_of packed n (suc m) i h = go (λ b. place_of packed n m i b) (ltb i m) refl
  where
    -- the place that was put last
    last : i ≡ m → get_or (places_in packed n (suc m)) i no_place ≡ place_in packed n i
    last e =
        get_or_at (places_in packed n m) (place_in packed n m) [] no_place i (length_places packed n m ∙ sym e)
        ∙ ap (place_in packed n) (sym e)

    -- one before it
    before : (i < m → get_or (places_in packed n m) i no_place ≡ place_in packed n i) → i < m
        → get_or (places_in packed n (suc m)) i no_place ≡ place_in packed n i
    before earlier b =
        get_or-append (places_in packed n m) (place_in packed n m ∷ []) no_place i (rw (length_places packed n m) b) ∙ earlier b

    go : (i < m → get_or (places_in packed n m) i no_place ≡ place_in packed n i) → (t : Bool) → ltb i m ≡ t
        → get_or (places_in packed n (suc m)) i no_place ≡ place_in packed n i
    go earlier true e = before earlier (ltb→lt i m (rw e tt))
    go earlier false e = last (let d : m ≤ i = nltb→le i m (rw e tt) in omega arith)

-- ---- the bytes of the places, one after another

-- each is a byte
pub record Bytes (xs : List ℕ) : Type 0 where
  pub each : All IsByte xs

module _ (xs : List ℕ) (n : ℕ) (long : place_size * n ≤ length xs) (bytes : Bytes (take (place_size * n) xs)) where
  below : (i : ℕ) → i < place_size * n → get_or xs i 0 < 256
  below i l =
      subst IsByte (get_or-take (place_size * n) xs i 0 l) (all_at {P = IsByte} (take (place_size * n) xs) i 0 (omega arith) bytes.each)

  -- the two bytes of a number are those that it was read from
  high : (at : ℕ) → at + 1 < place_size * n → number_at xs at 2 / 256 ≡ get_or xs at 0
  unfolding number_at
  high at h =
      let l : get_or xs (at + 1) 0 < 256 = below (at + 1) h in
      let z : get_or xs (at + 0) 0 ≡ get_or xs at 0 = ap (λ k. get_or xs k 0) (add-zero at) in
      omega arith

  low : (at : ℕ) → at + 1 < place_size * n → number_at xs at 2 % 256 ≡ get_or xs (at + 1) 0
  unfolding number_at
  low at h = let l : get_or xs (at + 1) 0 < 256 = below (at + 1) h in omega arith

  -- the bytes of a place are the 40 bytes that it was read from
  bytes_again : (at : ℕ) → at + place_size ≤ place_size * n → bytes_of_place (place_at xs at) ≡ take place_size (drop at xs)
  unfolding place_at
  bytes_again at h =
      rw (
        high at (omega arith),
        low at (omega arith),
        high (at + 3) (omega arith),
        low (at + 3) (omega arith),
        high (at + 6) (omega arith),
        low (at + 6) (omega arith),
        byte at (at + 1) (omega arith) (omega arith),
        byte (at + 1) (at + 2) (omega arith) (omega arith),
        byte (at + 2) (at + 3) (omega arith) (omega arith),
        byte (at + 3) (at + 3 + 1) (omega arith) (omega arith),
        byte (at + 3 + 1) (at + 5) (omega arith) (omega arith),
        byte (at + 5) (at + 6) (omega arith) (omega arith),
        byte (at + 6) (at + 6 + 1) (omega arith) (omega arith),
        byte (at + 6 + 1) (at + 8) (omega arith) (omega arith),
      ) refl
    where
      byte : (j k : ℕ) → suc j ≡ k → j < length xs → drop j xs ≡ get_or xs j 0 ∷ drop k xs
      byte j k e l = drop-cons xs j 0 l ∙ ap (λ r. get_or xs j 0 ∷ drop r xs) e

  -- the places that are used
  pack_used : (m : ℕ) → m ≤ n → flat_map bytes_of_place (places_in xs n m) ≡ take (place_size * m) xs
  unfolding places_in flat_map
  pack_used zero k = refl
  pack_used (suc m) k =
      let sum : place_size * m + place_size ≡ place_size * suc m = omega arith in
      flat_map_append bytes_of_place (places_in xs n m) (place_in xs n m ∷ [])
      ∙ ap₂ ◌++◌ (pack_used m (omega arith))
      (append-nil (bytes_of_place (place_in xs n m)) ∙ ap bytes_of_place (place_used xs n m (omega arith))
      ∙ bytes_again (place_size * m) (omega arith))
      ∙ sym (take-add (place_size * m) place_size xs) ∙ ap (λ c. take c xs) sum

  -- and those after them
  pack_more : (k : ℕ) → flat_map bytes_of_place (places_in xs n (k + n)) ≡ take (place_size * n) xs ++ replicate (place_size * k) 0
  unfolding places_in flat_map no_place
  pack_more zero =
      let none : zero + n ≡ n = omega arith in
      ap (λ c. flat_map bytes_of_place (places_in xs n c)) none ∙ pack_used n (omega arith) ∙ sym (append-nil (take (place_size * n) xs))
  pack_more (suc k) =
      let one : suc k + n ≡ suc (k + n) = omega arith in
      let sum : place_size * k + place_size ≡ place_size * suc k = omega arith in
      ap (λ c. flat_map bytes_of_place (places_in xs n c)) one
      ∙ flat_map_append bytes_of_place (places_in xs n (k + n)) (place_in xs n (k + n) ∷ [])
      ∙ ap₂ ◌++◌ (pack_more k)
      (append-nil (bytes_of_place (place_in xs n (k + n))) ∙ ap bytes_of_place (place_unused xs n (k + n) (omega arith)))
      ∙ append_assoc (take (place_size * n) xs) (replicate (place_size * k) 0) (replicate place_size 0)
      ∙ ap (λ r. take (place_size * n) xs ++ r)
      (replicate-append-replicate (place_size * k) place_size 0 ∙ ap (λ c. replicate c 0) sum)

  -- all of them, where those that are used hold bytes
  pub pack_first : (m : ℕ) → n ≤ m
      → flat_map bytes_of_place (places_in xs n m) ≡ take (place_size * n) xs ++ replicate (place_size * (m - n)) 0
  pack_first m k =
      let whole : m ≡ m - n + n = omega arith in
      ap (λ c. flat_map bytes_of_place (places_in xs n c)) whole ∙ pack_more (m - n)

pub pack_places : (xs : List ℕ) → Bytes xs → (n m : ℕ) → place_size * n ≤ length xs → n ≤ m
    → flat_map bytes_of_place (places_in xs n m) ≡ take (place_size * n) xs ++ replicate (place_size * (m - n)) 0
pack_places xs bytes n m h k = pack_first xs n h (record { each = all_take (place_size * n) xs bytes.each }) m k
