-- What the tests and searches on lists mean, and what the proofs need of membership, of maps and of elements by their index.
use Rattle.std.proofs.Math.Path.{◌≡◌, refl, ap, ap₂}
use Rattle.std.proofs.Common.{sym, ◌∙◌, subst, le_refl, le_trans, eq-or-lt_of_le}
use Rattle.std.proofs.Math.Logic.{inl, inr}
use Rattle.std.specs.Prelude.{◌⊎◌, ◌↔◌, ◌≢◌, Bool, not, ◌||◌, get_or, set}
use Prim.Native.Nat.{ℕ, zero, suc, ◌+◌, ◌≤◌, ◌<◌, max, zero-le, suc-le-suc}
use Rattle.std.proofs.Math.Decide.{ℕ_discrete}
use native.Mathlib.Omega.{arith}
use Rattle.std.proofs.Math.Bool.{true, false, or_assoc}
use Rattle.std.proofs.Math.Option.{Option, none, some}
use mathlib.Core.List.Memᴰ
use mathlib.Core.List.{List, [], ◌∷◌, ◌++◌, append_assoc, map, map-map, map-id, foldr, flat_map}
use Rattle.std.proofs.Math.Dec.{T, T_not, not_T}
use Rattle.std.proofs.Math.ListN.{length, get_elem?}
use Rattle.std.proofs.lemmas.List.{length-map}
use Rattle.theory.specs.Lists.{◌∈◌, At, Unrepeated, pick, any, all, without, once, pairwise, first_some, to_list, is_some, numbers}
use Rattle.theory.specs.Laws.Options.{T_and, T_or, same_test, either, pick_true, pick_false, some_inj, none≢some}

-- ---- membership

module _ {X : Type 0} where
  pub here : {x : X} {xs : List X} → x ∈ x ∷ xs
  here = Memᴰ.head refl

  -- membership in a list that equals another
  pub mem_along : {x : X} {xs ys : List X} → xs ≡ ys → x ∈ xs → x ∈ ys
  mem_along {x} e m = subst (λ l. x ∈ l) e m

  -- what holds of every element of a list, by its head and its tail
  pub forall_cons : {P : X → Type 0} {y : X} {xs : List X} → P y → ((x : X) → x ∈ xs → P x) → (x : X) → x ∈ y ∷ xs → P x
  forall_cons {P} h t x (Memᴰ.head e) = subst P (sym e) h
  forall_cons h t x (Memᴰ.tail m) = t x m

  pub mem_to_list : (o : Option X) {y : X} → (y ∈ to_list o) ↔ (o ≡ some y)
  unfolding to_list
  mem_to_list none = (λ m. absurd (Memᴰ.not-nil m), λ e. absurd (none≢some e))
  mem_to_list (some x) = (λ m. ap some (sym (Memᴰ.eq_of_singleton m)), λ e. Memᴰ.head (sym (some_inj e)))

  -- ---- some element, all elements

  any_found : (p : X → Bool) (xs : List X) → T (any p xs) → (x : X) × (x ∈ xs) × T (p x)
  unfolding any
  any_found p [] t = absurd t
  any_found p (x ∷ xs) t =
      elim ((T_or (p x) (any p xs)).0 t) [
        | inl h ↦ (x, here, h)
        | inr h ↦ (let r = any_found p xs h in (r.0, Memᴰ.tail r.1, r.2))
      ]

  any_of : (p : X → Bool) {x : X} {xs : List X} → x ∈ xs → T (p x) → T (any p xs)
  unfolding any
  any_of p (Memᴰ.head {x = y} {xs = ys} e) t = (T_or (p y) (any p ys)).1 (inl (subst (λ z. T (p z)) e t))
  any_of p (Memᴰ.tail {x = y} {xs = ys} m) t = (T_or (p y) (any p ys)).1 (inr (any_of p m t))

  pub any_iff : (p : X → Bool) (xs : List X) → T (any p xs) ↔ ((x : X) × (x ∈ xs) × T (p x))
  any_iff p xs = (any_found p xs, λ w. any_of p w.1 w.2)

  -- which elements there are decides, not their order
  pub any_members : (p : X → Bool) (xs ys : List X) → ((x : X) → (x ∈ xs) ↔ (x ∈ ys)) → any p xs ≡ any p ys
  any_members p xs ys same =
      same_test (any p xs) (any p ys) (
        λ t. (let w = (any_iff p xs).0 t in (any_iff p ys).1 (w.0, (same w.0).0 w.1, w.2)),
        λ t. (let w = (any_iff p ys).0 t in (any_iff p xs).1 (w.0, (same w.0).1 w.1, w.2)),
      )

  -- a test that decides P finds an element of which P holds
  pub any_decides : (test : X → Bool) (P : X → Type 0) (xs : List X) → ((x : X) → T (test x) ↔ P x) → T (any test xs)
      ↔ ((x : X) × (x ∈ xs) × P x)
  any_decides test P xs decides = (
    λ t. let w = (any_iff test xs).0 t in (w.0, w.1, (decides w.0).0 w.2),
    λ w. (any_iff test xs).1 (w.0, w.1, (decides w.0).1 w.2),
  )

  pub all_iff : (p : X → Bool) (xs : List X) → T (all p xs) ↔ ((x : X) → x ∈ xs → T (p x))
  unfolding all
  all_iff p [] = (λ t x m. absurd (Memᴰ.not-nil m), λ f. tt)
  all_iff p (x ∷ xs) = (
    λ t. let s = (T_and (p x) (all p xs)).0 t in forall_cons s.0 ((all_iff p xs).0 s.1),
    λ f. (T_and (p x) (all p xs)).1 (f x here, (all_iff p xs).1 (λ y m. f y (Memᴰ.tail m))),
  )

-- every element of the one list passes the test with some element of the other
pub all_any_iff : {X Y : Type 0} (test : X → Y → Bool) (xs : List X) (ys : List Y) → T (all (λ x. any (test x) ys) xs)
    ↔ ((x : X) → x ∈ xs → (y : Y) × (y ∈ ys) × T (test x y))
all_any_iff test xs ys = (
  λ t x m. (any_iff (test x) ys).0 ((all_iff (λ x. any (test x) ys) xs).0 t x m),
  λ f. (all_iff (λ x. any (test x) ys) xs).1 (λ x m. (any_iff (test x) ys).1 (f x m)),
)

-- ---- two lists side by side

module _ {X Y : Type 0} where
  -- two maps that agree on the elements agree on the list
  pub map_agree : (f g : X → Y) (xs : List X) → ((x : X) → x ∈ xs → f x ≡ g x) → map f xs ≡ map g xs
  map_agree f g [] h = refl
  map_agree f g (x ∷ xs) h = ap₂ ◌∷◌ (h x here) (map_agree f g xs (λ y m. h y (Memᴰ.tail m)))

  -- a test that passes only on an element and its image gives the image of the list; one that passes on those passes on the lists
  pub pairwise_image : (test : X → Y → Bool) (f : X → Y) (xs : List X) (ys : List Y) → ((x : X) (y : Y) → x ∈ xs → T (test x y) → f x ≡ y)
      → T (pairwise test xs ys) → map f xs ≡ ys
  unfolding pairwise
  pairwise_image test f [] [] h t = refl
  pairwise_image test f [] (y ∷ ys) h t = absurd t
  pairwise_image test f (x ∷ xs) [] h t = absurd t
  pairwise_image test f (x ∷ xs) (y ∷ ys) h t =
      let s = (T_and (test x y) (pairwise test xs ys)).0 t in
      ap₂ ◌∷◌ (h x y here s.0) (pairwise_image test f xs ys (λ x y m. h x y (Memᴰ.tail m)) s.1)

  pub image_pairwise : (test : X → Y → Bool) (f : X → Y) (xs : List X) → ((x : X) → x ∈ xs → T (test x (f x)))
      → T (pairwise test xs (map f xs))
  unfolding pairwise
  image_pairwise test f [] h = tt
  image_pairwise test f (x ∷ xs) h =
      (T_and (test x (f x)) (pairwise test xs (map f xs))).1 (h x here, image_pairwise test f xs (λ x m. h x (Memᴰ.tail m)))

-- two maps, one after the other, that come to a third on the elements
pub map_after : {X Y Z : Type 0} (g : Y → Z) (f : X → Y) (k : X → Z) (xs : List X) → ((x : X) → x ∈ xs → g (f x) ≡ k x)
    → map g (map f xs) ≡ map k xs
map_after g f k xs h = map-map g f xs ∙ map_agree (λ x. g (f x)) k xs h

-- ---- elements left out, and elements kept once

module _ {X : Type 0} where
  pub mem_without : (p : X → Bool) (xs : List X) {y : X} → y ∈ without p xs → (y ∈ xs) × (¬ T (p y))
  unfolding without
  mem_without p [] m = absurd (Memᴰ.not-nil m)
  mem_without p (x ∷ xs) {y} m = go (p x) refl (λ n. mem_without p xs n) m
    where
      later : (y ∈ xs) × (¬ T (p y)) → (y ∈ x ∷ xs) × (¬ T (p y))
      later r = (Memᴰ.tail r.0, r.1)

      go : (b : Bool) → p x ≡ b → (y ∈ without p xs → (y ∈ xs) × (¬ T (p y))) → y ∈ pick b (without p xs) (x ∷ without p xs)
          → (y ∈ x ∷ xs) × (¬ T (p y))
      go true e below n = later (below n)
      go false e below n =
          elim (Memᴰ.cases_cons n) [
            | inl d ↦ (Memᴰ.head d, λ t. subst T (ap p d ∙ e) t)
            | inr k ↦ later (below k)
          ]

  pub without_mem : (p : X → Bool) {y : X} {xs : List X} → y ∈ xs → ¬ T (p y) → y ∈ without p xs
  unfolding without
  without_mem p (Memᴰ.head {x = z} {xs = zs} e) f =
      mem_along (sym (pick_false (p z) (without p zs) (z ∷ without p zs) (λ t. f (subst (λ w. T (p w)) (sym e) t)))) (Memᴰ.head e)
  without_mem p {y = y} (Memᴰ.tail {x = z} {xs = zs} m) f =
      elim (p z) as (λ b. y ∈ pick b (without p zs) (z ∷ without p zs)) [
        | true ↦ without_mem p m f
        | false ↦ Memᴰ.tail (without_mem p m f)
      ]

  pub without_unrepeated : (p : X → Bool) (xs : List X) → Unrepeated xs → Unrepeated (without p xs)
  unfolding without
  without_unrepeated p [] u = tt
  without_unrepeated p (x ∷ xs) u =
      elim (p x) as (λ b. Unrepeated (pick b (without p xs) (x ∷ without p xs))) [
        | true ↦ without_unrepeated p xs u.1
        | false ↦ (λ m. u.0 (mem_without p xs m).0, without_unrepeated p xs u.1)
      ]

  -- no more than before, and some if there were some
  without_few : (p : X → Bool) (xs : List X) → length (without p xs) ≤ length xs
  unfolding without
  without_few p [] = zero-le
  without_few p (x ∷ xs) =
      let h : length (without p xs) ≤ length xs = without_few p xs in
      elim (p x) as (λ b. length (pick b (without p xs) (x ∷ without p xs)) ≤ suc (length xs)) [ true ↦ omega arith | false ↦ suc-le-suc h ]

  pub once_few : (same : X → X → Bool) (xs : List X) → length (once same xs) ≤ length xs
  unfolding once
  once_few same [] = zero-le
  once_few same (x ∷ xs) = suc-le-suc (le_trans (without_few (same x) (once same xs)) (once_few same xs))

  pub once_some : (same : X → X → Bool) (xs : List X) → 1 ≤ length xs → 1 ≤ length (once same xs)
  unfolding once
  once_some same [] h = h
  once_some same (x ∷ xs) h = suc-le-suc zero-le

  -- where a test decides equality
  module _ (same : X → X → Bool) (same-iff : (x y : X) → T (same x y) ↔ (x ≡ y)) where
    pub any_same : (x : X) (xs : List X) → T (any (same x) xs) ↔ (x ∈ xs)
    any_same x xs = (
      λ t. let r = (any_iff (same x) xs).0 t in Memᴰ.cast ((same-iff x r.0).0 r.2) r.1,
      λ m. (any_iff (same x) xs).1 (x, m, (same-iff x x).1 refl),
    )

    pub pairwise_iff : (xs ys : List X) → T (pairwise same xs ys) ↔ (xs ≡ ys)
    pairwise_iff xs ys = (
      λ t. sym (map-id xs) ∙ pairwise_image same (λ x. x) xs ys (λ x y m. (same-iff x y).0) t,
      λ e. subst (λ l. T (pairwise same xs l)) (map-id xs ∙ e) (image_pairwise same (λ x. x) xs (λ x m. (same-iff x x).1 refl)),
    )

    pub once_mem : (xs : List X) {y : X} → y ∈ once same xs → y ∈ xs
    unfolding once
    once_mem [] m = m
    once_mem (x ∷ xs) (Memᴰ.head e) = Memᴰ.head e
    once_mem (x ∷ xs) (Memᴰ.tail m) = Memᴰ.tail (once_mem xs (mem_without (same x) (once same xs) m).0)

    pub mem_once : {y : X} {xs : List X} → y ∈ xs → y ∈ once same xs
    unfolding once
    mem_once (Memᴰ.head e) = Memᴰ.head e
    mem_once {y = y} (Memᴰ.tail {x = x} m) =
        elim (either (same x y)) [
          | inl t ↦ Memᴰ.head (sym ((same-iff x y).0 t))
          | inr f ↦ Memᴰ.tail (without_mem (same x) (mem_once m) f)
        ]

    pub once_unrepeated : (xs : List X) → Unrepeated (once same xs)
    unfolding once
    once_unrepeated [] = tt
    once_unrepeated (x ∷ xs) = (
      λ m. (mem_without (same x) (once same xs) m).1 ((same-iff x x).1 refl),
      without_unrepeated (same x) (once same xs) (once_unrepeated xs),
    )

    -- what is left of a list without repeats where all but its x go is x, and where it has no x nothing
    none_same : (x : X) (xs : List X) → ¬ (x ∈ xs) → without (λ y. not (same x y)) xs ≡ []
    unfolding without
    none_same x [] f = refl
    none_same x (y ∷ ys) f =
        pick_true (not (same x y)) _ _ (not_T (same x y) (λ t. f (Memᴰ.head ((same-iff x y).0 t))))
        ∙ none_same x ys (λ m. f (Memᴰ.tail m))

    pub only_same : (x : X) (xs : List X) → Unrepeated xs → x ∈ xs → without (λ y. not (same x y)) xs ≡ x ∷ []
    unfolding without
    only_same x [] u m = absurd (Memᴰ.not-nil m)
    only_same x (y ∷ ys) u m =
        elim (either (same x y)) [
          | inl t ↦ (let e : x ≡ y = (same-iff x y).0 t in
              pick_false (not (same x y)) _ _ (λ s. T_not (same x y) s t)
              ∙ ap₂ ◌∷◌ (sym e) (none_same x ys (λ n. u.0 (Memᴰ.cast (sym e) n))))
          | inr f ↦ pick_true (not (same x y)) _ _ (not_T (same x y) f)
              ∙ only_same x ys u.1 (elim (Memᴰ.cases_cons m) [ inl e ↦ absurd (f ((same-iff x y).1 e)) | inr n ↦ n ])
        ]

-- the image of a list without repeats under a map that sends no two of its elements to one
pub map_unrepeated : {X Y : Type 0} (f : X → Y) (xs : List X) → ((x y : X) → x ∈ xs → y ∈ xs → f x ≡ f y → x ≡ y) → Unrepeated xs
    → Unrepeated (map f xs)
map_unrepeated f [] apart u = tt
map_unrepeated f (x ∷ xs) apart u = (
  λ m. let (y, n, e) = Memᴰ.of_map f xs m in u.0 (Memᴰ.cast (apart x y here (Memᴰ.tail n) (sym e)) n),
  map_unrepeated f xs (λ y z m n. apart y z (Memᴰ.tail m) (Memᴰ.tail n)) u.1,
)

-- ---- searches

module _ {X Y : Type 0} where
  -- what first_some gives is the value at some element, and it gives one if there is one
  pub first_some_found : (f : X → Option Y) (xs : List X) {y : Y} → first_some f xs ≡ some y → (x : X) × (x ∈ xs) × (f x ≡ some y)
  unfolding first_some
  first_some_found f [] e = absurd (none≢some e)
  first_some_found f (x ∷ xs) {y} e = go (f x) refl (λ d. first_some_found f xs d) e
    where
      go : (o : Option Y) → f x ≡ o → (first_some f xs ≡ some y → (x : X) × (x ∈ xs) × (f x ≡ some y))
          → ◌≡◌ {A = Option Y} (elim o [ none ↦ first_some f xs | some z ↦ some z ]) (some y) → (z : X) × (z ∈ x ∷ xs) × (f z ≡ some y)
      go none d later e = let r = later e in (r.0, Memᴰ.tail r.1, r.2)
      go (some z) d later e = (x, here, d ∙ e)

  pub first_some_of : (f : X → Option Y) {x : X} {xs : List X} → x ∈ xs → T (is_some (f x)) → T (is_some (first_some f xs))
  unfolding first_some is_some
  first_some_of f (Memᴰ.head {x = y} {xs = ys} e) t = go (f y) (subst (λ z. T (is_some (f z))) e t)
    where
      go : (o : Option Y) → T (is_some o) → T (is_some {X = Y} (elim o [ none ↦ first_some f ys | some z ↦ some z ]))
      go none t = absurd t
      go (some z) t = tt
  first_some_of f (Memᴰ.tail {x = y} {xs = ys} m) t =
      elim (f y) as (λ o. T (is_some {X = Y} (elim o [ none ↦ first_some f ys | some z ↦ some z ]))) [
        | none ↦ first_some_of f m t
        | some z ↦ tt
      ]

  pub flat_map_found : (f : X → List Y) (xs : List X) {y : Y} → y ∈ flat_map f xs → (x : X) × (x ∈ xs) × (y ∈ f x)
  unfolding flat_map
  flat_map_found f [] m = absurd (Memᴰ.not-nil m)
  flat_map_found f (x ∷ xs) m =
      elim (Memᴰ.append_cases (f x) m) [
        | inl h ↦ (x, here, h)
        | inr h ↦ (let r = flat_map_found f xs h in (r.0, Memᴰ.tail r.1, r.2))
      ]

  pub flat_map_of : (f : X → List Y) {x : X} {xs : List X} {y : Y} → x ∈ xs → y ∈ f x → y ∈ flat_map f xs
  unfolding flat_map
  flat_map_of f {y = y} (Memᴰ.head {xs = zs} e) t = Memᴰ.append_left (flat_map f zs) (subst (λ z. y ∈ f z) e t)
  flat_map_of f (Memᴰ.tail {x = z} m) t = Memᴰ.append_right (f z) (flat_map_of f m t)

pub mem_numbers : (start n i : ℕ) → start ≤ i → i < start + n → i ∈ numbers start n
unfolding numbers
mem_numbers start zero i h k = absurd (omega arith)
mem_numbers start (suc n) i h k =
    elim (eq-or-lt_of_le h) [ inl e ↦ Memᴰ.head (sym e) | inr l ↦ Memᴰ.tail (mem_numbers (suc start) n i l (omega arith)) ]

pub numbers_found : (start n i : ℕ) → i ∈ numbers start n → (start ≤ i) × (i < start + n)
unfolding numbers
numbers_found start zero i m = absurd (Memᴰ.not-nil m)
numbers_found start (suc n) i (Memᴰ.head e) = (omega arith, omega arith)
numbers_found start (suc n) i (Memᴰ.tail m) = let r = numbers_found (suc start) n i m in (omega arith, omega arith)

pub numbers_iff : (n i : ℕ) → (i ∈ numbers 0 n) ↔ (i < n)
numbers_iff n i = (λ m. (let b = numbers_found 0 n i m in omega arith), λ l. mem_numbers 0 n i (omega arith) (omega arith))

length_numbers : (start n : ℕ) → length (numbers start n) ≡ n
unfolding numbers
length_numbers start zero = refl
length_numbers start (suc n) = ap suc (length_numbers (suc start) n)

-- what f gives at the numbers below n
module _ {X : Type 0} (f : ℕ → X) (n : ℕ) where
  pub mem_numbered : (x : X) → (x ∈ map f (numbers 0 n)) ↔ ((i : ℕ) × (i < n) × (f i ≡ x))
  mem_numbered x = (
    λ m. let (i, k, e) = Memᴰ.of_map f (numbers 0 n) m in (i, (numbers_iff n i).0 k, e),
    λ w. Memᴰ.cast (sym w.2) (Memᴰ.map f ((numbers_iff n w.0).1 w.1)),
  )

  pub numbered_length : length (map f (numbers 0 n)) ≡ n
  numbered_length = length-map (numbers 0 n) f ∙ length_numbers 0 n

module _ {X : Type 0} (f : ℕ → ℕ → Option X) (m n : ℕ) where
  -- what f gives at two numbers, the first below m and the second below n
  abbrev pub gathered : List X
  gathered = flat_map (λ i. flat_map (λ k. to_list (f i k)) (numbers zero n)) (numbers zero m)

  pub gathered_found : {x : X} → x ∈ gathered → (i k : ℕ) × (f i k ≡ some x)
  gathered_found s =
      let r = flat_map_found (λ i. flat_map (λ k. to_list (f i k)) (numbers zero n)) (numbers zero m) s in
      let t = flat_map_found (λ k. to_list (f r.0 k)) (numbers zero n) r.2 in
      (r.0, t.0, (mem_to_list (f r.0 t.0)).0 t.2)

  pub gathered_of : {x : X} (i k : ℕ) → i < m → k < n → f i k ≡ some x → x ∈ gathered
  gathered_of i k h l e =
      flat_map_of (λ i. flat_map (λ k. to_list (f i k)) (numbers zero n)) (mem_numbers zero m i (omega arith) (omega arith))
      (flat_map_of (λ k. to_list (f i k)) (mem_numbers zero n k (omega arith) (omega arith)) ((mem_to_list (f i k)).1 e))

-- ---- elements by their index

-- an element within a list, whatever stands for one that is not
pub get_d_within : {X : Type 0} (xs : List X) (i : ℕ) (d e : X) → i < length xs → get_or xs i d ≡ get_or xs i e
get_d_within [] i d e h = absurd (omega arith)
get_d_within (x ∷ xs) zero d e h = refl
get_d_within (x ∷ xs) (suc i) d e h = get_d_within xs i d e (omega arith)

module _ {X : Type 0} where
  pub at_mem : (xs : List X) (i : ℕ) {x : X} → At xs i x → x ∈ xs
  at_mem [] i e = absurd (none≢some e)
  at_mem (y ∷ ys) zero e = Memᴰ.head (sym (some_inj e))
  at_mem (y ∷ ys) (suc i) e = Memᴰ.tail (at_mem ys i e)

  pub mem_at : {x : X} {xs : List X} → x ∈ xs → (i : ℕ) × At xs i x
  mem_at (Memᴰ.head e) = (zero, ap some (sym e))
  mem_at (Memᴰ.tail m) = let r = mem_at m in (suc r.0, r.1)

  pub at_lt : (xs : List X) (i : ℕ) {x : X} → At xs i x → i < length xs
  at_lt [] i e = absurd (none≢some e)
  at_lt (y ∷ ys) zero e = suc-le-suc zero-le
  at_lt (y ∷ ys) (suc i) e = suc-le-suc (at_lt ys i e)

  -- an index is within the list or past its end
  pub at_or_past : (xs : List X) (i : ℕ) → ((x : X) × At xs i x) ⊎ (length xs ≤ i)
  at_or_past [] i = inr zero-le
  at_or_past (x ∷ xs) zero = inl (x, refl)
  at_or_past (x ∷ xs) (suc i) = elim (at_or_past xs i) [ inl w ↦ inl w | inr h ↦ inr (suc-le-suc h) ]

  -- two elements at one index are one
  pub at_equal : (xs : List X) {i j : ℕ} {x y : X} → i ≡ j → At xs i x → At xs j y → x ≡ y
  at_equal xs d e f = some_inj (sym e ∙ ap (get_elem? xs) d ∙ f)

  pub at_unique : (xs : List X) (i : ℕ) {x y : X} → At xs i x → At xs i y → x ≡ y
  at_unique xs i = at_equal xs refl

  -- an element changed at one index: there and elsewhere
  pub set_at : (xs : List X) (i : ℕ) (b : X) {a : X} → At xs i a → At (set xs i b) i b
  set_at [] i b e = absurd (none≢some e)
  set_at (x ∷ xs) zero b e = refl
  set_at (x ∷ xs) (suc i) b e = set_at xs i b e

  pub set_elsewhere : (xs : List X) (i j : ℕ) (b : X) → j ≢ i → get_elem? (set xs i b) j ≡ get_elem? xs j
  set_elsewhere [] i j b d = refl
  set_elsewhere (x ∷ xs) zero zero b d = absurd (d refl)
  set_elsewhere (x ∷ xs) zero (suc j) b d = refl
  set_elsewhere (x ∷ xs) (suc i) zero b d = refl
  set_elsewhere (x ∷ xs) (suc i) (suc j) b d = set_elsewhere xs i j b (λ e. d (ap suc e))

  -- in a list without repeats each element stands at one index
  pub unrepeated_at : (xs : List X) → Unrepeated xs → (i j : ℕ) {x : X} → At xs i x → At xs j x → i ≡ j
  unrepeated_at [] u i j e f = absurd (none≢some e)
  unrepeated_at (y ∷ ys) u zero zero e f = refl
  unrepeated_at (y ∷ ys) u zero (suc j) e f = absurd (u.0 (Memᴰ.cast (some_inj e) (at_mem ys j f)))
  unrepeated_at (y ∷ ys) u (suc i) zero e f = absurd (u.0 (Memᴰ.cast (some_inj f) (at_mem ys i e)))
  unrepeated_at (y ∷ ys) u (suc i) (suc j) e f = ap suc (unrepeated_at ys u.1 i j e f)

  -- so where a was changed to b it has b and its elements other than a
  pub set_mem : (xs : List X) (i : ℕ) (a b : X) → Unrepeated xs → At xs i a → (c : X) → (c ∈ set xs i b) ↔ ((c ≡ b) ⊎ ((c ∈ xs) × (c ≢ a)))
  set_mem xs i a b u e c = (
    λ m. let s = mem_at m in elim (ℕ_discrete s.0 i) [
      | yes d ↦ inl (at_equal (set xs i b) d s.1 (set_at xs i b e))
      | no d ↦
          (let f : At xs s.0 c = sym (set_elsewhere xs i s.0 b d) ∙ s.1 in
          inr (at_mem xs s.0 f, λ k. d (unrepeated_at xs u s.0 i f (e ∙ ap some (sym k)))))
    ],
    λ s. elim s [
      | inl d ↦ Memᴰ.cast d (at_mem (set xs i b) i (set_at xs i b e))
      | inr w ↦
          (let t = mem_at w.0 in
          at_mem (set xs i b) t.0 (set_elsewhere xs i t.0 b (λ d. w.1 (at_equal xs d t.1 e)) ∙ t.1))
    ],
  )

  -- a list with more after it
  pub at_append : (xs ys : List X) (i : ℕ) {x : X} → At xs i x → At (xs ++ ys) i x
  at_append [] ys i e = absurd (none≢some e)
  at_append (x ∷ xs) ys zero e = e
  at_append (x ∷ xs) ys (suc i) e = at_append xs ys i e

  -- what stands in a list with one element more stood there before, or is that element
  pub at_snoc : (xs : List X) (y : X) (i : ℕ) {x : X} → At (xs ++ (y ∷ [])) i x → At xs i x ⊎ ((i ≡ length xs) × (x ≡ y))
  at_snoc [] y zero e = inr (refl, sym (some_inj e))
  at_snoc [] y (suc i) e = absurd (none≢some e)
  at_snoc (x ∷ xs) y zero e = inl e
  at_snoc (x ∷ xs) y (suc i) e = elim (at_snoc xs y i e) [ inl f ↦ inl f | inr w ↦ inr (ap suc w.0, w.1) ]

  -- the list without the element at index i
  abbrev pub drop_at : List X → ℕ → List X
  drop_at [] i = []
  drop_at (x ∷ xs) zero = xs
  drop_at (x ∷ xs) (suc i) = x ∷ drop_at xs i

  pub mem_drop_at : (xs : List X) (i j : ℕ) {x : X} → At xs j x → j ≢ i → x ∈ drop_at xs i
  mem_drop_at [] i j e d = absurd (none≢some e)
  mem_drop_at (y ∷ ys) zero zero e d = absurd (d refl)
  mem_drop_at (y ∷ ys) zero (suc j) e d = at_mem ys j e
  mem_drop_at (y ∷ ys) (suc i) zero e d = Memᴰ.head (sym (some_inj e))
  mem_drop_at (y ∷ ys) (suc i) (suc j) e d = Memᴰ.tail (mem_drop_at ys i j e (λ f. d (ap suc f)))

  pub drop_at_mem : (xs : List X) (i : ℕ) {x : X} → x ∈ drop_at xs i → x ∈ xs
  drop_at_mem [] i m = m
  drop_at_mem (y ∷ ys) zero m = Memᴰ.tail m
  drop_at_mem (y ∷ ys) (suc i) (Memᴰ.head e) = Memᴰ.head e
  drop_at_mem (y ∷ ys) (suc i) (Memᴰ.tail m) = Memᴰ.tail (drop_at_mem ys i m)

  pub drop_at_set : (xs : List X) (i : ℕ) (b : X) → drop_at (set xs i b) i ≡ drop_at xs i
  drop_at_set [] i b = refl
  drop_at_set (x ∷ xs) zero b = refl
  drop_at_set (x ∷ xs) (suc i) b = ap (λ r. x ∷ r) (drop_at_set xs i b)

-- no element is more than the largest
-- the element at an index of a mapped list comes from the one at that index
pub map_at : {X Y : Type 0} (f : X → Y) (xs : List X) (i : ℕ) (y : Y) → At (map f xs) i y → (x : X) × At xs i x × (f x ≡ y)
map_at f [] i y e = absurd (none≢some e)
map_at f (x ∷ xs) zero y e = (x, refl, some_inj e)
map_at f (x ∷ xs) (suc i) y e = map_at f xs i y e

pub get_d_max : (xs : List ℕ) (j : ℕ) → get_or xs j 0 ≤ foldr max 0 xs
get_d_max [] j = le_refl 0
get_d_max (x ∷ xs) zero = omega arith
get_d_max (x ∷ xs) (suc j) = let h : get_or xs j 0 ≤ foldr max 0 xs = get_d_max xs j in omega arith

-- ---- some element of a list that is made of others

pub any_append : {X : Type 0} (p : X → Bool) (xs ys : List X) → any p (xs ++ ys) ≡ (any p xs || any p ys)
unfolding any
any_append p [] ys = refl
any_append p (x ∷ xs) ys = ap (λ b. p x || b) (any_append p xs ys) ∙ sym (or_assoc (p x) (any p xs) (any p ys))

module _ {X Y : Type 0} where
  pub any_map : (p : Y → Bool) (f : X → Y) (xs : List X) → any p (map f xs) ≡ any (λ x. p (f x)) xs
  unfolding any
  any_map p f [] = refl
  any_map p f (x ∷ xs) = ap (λ b. p (f x) || b) (any_map p f xs)

  pub any_flat_map : (p : Y → Bool) (f : X → List Y) (xs : List X) → any p (flat_map f xs) ≡ any (λ x. any p (f x)) xs
  unfolding any flat_map
  any_flat_map p f [] = refl
  any_flat_map p f (x ∷ xs) = any_append p (f x) (flat_map f xs) ∙ ap (λ b. any p (f x) || b) (any_flat_map p f xs)

-- ---- lists of lists

pub flat_map_append : {X Y : Type 0} (f : X → List Y) (xs ys : List X) → flat_map f (xs ++ ys) ≡ flat_map f xs ++ flat_map f ys
unfolding flat_map
flat_map_append f [] ys = refl
flat_map_append f (x ∷ xs) ys = ap (λ l. f x ++ l) (flat_map_append f xs ys) ∙ sym (append_assoc (f x) (flat_map f xs) (flat_map f ys))

pub flat_map_flat_map : {X Y Z : Type 0} (g : Y → List Z) (f : X → List Y) (xs : List X)
    → flat_map g (flat_map f xs) ≡ flat_map (λ x. flat_map g (f x)) xs
unfolding flat_map
flat_map_flat_map g f [] = refl
flat_map_flat_map g f (x ∷ xs) = flat_map_append g (f x) (flat_map f xs) ∙ ap (λ l. flat_map g (f x) ++ l) (flat_map_flat_map g f xs)
