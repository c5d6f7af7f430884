-- Weights added up and elements counted: what one element or two add to a total, and what it means that an element is counted once.
use Rattle.std.specs.Prelude.{◌≡◌, ◌↔◌, ◌≢◌, Bool, ◌||◌}
use Rattle.std.proofs.Math.Path.{refl, ap}
use Rattle.std.proofs.Common.{sym, ◌∙◌}
use Prim.Native.Nat.{ℕ, zero, suc, ◌+◌, ◌≤◌, ◌<◌}
use Rattle.std.proofs.Math.Decide.{ℕ_discrete}
use native.Mathlib.Omega.{arith}
use Rattle.std.proofs.Math.Bool.{true, false}
use Rattle.std.proofs.Math.Option.{some}
use mathlib.Core.List.Memᴰ
use mathlib.Core.List.{List, [], ◌∷◌, ◌++◌, flat_map}
use Rattle.std.proofs.Math.Dec.{T}
use Rattle.theory.specs.Lists.{◌∈◌, At, pick, any, count}
use Rattle.theory.specs.Laws.Options.{some_inj, none≢some, pick_true}
use Rattle.theory.specs.Laws.Lists.{any_same}

-- ---- totals

module _ {X : Type 0} (w : X → ℕ) where
  -- what the elements weigh together
  unfoldable pub total : List X → ℕ
  total [] = zero
  total (x ∷ xs) = w x + total xs

  -- one element, or two at two indices, weigh no more than all
  pub total_at : (xs : List X) (i : ℕ) {x : X} → At xs i x → w x ≤ total xs
  unfolding total
  total_at [] i e = absurd (none≢some e)
  total_at (y ∷ ys) zero {x} e = let d : w y ≡ w x = ap w (some_inj e) in omega arith
  total_at (y ∷ ys) (suc i) {x} e = let d : w x ≤ total ys = total_at ys i e in omega arith

  pub total_two : (xs : List X) (i j : ℕ) {x y : X} → At xs i x → At xs j y → i ≢ j → w x + w y ≤ total xs
  unfolding total
  total_two [] i j e f n = absurd (none≢some e)
  total_two (z ∷ zs) zero zero e f n = absurd (n refl)
  total_two (z ∷ zs) zero (suc j) {x} {y} e f n =
      let d : w z ≡ w x = ap w (some_inj e) in let g : w y ≤ total zs = total_at zs j f in omega arith
  total_two (z ∷ zs) (suc i) zero {x} {y} e f n =
      let d : w z ≡ w y = ap w (some_inj f) in let g : w x ≤ total zs = total_at zs i e in omega arith
  total_two (z ∷ zs) (suc i) (suc j) {x} {y} e f n = let d : w x + w y ≤ total zs = total_two zs i j e f (λ k. n (ap suc k)) in omega arith

  -- where all weigh something, or more than one of them, there is one, or another one, that weighs something
  pub total_some : (xs : List X) → 0 < total xs → (i : ℕ) × (x : X) × At xs i x × (0 < w x)
  unfolding total
  total_some [] h = absurd (omega arith)
  total_some (x ∷ xs) h = go (w x) refl (λ l. total_some xs l)
    where
      go : (k : ℕ) → w x ≡ k → (0 < total xs → (i : ℕ) × (y : X) × At xs i y × (0 < w y)) → (i : ℕ) × (y : X) × At (x ∷ xs) i y × (0 < w y)
      go zero e below = let r = below (omega arith) in (suc r.0, r.1, r.2, r.3)
      go (suc k) e below = (zero, x, refl, omega arith)

  pub total_more : (xs : List X) (i : ℕ) {x : X} → At xs i x → w x < total xs → (j : ℕ) × (y : X) × At xs j y × (j ≢ i) × (0 < w y)
  unfolding total
  total_more [] i e h = absurd (none≢some e)
  total_more (z ∷ zs) zero {x} e h =
      let d : w z ≡ w x = ap w (some_inj e) in
      let r = total_some zs (omega arith) in
      (suc r.0, r.1, r.2, omega arith, r.3)
  total_more (z ∷ zs) (suc i) {x} e h = go (w z) refl (λ l. total_more zs i e l)
    where
      go : (k : ℕ) → w z ≡ k → (w x < total zs → (j : ℕ) × (y : X) × At zs j y × (j ≢ i) × (0 < w y)) → (j : ℕ) × (y : X) × At (z ∷ zs) j y
          × (j ≢ suc i) × (0 < w y)
      go zero d below = let r = below (omega arith) in let n : r.0 ≢ i = r.3 in (suc r.0, r.1, r.2, omega arith, r.4)
      go (suc k) d below = (zero, z, refl, omega arith, omega arith)

-- ---- counts

module _ {X : Type 0} (p : X → Bool) where
  pub count_append : (xs ys : List X) → count p (xs ++ ys) ≡ count p xs + count p ys
  unfolding count
  count_append [] ys = omega arith
  count_append (x ∷ xs) ys =
      let d : count p (xs ++ ys) ≡ count p xs + count p ys = count_append xs ys in
      elim (p x) as (λ b. pick b (suc (count p (xs ++ ys))) (count p (xs ++ ys)) ≡ pick b (suc (count p xs)) (count p xs) + count p ys) [
        | true ↦ omega arith
        | false ↦ d
      ]

  -- a count is the total of what each element counts by itself, and of what the list of each counts
  pub count_total : (xs : List X) → count p xs ≡ total (λ x. count p (x ∷ [])) xs
  unfolding total count
  count_total [] = refl
  count_total (x ∷ xs) = count_append (x ∷ []) xs ∙ ap (λ n. count p (x ∷ []) + n) (count_total xs)

  pub count_flat_map : {Y : Type 0} (f : Y → List X) (ys : List Y) → count p (flat_map f ys) ≡ total (λ y. count p (f y)) ys
  unfolding total count flat_map
  count_flat_map f [] = refl
  count_flat_map f (y ∷ ys) = count_append (f y) (flat_map f ys) ∙ ap (λ n. count p (f y) + n) (count_flat_map f ys)

  -- something is counted exactly where something passes
  pub count_any : (xs : List X) → (0 < count p xs) ↔ T (any p xs)
  unfolding count any
  count_any [] = (λ h. omega arith, λ t. absurd t)
  count_any (x ∷ xs) =
      elim (p x) as (λ b. (0 < pick b (suc (count p xs)) (count p xs)) ↔ T (b || any p xs)) [
        | true ↦ (λ h. tt, λ t. omega arith)
        | false ↦ count_any xs
      ]

-- x stands at one index of the list
abbrev pub AtOne : {X : Type 0} → List X → X → Type 0
AtOne xs x = (i : ℕ) × At xs i x × ((j : ℕ) → At xs j x → j ≡ i)

module _ {X : Type 0} (same : X → X → Bool) (same-iff : (x y : X) → T (same x y) ↔ (x ≡ y)) where
  -- x is counted exactly where it stands in the list
  pub count_same : (x : X) (xs : List X) → (0 < count (same x) xs) ↔ (x ∈ xs)
  count_same x xs = (
    λ h. (any_same same same-iff x xs).0 ((count_any (same x) xs).0 h),
    λ m. (count_any (same x) xs).1 ((any_same same same-iff x xs).1 m),
  )

  -- x is counted once exactly where it stands at one index
  pub count_once : (x : X) (xs : List X) → (count (same x) xs ≡ 1) ↔ AtOne xs x
  unfolding count
  count_once x xs = (fwd, bwd)
    where
      w : X → ℕ
      w y = count (same x) (y ∷ [])

      one : w x ≡ 1
      one = pick_true (same x x) 1 0 ((same-iff x x).1 refl)

      x_at : (i : ℕ) (y : X) → At xs i y → 0 < w y → At xs i x
      x_at i y e h = e ∙ ap some (sym (Memᴰ.eq_of_singleton ((count_same x (y ∷ [])).0 h)))

      fwd : count (same x) xs ≡ 1 → AtOne xs x
      fwd e =
          let d : total w xs ≡ 1 = sym (count_total (same x) xs) ∙ e in
          let r = total_some w xs (omega arith) in
          let f : At xs r.0 x = x_at r.0 r.1 r.2 r.3 in (
            r.0,
            f,
            λ j g. elim (ℕ_discrete j r.0) [
              | yes k ↦ k
              | no n ↦ absurd (let two : w x + w x ≤ total w xs = total_two w xs j r.0 g f n in let o : w x ≡ 1 = one in omega arith)
            ],
          )

      bwd : AtOne xs x → count (same x) xs ≡ 1
      bwd s =
          let o : w x ≡ 1 = one in
          let h : w x ≤ total w xs = total_at w xs s.0 s.1 in
          elim (ℕ_discrete (total w xs) 1) [
            | yes e ↦ count_total (same x) xs ∙ e
            | no n ↦ (let r = total_more w xs s.0 s.1 (omega arith) in absurd (r.3 (s.2 r.0 (x_at r.0 r.1 r.2 r.4))))
          ]
