-- Lists in ascending order, over any order: without repeats, fixed by what stands in them, and kept by a function that puts an
-- element into its place.
use Rattle.std.specs.Prelude.{◌≡◌, refl, ◌↔◌}
use Rattle.std.proofs.Common.{sym, ap₂, ◌∙◌, subst, inl, inr}
use mathlib.Core.List.Memᴰ
use mathlib.Core.List.{List, [], ◌∷◌, foldr}
use Rattle.theory.specs.Lists.{◌∈◌, Unrepeated}
use Rattle.theory.specs.Laws.Lists.{here, mem_along, forall_cons}

module _ {X : Type 0} (Less : X → X → Type 0) where
  -- each element is less than all later ones
  abbrev pub Ascending : List X → Type 0
  Ascending [] = Unit {0}
  Ascending (x ∷ xs) = ((y : X) → y ∈ xs → Less x y) × Ascending xs

  module _ (irreflexive : (x : X) → ¬ Less x x) where
    pub ascending_unrepeated : (xs : List X) → Ascending xs → Unrepeated xs
    ascending_unrepeated [] a = tt
    ascending_unrepeated (x ∷ xs) a = (λ m. irreflexive x (a.0 x m), ascending_unrepeated xs a.1)

    -- two ascending lists of the same elements begin with the same one, and go on with the same ones
    module _ (transitive : (x y z : X) → Less x y → Less y z → Less x z) where
      heads_equal : (x y : X) (xs ys : List X) → Ascending (x ∷ xs) → Ascending (y ∷ ys) → x ∈ y ∷ ys → y ∈ x ∷ xs → x ≡ y
      heads_equal x y xs ys a b m n =
          elim (Memᴰ.cases_cons m) [
            | inl e ↦ e
            | inr k ↦ elim (Memᴰ.cases_cons n) [
              | inl e ↦ sym e
              | inr l ↦ absurd (irreflexive x (transitive x y x (a.0 y l) (b.0 x k)))
            ]
          ]

      tail_mem : (x y : X) (xs ys : List X) → Ascending (x ∷ xs) → x ≡ y → ((z : X) → z ∈ x ∷ xs → z ∈ y ∷ ys) → (z : X) → z ∈ xs → z ∈ ys
      tail_mem x y xs ys a e f z m =
          elim (Memᴰ.cases_cons (f z (Memᴰ.tail m))) [
            | inl d ↦ absurd (irreflexive z (subst (λ w. Less w z) (e ∙ sym d) (a.0 z m)))
            | inr n ↦ n
          ]

      pub ascending_unique : (xs ys : List X) → Ascending xs → Ascending ys → ((z : X) → (z ∈ xs) ↔ (z ∈ ys)) → xs ≡ ys
      ascending_unique [] [] a b f = refl
      ascending_unique [] (y ∷ ys) a b f = absurd (Memᴰ.not-nil ((f y).1 here))
      ascending_unique (x ∷ xs) [] a b f = absurd (Memᴰ.not-nil ((f x).0 here))
      ascending_unique (x ∷ xs) (y ∷ ys) a b f =
          let e = heads_equal x y xs ys a b ((f x).0 here) ((f y).1 here) in
          ap₂ ◌∷◌ e (ascending_unique xs ys a.1 b.1
          (λ z. (tail_mem x y xs ys a e (λ w. (f w).0) z, tail_mem y x ys xs b (sym e) (λ w. (f w).1) z)))

  -- A function that puts x before the first element that is not less, unless x is that element: what holds of the list with x put
  -- first, of the one with x put later, and of the one where x stands first already, holds of what it gives.
  abbrev pub Inserts : (X → List X → List X) → Type 1
  Inserts insert =
      ((x : X) → insert x [] ≡ x ∷ [])
      × ((x y : X) (ys : List X) (P : List X → Type 0) → (Less x y → P (x ∷ y ∷ ys)) → (Less y x → P (y ∷ insert x ys))
      → (x ≡ y → P (y ∷ ys)) → P (insert x (y ∷ ys)))

  -- the list gains the element and nothing else, and stays ascending
  module _ (insert : X → List X → List X) (inserts : Inserts insert) where
    pub insert_mem : (x : X) (ys : List X) {z : X} → z ∈ insert x ys → z ∈ x ∷ ys
    insert_mem x [] m = mem_along (inserts.0 x) m
    insert_mem x (y ∷ ys) {z} m =
        inserts.1 x y ys (λ l. z ∈ l → z ∈ x ∷ y ∷ ys)
        (λ b n. n)
        (λ b n. elim (Memᴰ.cases_cons n) [
          | inl e ↦ Memᴰ.tail (Memᴰ.head e)
          | inr k ↦ elim (Memᴰ.cases_cons (insert_mem x ys k)) [ inl e ↦ Memᴰ.head e | inr l ↦ Memᴰ.tail (Memᴰ.tail l) ]
        ])
        (λ e n. Memᴰ.tail n)
        m

    pub mem_insert : (x : X) (ys : List X) {z : X} → z ∈ x ∷ ys → z ∈ insert x ys
    mem_insert x [] m = mem_along (sym (inserts.0 x)) m
    mem_insert x (y ∷ ys) {z} m =
        inserts.1 x y ys (λ l. z ∈ l)
        (λ b. m)
        (λ b. elim (Memᴰ.cases_cons m) [
          | inl e ↦ Memᴰ.tail (mem_insert x ys (Memᴰ.head e))
          | inr n ↦ elim (Memᴰ.cases_cons n) [ inl e ↦ Memᴰ.head e | inr k ↦ Memᴰ.tail (mem_insert x ys (Memᴰ.tail k)) ]
        ])
        (λ d. elim (Memᴰ.cases_cons m) [ inl e ↦ Memᴰ.head (e ∙ d) | inr n ↦ n ])

    -- all elements of a list put in their places, one by one
    pub inserted_mem : (xs : List X) {z : X} → z ∈ foldr insert [] xs → z ∈ xs
    inserted_mem [] m = m
    inserted_mem (x ∷ xs) m =
        elim (Memᴰ.cases_cons (insert_mem x (foldr insert [] xs) m)) [
          | inl e ↦ Memᴰ.head e
          | inr n ↦ Memᴰ.tail (inserted_mem xs n)
        ]

    pub mem_inserted : {z : X} {xs : List X} → z ∈ xs → z ∈ foldr insert [] xs
    mem_inserted (Memᴰ.head {x = x} {xs = xs} e) = mem_insert x (foldr insert [] xs) (Memᴰ.head e)
    mem_inserted (Memᴰ.tail {x = x} {xs = xs} m) = mem_insert x (foldr insert [] xs) (Memᴰ.tail (mem_inserted m))

    module _ (transitive : (x y z : X) → Less x y → Less y z → Less x z) where
      pub insert_ascending : (x : X) (ys : List X) → Ascending ys → Ascending (insert x ys)
      insert_ascending x [] a = subst Ascending (sym (inserts.0 x)) (λ y m. absurd (Memᴰ.not-nil m), tt)
      insert_ascending x (y ∷ ys) a =
          inserts.1 x y ys Ascending
          (λ b. (forall_cons {P = Less x} b (λ z m. transitive x y z b (a.0 z m)), a))
          (λ b. (λ z m. forall_cons {P = Less y} b a.0 z (insert_mem x ys m), insert_ascending x ys a.1))
          (λ e. a)

      pub inserted_ascending : (xs : List X) → Ascending (foldr insert [] xs)
      inserted_ascending [] = tt
      inserted_ascending (x ∷ xs) = insert_ascending x (foldr insert [] xs) (inserted_ascending xs)
