-- Numbers and records in bytes: what was packed and stands in a sheet is read again, and the bytes of a sheet are the packing of
-- what is read from them.
use Rattle.std.specs.Prelude.{◌≡◌, length, get_or, drop}
use Rattle.std.proofs.Math.Path.{refl, ap₂, subst}
use Rattle.std.proofs.Common.{
  sym,
  ap,
  ◌∙◌,
  zero-add,
  suc-add,
  add-suc,
  add-zero,
  add_assoc,
  mul-zero,
  pow-suc,
  not-suc-le-zero,
  le_of_suc-le-suc,
  div-lt_iff_lt-mul,
  add-one,
  drop-drop,
  arith,
  length-append,
  drop_of_length-le,
}
use Prim.Native.Nat.{ℕ, zero, suc, ◌+◌, ◌*◌, ◌/◌, ◌%◌, ◌^◌, ◌≤◌, ◌<◌}
use Rattle.std.proofs.Math.Nat.{mul-suc}
use mathlib.Core.List.Memᴰ
use mathlib.Core.List.{List, [], ◌∷◌, ◌++◌, map, append-nil, append_assoc}
use Rattle.theory.specs.Lists.{numbers}
use Rattle.theory.specs.Laws.Lists.{here}
use Rattle.sheets.specs.Bits.{number_at}
use Rattle.sheets.specs.Packing.{bytes_of, pack_records, All, IsByte}

-- ---- on lists

module _ {X : Type 0} where
  pub drop_append : (xs ys : List X) → drop (length xs) (xs ++ ys) ≡ ys
  drop_append [] ys = refl
  drop_append (x ∷ xs) ys = drop_append xs ys

  -- an element, and what stands from it on
  pub get_d_drop : (xs : List X) (i : ℕ) (d : X) → get_or (drop i xs) 0 d ≡ get_or xs i d
  get_d_drop xs zero d = refl
  get_d_drop [] (suc i) d = refl
  get_d_drop (x ∷ xs) (suc i) d = get_d_drop xs i d

  pub drop_at : (xs : List X) (i : ℕ) (d : X) → i < length xs → drop i xs ≡ get_or xs i d ∷ drop (suc i) xs
  drop_at [] i d h = absurd (not-suc-le-zero h)
  drop_at (x ∷ xs) zero d h = refl
  drop_at (x ∷ xs) (suc i) d h = drop_at xs i d (le_of_suc-le-suc h)

  pub all_at : {P : X → Type 0} (xs : List X) (i : ℕ) (d : X) → P d → All P xs → P (get_or xs i d)
  all_at [] i d p h = p
  all_at (x ∷ xs) zero d p h = h x here
  all_at (x ∷ xs) (suc i) d p h = all_at xs i d p (λ y m. h y (Memᴰ.tail m))

-- ---- bytes that stand in a sheet

-- the bytes xs stand in s from index `at` on
abbrev pub Stands : List ℕ → ℕ → List ℕ → Type 0
Stands xs at s = drop at s ≡ xs ++ drop (at + length xs) s

pub stands_nil : (at : ℕ) (s : List ℕ) → Stands [] at s
stands_nil at s = ap (λ k. drop k s) (sym (add-zero at))

pub stands_whole : (s : List ℕ) → Stands s 0 s
stands_whole s = sym (ap (λ xs. s ++ xs) (drop_of_length-le s {i = 0 + length s} (omega arith)) ∙ append-nil s)

-- what stands at the start of a sheet and is as long is the sheet
pub stands_all : (xs s : List ℕ) → Stands xs 0 s → length s ≤ length xs → xs ≡ s
stands_all xs s h l = sym (h ∙ ap (λ ys. xs ++ ys) (drop_of_length-le s {i = 0 + length xs} (omega arith)) ∙ append-nil xs)

-- one part after another
module _ (xs ys : List ℕ) (at : ℕ) (s : List ℕ) where
  end : at + length (xs ++ ys) ≡ at + length xs + length ys
  end = ap (λ k. at + k) (length-append xs ys) ∙ sym (add_assoc at (length xs) (length ys))

  rest : Stands (xs ++ ys) at s → drop (at + length xs) s ≡ ys ++ drop (at + length (xs ++ ys)) s
  rest h = sym (drop-drop (length xs) at s) ∙ ap (drop (length xs)) (h ∙ append_assoc xs ys _) ∙ drop_append xs _

  pub stands_first : Stands (xs ++ ys) at s → Stands xs at s
  stands_first h = h ∙ append_assoc xs ys _ ∙ ap (λ zs. xs ++ zs) (sym (rest h))

  pub stands_second : Stands (xs ++ ys) at s → Stands ys (at + length xs) s
  stands_second h = rest h ∙ ap (λ k. ys ++ drop k s) end

  pub stands_append : Stands xs at s → Stands ys (at + length xs) s → Stands (xs ++ ys) at s
  stands_append h k = h ∙ ap (λ zs. xs ++ zs) (k ∙ ap (λ i. ys ++ drop i s) (sym end)) ∙ sym (append_assoc xs ys _)

pub stands_byte : (b at : ℕ) (s : List ℕ) → Stands (b ∷ []) at s → get_or s at 0 ≡ b
stands_byte b at s h = sym (get_d_drop s at 0) ∙ ap (λ xs. get_or xs 0 0) h

pub byte_stands : (at : ℕ) (s : List ℕ) → at < length s → Stands (get_or s at 0 ∷ []) at s
byte_stands at s h = drop_at s at 0 h ∙ ap (λ k. get_or s at 0 ∷ drop k s) (sym (add-one at))

-- ---- numbers

pub length_bytes_of : (size n : ℕ) → length (bytes_of size n) ≡ size
unfolding bytes_of
length_bytes_of zero n = refl
length_bytes_of (suc size) n =
    length-append (bytes_of size (n / 256)) (n % 256 ∷ []) ∙ ap (λ k. k + 1) (length_bytes_of size (n / 256)) ∙ omega arith

pub number_read : (size n at : ℕ) (s : List ℕ) → n < 256 ^ size → Stands (bytes_of size n) at s → number_at s at size ≡ n
unfolding bytes_of number_at
number_read zero n at s l h = omega arith
number_read (suc size) n at s l h =
    let m : n / 256 < 256 ^ size = (div-lt_iff_lt-mul {k = 256} (omega arith)).1 (rw (← pow-suc 256 size) l) in
    let front : number_at s at size ≡ n / 256 =
    number_read size (n / 256) at s m (stands_first (bytes_of size (n / 256)) (n % 256 ∷ []) at s h) in
    let last : Stands (n % 256 ∷ []) (at + length (bytes_of size (n / 256))) s =
    stands_second (bytes_of size (n / 256)) (n % 256 ∷ []) at s h in
    let byte : get_or s (at + size) 0 ≡ n % 256 = stands_byte (n % 256) (at + size) s (rw (length_bytes_of size (n / 256)) at last) in
    omega arith

pub number_below : (s : List ℕ) (at size : ℕ) → All IsByte s → number_at s at size < 256 ^ size
unfolding number_at
number_below s at zero h = omega arith
number_below s at (suc size) h =
    let b : get_or s (at + size) 0 < 256 = all_at {P = IsByte} s (at + size) 0 (omega arith) h in
    let n : number_at s at size < 256 ^ size = number_below s at size h in
    let p : 256 ^ suc size ≡ 256 ^ size * 256 = pow-suc 256 size in
    omega arith

pub number_stands : (s : List ℕ) (at size : ℕ) → All IsByte s → at + size ≤ length s → Stands (bytes_of size (number_at s at size)) at s
unfolding bytes_of number_at
number_stands s at zero h l = stands_nil at s
number_stands s at (suc size) h l =
    let b : get_or s (at + size) 0 < 256 = all_at {P = IsByte} s (at + size) 0 (omega arith) h in
    let front : (number_at s at size * 256 + get_or s (at + size) 0) / 256 ≡ number_at s at size = omega arith in
    let last : (number_at s at size * 256 + get_or s (at + size) 0) % 256 ≡ get_or s (at + size) 0 = omega arith in
    subst (λ xs. Stands xs at s) (sym (ap₂ (λ n c. bytes_of size n ++ (c ∷ [])) front last))
    (stands_append (bytes_of size (number_at s at size)) (get_or s (at + size) 0 ∷ []) at s
    (number_stands s at size h (omega arith))
    (subst (λ k. Stands (get_or s (at + size) 0 ∷ []) (at + k) s) (sym (length_bytes_of size (number_at s at size)))
    (byte_stands (at + size) s (omega arith))))

-- a number, and what follows it
pub number_first : (size n at : ℕ) (xs s : List ℕ) → n < 256 ^ size → Stands (bytes_of size n ++ xs) at s → number_at s at size ≡ n
number_first size n at xs s l t = number_read size n at s l (stands_first (bytes_of size n) xs at s t)

pub number_then : (size n at : ℕ) (xs s : List ℕ) → Stands (bytes_of size n ++ xs) at s → Stands xs (at + size) s
number_then size n at xs s t = subst (λ k. Stands xs (at + k) s) (length_bytes_of size n) (stands_second (bytes_of size n) xs at s t)

pub number_append : (size n at : ℕ) (xs s : List ℕ) → Stands (bytes_of size n) at s → Stands xs (at + size) s
    → Stands (bytes_of size n ++ xs) at s
number_append size n at xs s h t =
    stands_append (bytes_of size n) xs at s h (subst (λ k. Stands xs (at + k) s) (sym (length_bytes_of size n)) t)

pub length_number : (size n : ℕ) (xs : List ℕ) → length (bytes_of size n ++ xs) ≡ size + length xs
length_number size n xs = length-append (bytes_of size n) xs ∙ ap (λ k. k + length xs) (length_bytes_of size n)

-- ---- records of one size

pub length_records : (size : ℕ) (xs : List ℕ) → length (pack_records size xs) ≡ size * length xs
unfolding pack_records
length_records size [] = sym (mul-zero size)
length_records size (x ∷ xs) =
    let e : size * suc (length xs) ≡ size * length xs + size = mul-suc size (length xs) in
    let f : length (pack_records size xs) ≡ size * length xs = length_records size xs in
    length_number size x (pack_records size xs) ∙ omega arith

-- the records read at so many places, from the k-th on
abbrev pub records_at : List ℕ → (ℕ → ℕ) → ℕ → ℕ → ℕ → List ℕ
records_at s place size k n = map (λ i. number_at s (place i) size) (numbers k n)

-- the places follow one another from `at` on
abbrev pub EvenPlaces : (ℕ → ℕ) → ℕ → ℕ → ℕ → Type 0
EvenPlaces place size k at = (i : ℕ) → place (k + i) ≡ at + size * i

row_first : (place : ℕ → ℕ) (size k at : ℕ) → EvenPlaces place size k at → place k ≡ at
row_first place size k at row = ap place (sym (add-zero k)) ∙ row 0 ∙ ap (λ j. at + j) (mul-zero size) ∙ add-zero at

row_next : (place : ℕ → ℕ) (size k at : ℕ) → EvenPlaces place size k at → EvenPlaces place size (suc k) (at + size)
row_next place size k at row i =
    let e : size * suc i ≡ size * i + size = mul-suc size i in
    ap place (suc-add k i ∙ sym (add-suc k i)) ∙ row (suc i) ∙ omega arith

module _ (s : List ℕ) (place : ℕ → ℕ) (size : ℕ) where
  pub records_read : (k at : ℕ) (xs : List ℕ) → EvenPlaces place size k at → All (λ x. x < 256 ^ size) xs
      → Stands (pack_records size xs) at s → records_at s place size k (length xs) ≡ xs
  unfolding pack_records numbers
  records_read k at [] row h t = refl
  records_read k at (x ∷ xs) row h t =
      ap₂ ◌∷◌ (ap (λ j. number_at s j size) (row_first place size k at row) ∙ number_first size x at (pack_records size xs) s (h x here) t)
      (records_read (suc k) (at + size) xs (row_next place size k at row) (λ y m. h y (Memᴰ.tail m))
      (number_then size x at (pack_records size xs) s t))

  pub records_stand : (k at n : ℕ) → EvenPlaces place size k at → All IsByte s → at + size * n ≤ length s
      → Stands (pack_records size (records_at s place size k n)) at s
  unfolding pack_records numbers
  records_stand k at zero row h l = stands_nil at s
  records_stand k at (suc n) row h l =
      let e : size * suc n ≡ size * n + size = mul-suc size n in
      let later : List ℕ = pack_records size (records_at s place size (suc k) n) in
      subst (λ j. Stands (bytes_of size (number_at s j size) ++ later) at s) (sym (row_first place size k at row))
      (number_append size (number_at s at size) at later s (number_stands s at size h (omega arith))
      (records_stand (suc k) (at + size) n (row_next place size k at row) h (omega arith)))
