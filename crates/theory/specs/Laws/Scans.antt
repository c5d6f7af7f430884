-- Loops whose index goes from place to place. What is left, the places from i to below n, decides: a loop's invariant says that
-- these give what all give. A place is a number; a record in the first n words of a table is looked at by its place.
use Rattle.std.specs.Prelude.{◌≡◌, ◌≢◌, ◌↔◌, Bool, true, false, ◌&&◌, ◌||◌, length, get_or, take, drop}
use Rattle.std.proofs.Math.Path.{refl, sym, ap}
use Rattle.std.proofs.Common.{
  ap₂,
  ◌∙◌,
  add-zero,
  zero-add,
  add-one,
  length-take,
  drop_of_length-le,
  drop-cons,
  take-suc,
  length-take-le,
  below_more,
}
use Prim.Native.Nat.{ℕ, zero, suc, ◌+◌, ◌-◌, ◌≤◌, ◌<◌}
use native.Mathlib.Omega.{arith}
use Rattle.std.proofs.Math.Bool.{and-false}
use Rattle.std.proofs.Math.Option.{none, some}
use mathlib.Core.List.Memᴰ
use mathlib.Core.List.{List, [], ◌∷◌, ◌++◌, map, map-map, map-append}
use Rattle.std.proofs.Math.ListN.{get_elem?}
use Rattle.std.proofs.lemmas.List.{length-map}
use Rattle.theory.specs.Lists.{◌∈◌, At, any, all, pairwise, numbers}
use Rattle.theory.specs.Laws.Lists.{any_map, mem_along, mem_numbers, numbers_found}
use Rattle.theory.specs.Laws.Counting.{total}

-- ---- the places that are left

-- some place from i to below n passes the test; all do; what they weigh together
abbrev pub some_from : (ℕ → Bool) → ℕ → ℕ → Bool
some_from p i n = any p (numbers i (n - i))

abbrev pub all_from : (ℕ → Bool) → ℕ → ℕ → Bool
all_from p i n = all p (numbers i (n - i))

abbrev pub total_from : (ℕ → ℕ) → ℕ → ℕ → ℕ
total_from w i n = total w (numbers i (n - i))

-- the places from i to below n: i and those after it, or none
pub rest_cons : (i n : ℕ) → i < n → numbers i (n - i) ≡ i ∷ numbers (i + 1) (n - (i + 1))
unfolding numbers
rest_cons i n h =
    let e : n - i ≡ suc (n - (i + 1)) = omega arith in
    rw (e, add-one i)

pub rest_nil : (i n : ℕ) → n ≤ i → numbers i (n - i) ≡ []
unfolding numbers
rest_nil i n h =
    let e : n - i ≡ 0 = omega arith in
    rw e

pub all_left : (n : ℕ) → numbers 0 (n - 0) ≡ numbers 0 n
all_left n =
    let e : n - 0 ≡ n = omega arith in
    rw e

-- ---- some place

module _ (p : ℕ → Bool) (i n : ℕ) where
  pub some_next : i < n → some_from p i n ≡ (p i || some_from p (i + 1) n)
  unfolding any
  some_next h = simp (rest_cons i n h)

  pub some_past : n ≤ i → some_from p i n ≡ false
  unfolding any
  some_past h = simp (rest_nil i n h)

  -- r says whether some place from i on passes
  module _ (r : Bool) (left : some_from p i n ≡ r) where
    pub some_later : (b : Bool) → i < n → b ≡ p i → b ≡ false → some_from p (i + 1) n ≡ r
    some_later b h e f = sym (sym left ∙ some_next h ∙ simp (sym e ∙ f))

    pub some_found : (b : Bool) → i < n → b ≡ p i → b ≡ true → true ≡ r
    some_found b h e f = sym (sym left ∙ some_next h ∙ simp (sym e ∙ f))

    pub some_none : n ≤ i → false ≡ r
    some_none h = sym (some_past h) ∙ left

pub some_begins : (p : ℕ → Bool) (n : ℕ) → some_from p 0 n ≡ any p (numbers 0 n)
some_begins p n = ap (any p) (all_left n)

-- ---- all places

module _ (p : ℕ → Bool) (i n : ℕ) where
  all_next : i < n → all_from p i n ≡ (p i && all_from p (i + 1) n)
  unfolding all
  all_next h = simp (rest_cons i n h)

  all_past : n ≤ i → all_from p i n ≡ true
  unfolding all
  all_past h = simp (rest_nil i n h)

  -- r says whether all places from i on pass
  module _ (r : Bool) (left : all_from p i n ≡ r) where
    pub all_later : (b : Bool) → i < n → b ≡ p i → b ≡ true → all_from p (i + 1) n ≡ r
    all_later b h e f = sym (sym left ∙ all_next h ∙ simp (sym e ∙ f))

    pub all_fails : (b : Bool) → i < n → b ≡ p i → b ≡ false → false ≡ r
    all_fails b h e f = sym (sym left ∙ all_next h ∙ simp (sym e ∙ f))

    pub all_passed : n ≤ i → true ≡ r
    all_passed h = sym (all_past h) ∙ left

-- ---- a total: m is what the places before i weigh, and r what all do

module _ (w : ℕ → ℕ) (i n m r : ℕ) (left : m + total_from w i n ≡ r) where
  pub total_later : (k : ℕ) → i < n → k ≡ w i → m + k + total_from w (i + 1) n ≡ r
  unfolding total
  total_later k h e =
      let next : total_from w i n ≡ w i + total_from w (i + 1) n = simp (rest_cons i n h) in
      omega arith

  pub total_done : n ≤ i → m ≡ r
  unfolding total
  total_done h =
      let done : total_from w i n ≡ 0 = simp (rest_nil i n h) in
      omega arith

-- ---- the first place: none from a to below i passes

pub record NoneIn (p : ℕ → Bool) (a i : ℕ) : Type 0 where
  pub each : (k : ℕ) → a ≤ k → k < i → p k ≡ false

pub none_yet : (p : ℕ → Bool) (a : ℕ) → NoneIn p a a
none_yet p a = record { each = λ k g h. absurd (omega arith) }

pub none_longer : (p : ℕ → Bool) (a i : ℕ) (b : Bool) → NoneIn p a i → b ≡ p i → b ≡ false → NoneIn p a (i + 1)
none_longer p a i b before e f = record {
  each = λ k g h. below_more (λ k. a ≤ k → p k ≡ false) i (λ k h g. before.each k g h) (λ g. sym e ∙ f) k h g;
}

-- a test that fails from a to below b may begin at b
pub skip : (p : ℕ → Bool) (n b k a : ℕ) → a + k ≡ b → b ≤ n → ((i : ℕ) → a ≤ i → i < b → p i ≡ false) → some_from p a n ≡ some_from p b n
skip p n b zero a e h fails = let d : a ≡ b = omega arith in ap (λ i. some_from p i n) d
skip p n b (suc k) a e h fails =
    some_next p a n (omega arith) ∙ ap (λ x. x || some_from p (a + 1) n) (fails a (omega arith) (omega arith))
    ∙ skip p n b k (a + 1) (omega arith) h (λ i g l. fails i (omega arith) l)

-- ---- lists by their places: that at place k is g k

drop_numbers : (a n i : ℕ) → drop i (numbers a n) ≡ numbers (a + i) (n - i)
unfolding numbers
drop_numbers a n zero =
    let e : n - 0 ≡ n = omega arith in
    rw (add-zero a, e)
drop_numbers a zero (suc i) =
    let e : 0 - suc i ≡ 0 = omega arith in
    rw e
drop_numbers a (suc n) (suc i) =
    let e : suc n - suc i ≡ n - i = omega arith in
    let d : suc a + i ≡ a + suc i = omega arith in
    drop_numbers (suc a) n i ∙ rw (e, d)

pub drop_map : {X Y : Type 0} (f : X → Y) (i : ℕ) (xs : List X) → drop i (map f xs) ≡ map f (drop i xs)
drop_map f zero xs = refl
drop_map f (suc i) [] = refl
drop_map f (suc i) (x ∷ xs) = drop_map f i xs

number_at : {X : Type 0} (g : ℕ → X) (a n i : ℕ) → i < n → At (map g (numbers a n)) i (g (a + i))
unfolding numbers
number_at g a zero i h = absurd (omega arith)
number_at g a (suc n) zero h = ap (λ k. some (g k)) (sym (add-zero a))
number_at g a (suc n) (suc i) h =
    let d : suc a + i ≡ a + suc i = omega arith in
    number_at g (suc a) n i (omega arith) ∙ ap (λ k. some (g k)) d

module _ {X Y : Type 0} (f : X → Y) where
  all_map : (p : Y → Bool) (xs : List X) → all p (map f xs) ≡ all (λ x. p (f x)) xs
  unfolding all
  all_map p [] = refl
  all_map p (x ∷ xs) = ap (λ b. p (f x) && b) (all_map p xs)

  total_map : (w : Y → ℕ) (xs : List X) → total w (map f xs) ≡ total (λ x. w (f x)) xs
  unfolding total
  total_map w [] = refl
  total_map w (x ∷ xs) = ap (λ n. w (f x) + n) (total_map w xs)

module _ {X : Type 0} (g : ℕ → X) (n : ℕ) where
  -- what is left from place i on: what stands there and the rest, or nothing
  pub places_from : (i : ℕ) → drop i (map g (numbers 0 n)) ≡ map g (numbers i (n - i))
  places_from i = drop_map g i (numbers 0 n) ∙ ap (map g) (drop_numbers 0 n i ∙ ap (λ k. numbers k (n - i)) (zero-add i))

  pub places_cons : (i : ℕ) → i < n → drop i (map g (numbers 0 n)) ≡ g i ∷ drop (i + 1) (map g (numbers 0 n))
  places_cons i h = places_from i ∙ ap (map g) (rest_cons i n h) ∙ ap (λ l. g i ∷ l) (sym (places_from (i + 1)))

  pub places_nil : (i : ℕ) → n ≤ i → drop i (map g (numbers 0 n)) ≡ []
  places_nil i h = places_from i ∙ ap (map g) (rest_nil i n h)

  pub place_at_lem : (i : ℕ) → i < n → At (map g (numbers 0 n)) i (g i)
  place_at_lem i h = number_at g 0 n i h ∙ ap (λ k. some (g k)) (zero-add i)

  -- a test of the list is one of its places
  pub some_place : (p : X → Bool) → some_from (λ k. p (g k)) 0 n ≡ any p (map g (numbers 0 n))
  some_place p = some_begins (λ k. p (g k)) n ∙ sym (any_map p g (numbers 0 n))

  pub all_places : (p : X → Bool) → all_from (λ k. p (g k)) 0 n ≡ all p (map g (numbers 0 n))
  all_places p = ap (all (λ k. p (g k))) (all_left n) ∙ sym (all_map g p (numbers 0 n))

  pub total_places : (w : X → ℕ) → total_from (λ k. w (g k)) 0 n ≡ total w (map g (numbers 0 n))
  total_places w = ap (total (λ k. w (g k))) (all_left n) ∙ sym (total_map g w (numbers 0 n))

-- ---- words of a table

words_listed : (l : List ℕ) (at k n : ℕ) → at + k + n ≤ length l → take n (drop (at + k) l) ≡ map (λ i. get_or l (at + i) 0) (numbers k n)
unfolding numbers
words_listed l at k zero h = refl
words_listed l at k (suc n) h =
    let next : suc (at + k) ≡ at + suc k = omega arith in
    ap (take (suc n)) (drop-cons l (at + k) 0 (omega arith))
    ∙ ap (λ m. get_or l (at + k) 0 ∷ take n (drop m l)) next
    ∙ ap (λ r. get_or l (at + k) 0 ∷ r) (words_listed l at (suc k) n (omega arith))

-- n words from `at` on
pub listed : (l : List ℕ) (at n : ℕ) → at + n ≤ length l → take n (drop at l) ≡ map (λ i. get_or l (at + i) 0) (numbers 0 n)
listed l at n h = ap (λ a. take n (drop a l)) (sym (add-zero at)) ∙ words_listed l at 0 n (omega arith)

-- a test of records by their place: that at place k is f of the word there
abbrev pub test_at : {X : Type 0} → (X → Bool) → (ℕ → X) → List ℕ → ℕ → Bool
test_at p f words k = p (f (get_or words k 0))

-- the records in the first n words
module _ {X : Type 0} (f : ℕ → X) (words : List ℕ) (n : ℕ) where
  module _ (h : n ≤ length words) where
    pub records_listed : map f (take n words) ≡ map (λ k. f (get_or words k 0)) (numbers 0 n)
    records_listed = simp zero-add at (ap (map f) (listed words 0 n (omega arith)) ∙ map-map f (λ i. get_or words (0 + i) 0) (numbers 0 n))

    pub records_length : length (map f (take n words)) ≡ n
    records_length = length-map (take n words) f ∙ length-take-le n words h

    pub record_at_lem : (i : ℕ) → i < n → At (map f (take n words)) i (f (get_or words i 0))
    record_at_lem i l = ap (λ xs. get_elem? xs i) records_listed ∙ place_at_lem (λ k. f (get_or words k 0)) n i l

    pub records_cons : (i : ℕ) → i < n → drop i (map f (take n words)) ≡ f (get_or words i 0) ∷ drop (i + 1) (map f (take n words))
    records_cons i l =
        ap (drop i) records_listed ∙ places_cons (λ k. f (get_or words k 0)) n i l
        ∙ ap (λ xs. f (get_or words i 0) ∷ drop (i + 1) xs) (sym records_listed)

    -- those from place i on
    pub record_mem : (i : ℕ) (x : X) → (x ∈ drop i (map f (take n words))) ↔ ((k : ℕ) × (i ≤ k) × (k < n) × (f (get_or words k 0) ≡ x))
    record_mem i x = (
      λ m. (let (k, j, e) = Memᴰ.of_map g (numbers i (n - i)) (mem_along left m) in
          let b = numbers_found i (n - i) k j in
          (k, b.0, omega (arith, b.0, b.1), e)),
      λ (k, h, l, e). mem_along (sym left) (Memᴰ.cast (sym e) (Memᴰ.map g (mem_numbers i (n - i) k h (omega arith)))),
    )
      where
        g : ℕ → X
        g k = f (get_or words k 0)

        left : drop i (map f (take n words)) ≡ map g (numbers i (n - i))
        left = ap (drop i) records_listed ∙ places_from g n i

    pub some_record : (p : X → Bool) → some_from (test_at p f words) 0 n ≡ any p (map f (take n words))
    some_record p = some_place (λ k. f (get_or words k 0)) n p ∙ ap (any p) (sym records_listed)

    pub all_records : (p : X → Bool) → all_from (test_at p f words) 0 n ≡ all p (map f (take n words))
    all_records p = all_places (λ k. f (get_or words k 0)) n p ∙ ap (all p) (sym records_listed)

    pub total_records : (w : X → ℕ) → total_from (λ k. w (f (get_or words k 0))) 0 n ≡ total w (map f (take n words))
    total_records w = total_places (λ k. f (get_or words k 0)) n w ∙ ap (total w) (sym records_listed)

  -- one record more than n
  pub first_more : n < length words → map f (take (n + 1) words) ≡ map f (take n words) ++ (f (get_or words n 0) ∷ [])
  first_more h =
      ap (λ k. map f (take k words)) (add-one n) ∙ ap (map f) (take-suc words n 0 h)
      ∙ map-append f (take n words) (get_or words n 0 ∷ [])

  pub records_nil : (i : ℕ) → n ≤ i → drop i (map f (take n words)) ≡ []
  records_nil i h = drop_of_length-le (map f (take n words)) {i = i} (simp (length-map, length-take) (omega arith))

  pub record_past : (i : ℕ) → n ≤ i → get_elem? (map f (take n words)) i ≡ none
  record_past i h = past (map f (take n words)) i (simp (length-map, length-take) (omega arith))
    where
      past : (xs : List X) (k : ℕ) → length xs ≤ k → get_elem? xs k ≡ none
      past [] k h = refl
      past (x ∷ xs) zero h = absurd (omega arith)
      past (x ∷ xs) (suc k) h = past xs k (omega arith)

-- two tables side by side
module _ {X Y : Type 0} (test : X → Y → Bool) where
  pairwise_lengths : (xs : List X) (ys : List Y) → length xs ≢ length ys → pairwise test xs ys ≡ false
  unfolding pairwise
  pairwise_lengths [] [] d = absurd (d refl)
  pairwise_lengths [] (y ∷ ys) d = refl
  pairwise_lengths (x ∷ xs) [] d = refl
  pairwise_lengths (x ∷ xs) (y ∷ ys) d = ap (λ b. test x y && b) (pairwise_lengths xs ys (λ e. d (ap suc e))) ∙ and-false (test x y)

  pub unequal_records : (f : ℕ → X) (g : ℕ → Y) (a b : List ℕ) (m n : ℕ) → m ≤ length a → n ≤ length b → (m ≡ n → ⊥)
      → false ≡ pairwise test (map f (take m a)) (map g (take n b))
  unequal_records f g a b m n h l d =
      sym (pairwise_lengths (map f (take m a)) (map g (take n b)) (λ e. d (sym (records_length f a m h) ∙ e ∙ records_length g b n l)))

  pub all_pairs : (f : ℕ → X) (g : ℕ → Y) (a b : List ℕ) (n : ℕ) → n ≤ length a → n ≤ length b
      → all_from (λ k. test (f (get_or a k 0)) (g (get_or b k 0))) 0 n ≡ pairwise test (map f (take n a)) (map g (take n b))
  unfolding all pairwise
  all_pairs f g a b n h l =
      ap (all (λ k. test (f (get_or a k 0)) (g (get_or b k 0)))) (all_left n) ∙ side_by_side (numbers 0 n)
      ∙ sym (ap₂ (pairwise test) (records_listed f a n h) (records_listed g b n l))
    where
      side_by_side : (ks : List ℕ) → all (λ k. test (f (get_or a k 0)) (g (get_or b k 0))) ks
          ≡ pairwise test (map (λ k. f (get_or a k 0)) ks) (map (λ k. g (get_or b k 0)) ks)
      side_by_side [] = refl
      side_by_side (k ∷ ks) = ap (λ r. test (f (get_or a k 0)) (g (get_or b k 0)) && r) (side_by_side ks)

-- ---- what a loop's proof searches

-- `some_begins` is not among them: as an equation it would rewrite the invariants
pub ruleset scans = (some_later, some_found, some_none, all_later, all_fails, all_passed, total_later, total_done)

-- with it, for loops whose outcome is said of all numbers below n
pub ruleset number_scans = (scans, some_begins)
