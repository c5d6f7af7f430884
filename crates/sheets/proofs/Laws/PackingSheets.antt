-- Sheets: what was packed in range is read again and meets no refusal of the format, and a sheet that meets none is the packing of
-- what is read from it, which is in range.
use Rattle.std.specs.Prelude.{
  ◌≡◌,
  refl,
  ◌↔◌,
  ℕ,
  zero,
  suc,
  ◌+◌,
  ◌*◌,
  ◌/◌,
  ◌%◌,
  ◌^◌,
  ◌≤◌,
  ◌<◌,
  Bool,
  not,
  ◌||◌,
  List,
  map,
  T,
  eqb,
  ltb,
  length,
}
use Rattle.std.proofs.Common.{sym, ap, ◌∙◌, subst, zero-add, add-zero, mul-suc, pow-suc, mul-le-mul_left, arith, map-id, lit<}
use Rattle.std.proofs.Math.Nat.{pow-le-pow_right, div-add-mod, mul-div_cancel_left, mul-mod_right, div-le_of_le-mul}
use mathlib.Core.List.Memᴰ
use Rattle.std.proofs.lemmas.List.{length-map}
use Rattle.theory.specs.Lists.{all, numbers}
use Rattle.theory.specs.Syntax.{Fact}
use Rattle.theory.specs.Laws.Options.{T_no}
use Rattle.theory.specs.Laws.Lists.{all_iff, map_after, numbered_length}
use Rattle.words.specs.Limits.{sheet_width, word_width, most_facts, answer_bytes, record_bytes}
use Rattle.words.specs.Records.{fact_of}
use Rattle.sheets.specs.Bits.{number_at}
use Rattle.sheets.specs.Format.{facts_of}
use Rattle.sheets.specs.Tests.{refuses12, fact_sound, refuses13}
use Rattle.sheets.specs.Packing.{pack_records, fact_number, pack_facts, All, IsByte, FactInRange, FactsInRange, WholeBytes}
use Rattle.sheets.proofs.Laws.Tests.{Tells, itself, not_tells, or_tells, eqb_tells, ltb_tells}
use Rattle.sheets.proofs.Laws.PackingBytes.{Stands, stands_whole, stands_all, number_below, length_records, records_at, EvenPlaces}
use Rattle.sheets.proofs.Laws.PackingBytes.{records_read, records_stand}
use Rattle.sheets.proofs.Laws.PackingNumbers.{Code, fact_code, pow_add}

-- ---- on lists

module _ {X Y : Type 0} where
  all_map : (P : Y → Type 0) (f : X → Y) (xs : List X) → All (λ x. P (f x)) xs → All P (map f xs)
  all_map P f xs h y m = let r = Memᴰ.of_map f xs m in subst P r.2 (h r.0 r.1)

  map_back : (f : X → Y) (g : Y → X) (xs : List X) → All (λ x. g (f x) ≡ x) xs → map g (map f xs) ≡ xs
  map_back f g xs h = map_after g f (λ x. x) xs h ∙ map-id xs

-- ---- refusals that are not met

pub unmet : {b : Bool} {P N : Type 0} → Tells b P N → (¬ T b) ↔ N
unmet {b} h = (λ f. h.fail.0 ((T_no b).1 f), λ n. (T_no b).0 (h.fail.1 n))

-- the sheet's length is no multiple of the size of a record, or exceeds that of so many records
abbrev wrong_length : ℕ → ℕ → List ℕ → Bool
wrong_length size most s = not (eqb (length s % size) 0) || ltb (size * most) (length s)

right_length : (size most : ℕ) (s : List ℕ) → (¬ T (wrong_length size most s)) ↔ ((length s % size ≡ 0) × (length s ≤ size * most))
right_length size most s = unmet (or_tells (not_tells (eqb_tells (length s % size) 0)) (ltb_tells (size * most) (length s)))

-- ---- records of one size and one code

module _ {X : Type 0} {of : ℕ → X} {number : X → ℕ} {sound : ℕ → Bool} {InRange : X → Type 0} (size : ℕ)
    (code : Code (256 ^ size) of number sound InRange) where
  abbrev pub pack : List X → List ℕ
  pack vs = pack_records size (map number vs)

  pub length_pack : (vs : List X) → length (pack vs) ≡ size * length vs
  length_pack vs = length_records size (map number vs) ∙ ap (λ n. size * n) (length-map vs number)

  -- from some place of a sheet on
  module _ (s : List ℕ) (place : ℕ → ℕ) (at : ℕ) (row : EvenPlaces place size 0 at) where
    pub list_read : (n : ℕ) (vs : List X) → n ≡ length vs → All InRange vs → Stands (pack vs) at s
        → (map of (records_at s place size 0 n) ≡ vs) × T (all sound (records_at s place size 0 n))
    list_read n vs l h t =
        let below : All (λ x. x < 256 ^ size) (map number vs) = all_map (λ x. x < 256 ^ size) number vs (λ v m. code.below v (h v m)) in
        let passes : All (λ x. T (sound x)) (map number vs) = all_map (λ x. T (sound x)) number vs (λ v m. code.passes v (h v m)) in
        rw (l ∙ sym (length-map vs number), records_read s place size 0 at (map number vs) row below t)
        (map_back number of vs (λ v m. code.read v (h v m)), (all_iff sound (map number vs)).1 passes)

    pub list_again : (n : ℕ) → All IsByte s → at + size * n ≤ length s → T (all sound (records_at s place size 0 n))
        → Stands (pack (map of (records_at s place size 0 n))) at s × All InRange (map of (records_at s place size 0 n))
    list_again n bytes l t =
        let xs : List ℕ = records_at s place size 0 n in
        let below : All (λ x. x < 256 ^ size) xs =
        all_map (λ x. x < 256 ^ size) (λ i. number_at s (place i) size) (numbers 0 n) (λ i m. number_below s (place i) size bytes) in
        let passes : All (λ x. T (sound x)) xs = (all_iff sound xs).0 t in
        let again : map number (map of xs) ≡ xs = map_back of number xs (λ x m. code.again x (below x m) (passes x m)) in
        (rw again (records_stand s place size 0 at n row bytes l), all_map InRange of xs (λ x m. code.within x (below x m) (passes x m)))

  -- a sheet of nothing but such records: its records, and what they say
  abbrev records : List ℕ → List ℕ
  records s = records_at s (λ i. 0 + size * i) size 0 (length s / size)

  abbrev values : List ℕ → List X
  values s = map of (records s)

  whole_row : EvenPlaces (λ i. 0 + size * i) size 0 0
  whole_row i = ap (λ j. 0 + size * j) (zero-add i)

  values_count : (s : List ℕ) → length (values s) ≡ length s / size
  values_count s = length-map (records s) of ∙ numbered_length (λ i. number_at s (0 + size * i) size) (length s / size)

  pub whole_read : 0 < size → (vs : List X) → All InRange vs → (values (pack vs) ≡ vs) × T (all sound (records (pack vs)))
  whole_read pos vs h =
      let n : length (pack vs) / size ≡ length vs = ap (λ k. k / size) (length_pack vs) ∙ mul-div_cancel_left (length vs) pos in
      list_read (pack vs) (λ i. 0 + size * i) 0 whole_row (length (pack vs) / size) vs n h (stands_whole (pack vs))

  pub whole_passes : (most : ℕ) (vs : List X) → 0 < size → length vs ≤ most → All InRange vs
      → (¬ T (wrong_length size most (pack vs))) × (¬ T (not (all sound (records (pack vs)))))
  whole_passes most vs pos l h = (
    (right_length size most (pack vs)).1 (rw (length_pack vs) (mul-mod_right size (length vs), mul-le-mul_left size l)),
    (unmet (not_tells (itself (all sound (records (pack vs)))))).1 (whole_read pos vs h).1,
  )

  pub whole_again : (most : ℕ) (s : List ℕ) → All IsByte s → ¬ T (wrong_length size most s) → ¬ T (not (all sound (records s)))
      → (pack (values s) ≡ s) × (length (values s) ≤ most) × All InRange (values s)
  whole_again most s bytes f g =
      let e = (right_length size most s).0 f in
      let n : size * (length s / size) ≡ length s = sym (add-zero (size * (length s / size)))
      ∙ ap (λ r. size * (length s / size) + r) (sym e.0) ∙ div-add-mod (length s) size in
      let len : length (pack (values s)) ≡ length s = length_pack (values s) ∙ ap (λ k. size * k) (values_count s) ∙ n in
      let r = list_again s (λ i. 0 + size * i) 0 whole_row (length s / size) bytes (omega arith)
      ((unmet (not_tells (itself (all sound (records s))))).0 g) in
      (stands_all (pack (values s)) s r.0 (omega arith), rw (values_count s) (div-le_of_le-mul size e.1), r.1)

-- ---- widths

pub whole_sheet : WholeBytes sheet_width
whole_sheet = (1, refl)

pub whole_word : WholeBytes word_width
whole_word = (2, refl)

bytes_bits : (n : ℕ) → 256 ^ n ≡ 2 ^ (8 * n)
bytes_bits zero = refl
bytes_bits (suc n) =
    pow-suc 256 n ∙ ap (λ x. x * 256) (bytes_bits n) ∙ sym (pow_add (8 * n) 8) ∙ ap (λ k. 2 ^ k) (sym (mul-suc 8 n))

module _ (w : ℕ) (whole : WholeBytes w) where
  record_pos : 0 < record_bytes w
  record_pos = omega arith

  -- a variable fits an object's number
  pub wide : 32 ≤ 2 ^ w
  wide = pow-le-pow_right {n = 2} (lit< tt) {i = 5} {j = w} (omega arith)

  pub record_bound : 2 ^ (2 * w + 16) ≡ 256 ^ record_bytes w
  record_bound = let bits : 8 * record_bytes w ≡ 2 * w + 16 = omega arith in sym (bytes_bits (record_bytes w) ∙ ap (λ k. 2 ^ k) bits)

  pub answer_bound : 2 ^ (w + 1) ≤ 256 ^ answer_bytes w
  answer_bound = rw (bytes_bits (answer_bytes w)) (pow-le-pow_right {n = 2} (lit< tt) {i = w + 1} {j = 8 * answer_bytes w} (omega arith))

  -- ---- facts

  facts_code : Code (256 ^ record_bytes w) (fact_of w) (fact_number w) (fact_sound w) (FactInRange w)
  facts_code = subst (λ b. Code b (fact_of w) (fact_number w) (fact_sound w) (FactInRange w)) record_bound (fact_code w)

  pub packed_facts_read : (facts : List Fact) → All (FactInRange w) facts → facts_of w (pack_facts w facts) ≡ facts
  unfolding facts_of pack_facts
  packed_facts_read facts h = (whole_read (record_bytes w) facts_code record_pos facts h).0

  pub packed_facts_pass : (facts : List Fact) → FactsInRange w facts → (¬ T (refuses12 w (pack_facts w facts)))
      × (¬ T (refuses13 w (pack_facts w facts)))
  unfolding pack_facts refuses12 refuses13
  packed_facts_pass facts h = whole_passes (record_bytes w) facts_code most_facts facts record_pos h.0 h.1

  pub read_facts_packed : (s : List ℕ) → All IsByte s → ¬ T (refuses12 w s) → ¬ T (refuses13 w s) → pack_facts w (facts_of w s) ≡ s
  unfolding pack_facts facts_of refuses12 refuses13
  read_facts_packed s bytes f g = (whole_again (record_bytes w) facts_code most_facts s bytes f g).0

  pub read_facts_in : (s : List ℕ) → All IsByte s → ¬ T (refuses12 w s) → ¬ T (refuses13 w s) → FactsInRange w (facts_of w s)
  unfolding facts_of refuses12 refuses13
  read_facts_in s bytes f g = let r = whole_again (record_bytes w) facts_code most_facts s bytes f g in (r.1, r.2)
