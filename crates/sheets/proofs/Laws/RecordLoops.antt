-- Loops over records that stand in a row, once for every size of a record: a test on each, and a table filled with a word for each. A
-- loop's invariant says what is left to do of the row: the records from the i-th on.
use Rattle.std.specs.Prelude.{◌≡◌, Bool, true, false, not, ◌&&◌, ◌||◌, eqb, ltb, leb, length, take, set}
use Rattle.std.proofs.Math.Path.{sym, ap, subst}
use Rattle.std.proofs.Common.{◌∙◌, zero-add, add_comm, mul_comm, eq-or-lt_of_le, take-suc-set}
use Rattle.std.proofs.Math.Logic.{inl, inr}
use Prim.Native.Nat.{ℕ, zero, suc, ◌+◌, ◌-◌, ◌*◌, ◌%◌, ◌≤◌, ◌<◌}
use Rattle.std.proofs.Math.Numerals.{add-one}
use native.Mathlib.Omega.{arith}
use mathlib.Core.List.{List, [], ◌∷◌, ◌++◌, map, append-nil, append_assoc, map-append}
use Rattle.std.proofs.Math.Dec.{T}
use borrow.Author.Tests.{eq-eqb, ne_eqb, lt-ltb, le-ltb, leb-true, not-true, not-false}
use Rattle.theory.specs.Lists.{all, numbers}
use Rattle.theory.specs.Refusals.{first_refusal, number_of}
use Rattle.theory.specs.Laws.Options.{T_and, is_true}
use Rattle.theory.specs.Laws.Lists.{numbered_length}
use Rattle.sheets.specs.Bits.{number_at}
use Rattle.sheets.specs.Format.{records_from}
use Rattle.sheets.specs.Laws.RecordLoops.{Nth, left}

-- ---- one record

module _ (size : ℕ) (s : List ℕ) where
  pub nth : (from i x : ℕ) → x ≡ number_at s (from + size * i) size → Nth size s from i x
  nth from i x e = record { is = e }

  pub nth_after : (from i x : ℕ) → x ≡ number_at s (size * i + from) size → Nth size s from i x
  nth_after from i x e = record { is = e ∙ ap (λ k. number_at s k size) (add_comm (size * i) from) }

  pub nth_times : (from i x : ℕ) → x ≡ number_at s (from + i * size) size → Nth size s from i x
  nth_times from i x e = record { is = e ∙ ap (λ k. number_at s (from + k) size) (mul_comm i size) }

  -- on a whole sheet
  pub nth_whole : (i x : ℕ) → x ≡ number_at s (size * i) size → Nth size s 0 i x
  nth_whole i x e = record { is = e ∙ ap (λ k. number_at s k size) (sym (zero-add (size * i))) }

  pub nth_whole_times : (i x : ℕ) → x ≡ number_at s (i * size) size → Nth size s 0 i x
  nth_whole_times i x e = nth_whole i x (e ∙ ap (λ k. number_at s k size) (mul_comm i size))

-- ---- what is left of a row of n

module _ (size : ℕ) (s : List ℕ) (from n : ℕ) where
  pub left_all : left size s from n 0 ≡ records_from size s from n
  unfolding left records_from
  left_all = let e : n - 0 ≡ n = omega arith in rw e

  pub left_next : (i : ℕ) → i < n → left size s from n i ≡ number_at s (from + size * i) size ∷ left size s from n (i + 1)
  unfolding left
  left_next i h = let e : n - i ≡ suc (n - (i + 1)) = omega arith in rw (e, add-one i)

  pub left_none : (i : ℕ) → n ≤ i → left size s from n i ≡ []
  unfolding left
  left_none i h = let e : n - i ≡ 0 = omega arith in rw e

  pub row_length : length (records_from size s from n) ≡ n
  unfolding records_from
  row_length = numbered_length (λ i. number_at s (from + size * i) size) n

-- ---- a test on every record

module _ (p : ℕ → Bool) (size : ℕ) (s : List ℕ) (from n : ℕ) where
  pub test_begins : all p (left size s from n 0) ≡ all p (records_from size s from n)
  test_begins = ap (all p) (left_all size s from n)

  -- b is what is asked for: whether all pass
  module _ (i : ℕ) (b : Bool) (rest : all p (left size s from n i) ≡ b) where
    pub test_ends : n ≤ i → true ≡ b
    unfolding all
    test_ends h = sym (ap (all p) (left_none size s from n i h)) ∙ rest

    module _ (h : i < n) (x : ℕ) (t : Bool) (e : t ≡ p x) (here : Nth size s from i x) where
      next : (t && all p (left size s from n (i + 1))) ≡ b
      unfolding all
      next = let d : t ≡ p (number_at s (from + size * i) size) = e ∙ ap p here.is in
          rw d (sym (ap (all p) (left_next size s from n i h)) ∙ rest)

      pub test_passed : t ≡ true → all p (left size s from n (i + 1)) ≡ b
      test_passed d = rw d at next

      pub test_failed : t ≡ false → false ≡ b
      test_failed d = rw d at next

-- where all pass, each does
module _ (p : ℕ → Bool) (size : ℕ) (s : List ℕ) (from : ℕ) where
  abbrev nth_of : ℕ → ℕ
  nth_of j = number_at s (from + size * j) size

  passes_within : (k n i : ℕ) → k ≤ i → i < k + n → all p (map nth_of (numbers k n)) ≡ true → p (nth_of i) ≡ true
  unfolding all numbers
  passes_within k zero i l h e = absurd (omega arith)
  passes_within k (suc n) i l h e =
      let both = (T_and (p (nth_of k)) (all p (map nth_of (numbers (suc k) n)))).0 (subst T (sym e) tt) in
      elim (eq-or-lt_of_le l) [
        | inl d ↦ subst (λ j. p (nth_of j) ≡ true) d (is_true (p (nth_of k)) both.0)
        | inr m ↦ passes_within (suc k) n i m (omega arith) (is_true (all p (map nth_of (numbers (suc k) n))) both.1)
      ]

  pub each_passes : (n i x : ℕ) → all p (records_from size s from n) ≡ true → i < n → Nth size s from i x → p x ≡ true
  unfolding records_from
  each_passes n i x e h here = ap p here.is ∙ passes_within 0 n i (omega arith) (omega arith) e

-- ---- a table filled with a word for each record: `held` is what a word holds, `read` what is read of a record

module _ {X : Type 0} (held read : ℕ → X) (size : ℕ) (s : List ℕ) (from n : ℕ) where
  pub fill_begins : (table : List ℕ) → map held (take 0 table) ++ map read (left size s from n 0) ≡ map read (records_from size s from n)
  fill_begins table = ap (map read) (left_all size s from n)

  module _ (table : List ℕ) (i : ℕ) (values : List X) (so_far : map held (take i table) ++ map read (left size s from n i) ≡ values) where
    pub fill_goes_on : (x v : ℕ) → i < n → n ≤ length table → held v ≡ read x → Nth size s from i x
        → map held (take (i + 1) (set table i v)) ++ map read (left size s from n (i + 1)) ≡ values
    fill_goes_on x v h room word here =
        let put : take (i + 1) (set table i v) ≡ take i table ++ (v ∷ []) = rw add-one (take-suc-set table i v (omega arith)) in
        let next : map read (left size s from n i) ≡ held v ∷ map read (left size s from n (i + 1))
        = ap (map read) (left_next size s from n i h)
        ∙ ap (λ y. y ∷ map read (left size s from n (i + 1))) (ap read (sym here.is) ∙ sym word) in
        ap (λ l. map held l ++ map read (left size s from n (i + 1))) put
        ∙ ap (λ l. l ++ map read (left size s from n (i + 1))) (map-append held (take i table) (v ∷ []))
        ∙ append_assoc (map held (take i table)) (held v ∷ []) (map read (left size s from n (i + 1)))
        ∙ ap (λ l. map held (take i table) ++ l) (sym next)
        ∙ so_far

    pub fill_ends : i ≤ n → n ≤ i → map held (take n table) ≡ values
    fill_ends most past =
        let e : n ≡ i = omega arith in
        ap (λ k. map held (take k table)) e
        ∙ sym (append-nil (map held (take i table)))
        ∙ ap (λ l. map held (take i table) ++ map read l) (sym (left_none size s from n i past))
        ∙ so_far

-- ---- the two refusals of a sheet of records: by its length, and by a record that fails a test

module _ (first second size most : ℕ) (s : List ℕ) (sound : Bool) where
  abbrev pub record_refusals : List (ℕ × Bool)
  record_refusals = (first, not (eqb (length s % size) 0) || ltb most (length s)) ∷ (second, not sound) ∷ []

  pub no_multiple : (length s % size ≡ 0 → ⊥) → first ≡ number_of (first_refusal record_refusals)
  unfolding number_of first_refusal
  no_multiple odd = rw (ne_eqb (length s % size) 0 odd)

  -- the limit that the code names is `limit`
  module _ (even : length s % size ≡ 0) (limit : ℕ) where
    pub too_long : limit < length s → leb most limit ≡ true → first ≡ number_of (first_refusal record_refusals)
    unfolding number_of first_refusal
    too_long long l = rw (eq-eqb (length s % size) 0 even, lt-ltb most (length s) (omega (arith, leb-true most limit l)))

    module _ (short : length s ≤ limit) (l : leb limit most ≡ true) where
      pub unsound_record : sound ≡ false → second ≡ number_of (first_refusal record_refusals)
      unfolding number_of first_refusal
      unsound_record f = rw (eq-eqb (length s % size) 0 even, le-ltb most (length s) (omega (arith, leb-true limit most l)), f)

      pub no_refusal : sound ≡ true → 0 ≡ number_of (first_refusal record_refusals)
      unfolding number_of first_refusal
      no_refusal t = rw (eq-eqb (length s % size) 0 even, le-ltb most (length s) (omega (arith, leb-true limit most l)), t)

pub ruleset row_laws = (
  not-true,
  not-false,
  nth,
  nth_after,
  nth_times,
  nth_whole,
  nth_whole_times,
  test_begins,
  test_ends,
  test_passed,
  test_failed,
  fill_begins,
  fill_goes_on,
  fill_ends,
)
