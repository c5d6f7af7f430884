-- Digits counted from the last, and written from the last.
use Rattle.std.proofs.Common.{
  ◌≡◌,
  ℕ,
  zero,
  suc,
  ◌+◌,
  ◌-◌,
  ◌*◌,
  ◌/◌,
  ◌%◌,
  ◌^◌,
  ◌≤◌,
  ◌<◌,
  List,
  [],
  ◌∷◌,
  ◌++◌,
  length,
  take,
  drop,
  set,
  refl,
  sym,
  ap,
  subst,
  ◌∙◌,
  arith,
  pow-suc,
}
use lib.Seq.{slice, length-take-le, take-set-lt, append_snoc}
use native.Mathlib.Nat.{
  le_of_suc-le-suc,
  not-suc-le-zero,
  one-le-pow,
  pow-le-pow_right,
  div-div-eq-div-mul,
  le-div_iff_mul-le,
  div-lt_iff_lt-mul,
  lt_of_not-le,
}
use native.Mathlib.Numerals.{add-one, sub-one}
use Rattle.promises.specs.Counts.{IsPrefixLen}
use Rattle.report.specs.Digits.{hex_digit_ascii, last_digits, IsDigitCount}
use Rattle.report.specs.Laws.Decimal.{glyph_digit}

-- ---- how many there are

pub after_one : (n : ℕ) → n / 10 ≡ n / 10 ^ 1
after_one n = refl

pub after_more : (n k : ℕ) → n / 10 ^ k / 10 ≡ n / 10 ^ (k + 1)
after_more n k = div-div-eq-div-mul n (10 ^ k) 10 ∙ ap (λ (d : ℕ). n / d) (sym (pow-suc 10 k) ∙ ap (λ (j : ℕ). 10 ^ j) (sym (add-one k)))

-- something is left of n after k digits, so one more is wanted
pub no_less : (n k : ℕ) → 0 < n / 10 ^ k → 10 ^ (k + 1 - 1) ≤ n
no_less n k some =
    let e : k ≡ k + 1 - 1 = omega arith in
    let p : 1 * 10 ^ k ≤ n = (le-div_iff_mul-le (one-le-pow k 10 (omega arith))).0 some in
    subst (λ (j : ℕ). 10 ^ j ≤ n) e (omega arith)

-- nothing is left of n after k digits, so k digits hold it
pub no_more : (n k : ℕ) → n / 10 ^ k < 1 → n < 10 ^ k
no_more n k none =
    let p : n < 1 * 10 ^ k = (div-lt_iff_lt-mul (one-le-pow k 10 (omega arith))).0 none in
    omega arith

not_above : (n k : ℕ) → IsDigitCount 10 1 n k → n < 10 ^ 20 → 20 < k → ⊥
not_above n k fewest holds over =
    let p : 10 ^ (k - 1) ≤ n = fewest.2 (omega arith) in
    let ten : 0 < 10 = omega arith in
    let more : 20 ≤ k - 1 = omega arith in
    let q : 10 ^ 20 ≤ 10 ^ (k - 1) = pow-le-pow_right ten more in
    omega arith

-- twenty digits hold each number of 64 bits
pub twenty_at_most : (n k : ℕ) → n < 2 ^ 64 → IsDigitCount 10 1 n k → k ≤ 20
twenty_at_most n k h fewest = le_of_suc-le-suc (lt_of_not-le (not_above n k fewest (omega arith)))

-- ---- what is written

-- after a store at j, the list from j on begins with what was stored
drop-set : (t : List ℕ) (j g : ℕ) → j < length t → drop j (set t j g) ≡ g ∷ drop (suc j) t
drop-set [] j g h = absurd (not-suc-le-zero h)
drop-set (x ∷ xs) zero g h = refl
drop-set (x ∷ xs) (suc j) g h = drop-set xs j g (le_of_suc-le-suc h)

-- a turn moves the last of the digits that are still to write to the front of those that are written
pub digits_step : (i k rest g : ℕ) (out : List ℕ) → 0 < i → i ≤ k → k ≤ length out → g ≡ 48 + rest % 10
    → last_digits 10 (i - 1) (rest / 10) ++ slice (i - 1) k (set out (i - 1) g) ≡ last_digits 10 i rest ++ slice i k out
digits_step zero k rest g out some h room e = absurd (not-suc-le-zero some)
digits_step (suc j) k rest g out some h room e =
    let todo = last_digits 10 j (rest / 10) in
    let done = slice (suc j) k out in
    let within : j < length (take k out) = subst (λ (n : ℕ). j < n) (sym (length-take-le k out room)) h in
    ap (λ (m : ℕ). last_digits 10 m (rest / 10) ++ slice m k (set out m g)) (sub-one (suc j))
    ∙ ap (λ (l : List ℕ). todo ++ drop j l) (take-set-lt k out j g h)
    ∙ ap (λ (l : List ℕ). todo ++ l) (drop-set (take k out) j g within)
    ∙ ap (λ (x : ℕ). todo ++ x ∷ done) (e ∙ sym (glyph_digit (rest % 10) (omega arith)))
    ∙ sym (append_snoc todo (hex_digit_ascii (rest % 10)) done)

pub counted : (n : ℕ) (xs : List ℕ) → n ≤ length xs → IsPrefixLen n xs
counted n xs h = (h, sym (length-take-le n xs h))
