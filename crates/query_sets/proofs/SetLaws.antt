-- What the operations on words do to the sets that the words hold.
use mathlib.Core.Path.{◌≡◌, refl, sym, ap, ◌∙◌, subst}
use Prim.Native.Nat.{ℕ, zero, suc, ◌+◌, ◌-◌, ◌*◌, ◌/◌, ◌%◌, ◌^◌, ◌≤◌, ◌<◌, max}
use native.Mathlib.Nat.{one-mul, mod-eq_of_lt}
use native.Mathlib.Omega.{arith}
use mathlib.Core.Bool.{Bool, true, false, not, ◌||◌, or_comm}
use lib.Dec.{T, eqb, eqb-zero-suc, eqb-suc-zero, eqb-suc-suc}
use lib.Pow.{pow-lt}
use lib.Bits.{bit_or, or_step, or_shr}
use lib.Count.{under, count_trailing_zeros, trailing_le}
use borrow.Author.Rules.{rules}
use borrow.Author.Tests.{not-true, not-false}
use Rattle.query_sets.specs.Sets.{holds}
use Rattle.query_sets.specs.Laws.Digits.{holds_zero, holds_suc, holds_none}

-- what holds of 0 and of 1 holds of every digit
digit_cases : (P : ℕ → Type 0) → P 0 → P 1 → (d : ℕ) → d < 2 → P d
digit_cases P p q zero h = p
digit_cases P p q (suc zero) h = q
digit_cases P p q (suc (suc d)) h = absurd (omega arith)

-- ---- union and intersection: an operation on words that goes digit by digit, and as a test on sets

module _ (op on : ℕ → ℕ → ℕ) (test : Bool → Bool → Bool)
    (shifted : (a b k : ℕ) → op a b / 2 ^ k ≡ op (a / 2 ^ k) (b / 2 ^ k))
    (step : (a b : ℕ) → op a b ≡ op (a / 2) (b / 2) * 2 + on (a % 2) (b % 2)) where
  abbrev OnDigits : ℕ → ℕ → Type 0
  OnDigits d e = (on d e < 2) × (eqb (on d e) 1 ≡ test (eqb d 1) (eqb e 1))

  holds_op : OnDigits 0 0 → OnDigits 0 1 → OnDigits 1 0 → OnDigits 1 1 → (a b u : ℕ) → holds (op a b) u ≡ test (holds a u) (holds b u)
  unfolding holds
  holds_op oo oi io ii a b u =
      let d = a / 2 ^ u % 2 in
      let e = b / 2 ^ u % 2 in
      let on-digits : OnDigits d e =
      digit_cases (λ d. OnDigits d e) (digit_cases (OnDigits 0) oo oi e (omega arith))
      (digit_cases (OnDigits 1) io ii e (omega arith)) d (omega arith) in
      let lowest : op (a / 2 ^ u) (b / 2 ^ u) % 2 ≡ on d e = omega (arith, step (a / 2 ^ u) (b / 2 ^ u)) in
      ap (λ n. eqb (n % 2) 1) (shifted a b u) ∙ ap (λ n. eqb n 1) lowest ∙ on-digits.1

pub holds_or : (a b u : ℕ) → holds (bit_or a b) u ≡ (holds a u || holds b u)
holds_or = holds_op bit_or max ◌||◌ or_shr or_step (omega arith, refl) (omega arith, refl) (omega arith, refl) (omega arith, refl)

-- ---- a word with one digit 1

pub holds_one : (v u : ℕ) → holds (2 ^ v) u ≡ eqb u v
unfolding holds
holds_one zero zero = refl
holds_one zero (suc u) = holds_suc 1 u ∙ holds_none u ∙ sym (eqb-suc-zero u)
holds_one (suc v) zero = holds_zero (2 ^ suc v) ∙ ap (λ n. eqb n 1) (let e : 2 ^ suc v % 2 ≡ zero = omega arith in e) ∙ sym (eqb-zero-suc v)
holds_one (suc v) (suc u) =
    holds_suc (2 ^ suc v) u ∙ ap (λ n. holds n u) (let e : 2 ^ suc v / 2 ≡ 2 ^ v = omega arith in e) ∙ holds_one v u ∙ sym (eqb-suc-suc u v)

-- ---- the complement in a word of k digits

flipped : (d e : ℕ) → e < 2 → d + e ≡ 1 → eqb d 1 ≡ not (eqb e 1)
flipped d e h =
    digit_cases (λ e. d + e ≡ 1 → eqb d 1 ≡ not (eqb e 1))
    (λ p. ap (λ d. eqb d 1) (let f : d ≡ 1 = omega arith in f)) (λ p. ap (λ d. eqb d 1) (let f : d ≡ 0 = omega arith in f)) e h

pub holds_complement : (k n u : ℕ) → n < 2 ^ k → u < k → holds (2 ^ k - 1 - n) u ≡ not (holds n u)
holds_complement zero n u h l = absurd (omega arith)
holds_complement (suc k) n zero h l =
    holds_zero (2 ^ suc k - 1 - n) ∙ flipped ((2 ^ suc k - 1 - n) % 2) (n % 2) (omega arith) (omega arith) ∙ ap not (sym (holds_zero n))
holds_complement (suc k) n (suc u) h l =
    holds_suc (2 ^ suc k - 1 - n) u
    ∙ ap (λ m. holds m u) (let e : (2 ^ suc k - 1 - n) / 2 ≡ 2 ^ k - 1 - n / 2 = omega arith in e)
    ∙ holds_complement k (n / 2) u (omega arith) (omega arith)
    ∙ ap not (sym (holds_suc n u))

-- ---- the zeros below a word's lowest digit 1 are not in the set, and the number of that digit is

trailing_passed : (k n u : ℕ) → u < count_trailing_zeros k n → holds n u ≡ false
unfolding count_trailing_zeros
trailing_passed zero n u l = absurd (omega arith)
trailing_passed (suc k) n u l = go (n % 2) refl (λ w m. trailing_passed k (n / 2) w m) u l
  where
    go : (d : ℕ) → n % 2 ≡ d → ((w : ℕ) → w < count_trailing_zeros k (n / 2) → holds (n / 2) w ≡ false) → (u : ℕ)
        → u < under d (count_trailing_zeros k (n / 2)) → holds n u ≡ false
    go zero e rest zero l = holds_zero n ∙ ap (λ d. eqb d 1) e
    go zero e rest (suc u) l = holds_suc n u ∙ rest u (omega arith)
    go (suc d) e rest u l = absurd (omega arith)

trailing_stops : (k n : ℕ) → count_trailing_zeros k n < k → holds n (count_trailing_zeros k n) ≡ true
unfolding count_trailing_zeros
trailing_stops zero n l = absurd (omega arith)
trailing_stops (suc k) n l = go (n % 2) refl (λ m. trailing_stops k (n / 2) m) l
  where
    go : (d : ℕ) → n % 2 ≡ d → (count_trailing_zeros k (n / 2) < k → holds (n / 2) (count_trailing_zeros k (n / 2)) ≡ true)
        → under d (count_trailing_zeros k (n / 2)) < suc k → holds n (under d (count_trailing_zeros k (n / 2))) ≡ true
    go zero e rest l = holds_suc n (count_trailing_zeros k (n / 2)) ∙ rest (omega arith)
    go (suc d) e rest l = holds_zero n ∙ ap (λ d. eqb d 1) (let f : n % 2 ≡ 1 = omega arith in f)

-- ---- what the code's words hold

shifted_one : (v : ℕ) → v < 32 → 1 * 2 ^ v % 4294967296 ≡ 2 ^ v
shifted_one v h = ap (λ n. n % 4294967296) (one-mul (2 ^ v)) ∙ mod-eq_of_lt (pow-lt {j = 32} h)

pub digit_holds : (set v : ℕ) → eqb (set / 2 ^ v % 2) 1 ≡ holds set v
unfolding holds
digit_holds set v = refl

pub with_holds : (set v : ℕ) → v < 32 → (u : ℕ) → holds (bit_or set (1 * 2 ^ v % 4294967296)) u ≡ (eqb u v || holds set u)
with_holds set v h u =
    ap (λ n. holds (bit_or set n) u) (shifted_one v h) ∙ holds_or set (2 ^ v) u ∙ or_comm (holds set u) (holds (2 ^ v) u)
    ∙ ap (λ b. b || holds set u) (holds_one v u)

pub below_lowest : (set : ℕ) → set < 4294967296 → (u : ℕ) → u < count_trailing_zeros 32 (4294967295 - set) → T (holds set u)
below_lowest set s u l =
    let h : count_trailing_zeros 32 (4294967295 - set) ≤ 32 = trailing_le 32 (4294967295 - set) in
    subst T (sym (not-false (holds set u) (sym (holds_complement 32 set u s (omega arith)) ∙ trailing_passed 32 (4294967295 - set) u l))) tt

pub lowest_not : (set : ℕ) → set < 4294967296 → count_trailing_zeros 32 (4294967295 - set) < 32
    → ¬ T (holds set (count_trailing_zeros 32 (4294967295 - set)))
lowest_not set s l t =
    let r = count_trailing_zeros 32 (4294967295 - set) in
    subst T (not-true (holds set r) (sym (holds_complement 32 set r s l) ∙ trailing_stops 32 (4294967295 - set) l)) t

pub ruleset laws = (rules, trailing_le, digit_holds, with_holds, below_lowest, lowest_not)
