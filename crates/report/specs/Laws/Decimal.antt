-- A number in decimal: the fewest digits that hold it, and how many they can be.
use Rattle.std.specs.Prelude.{
  ◌≡◌,
  ℕ,
  zero,
  suc,
  ◌+◌,
  ◌*◌,
  ◌-◌,
  ◌/◌,
  ◌%◌,
  ◌^◌,
  ◌≤◌,
  ◌<◌,
  Bool,
  true,
  false,
  cond,
  [],
  ◌∷◌,
  ◌++◌,
  ltb,
  length,
}
use Rattle.std.proofs.Common.{sym, ap, ap₂, ◌∙◌, subst, pow-suc, arith, length-append, lt-ltb, le-ltb}
use Rattle.std.proofs.Math.Nat.{one-le-pow}
use Rattle.promises.specs.Report.{decimal_in, decimal_of}
use Rattle.report.specs.Digits.{hex_digit_ascii, last_digits, IsDigitCount}

pub glyph_digit : (d : ℕ) → d < 10 → hex_digit_ascii d ≡ 48 + d
glyph_digit d h = ap (λ (b : Bool). cond b (48 + d) (87 + d)) (lt-ltb d 10 h)

-- one digit, or more than one
few : (most n : ℕ) → n < 10 → decimal_in (suc most) n ≡ (48 + n) ∷ []
unfolding decimal_in
few most n h = ap (λ (b : Bool). cond b ((48 + n) ∷ []) (decimal_in most (n / 10) ++ ((48 + n % 10) ∷ []))) (lt-ltb n 10 h)

more : (most n : ℕ) → 10 ≤ n → decimal_in (suc most) n ≡ decimal_in most (n / 10) ++ ((48 + n % 10) ∷ [])
unfolding decimal_in
more most n h = ap (λ (b : Bool). cond b ((48 + n) ∷ []) (decimal_in most (n / 10) ++ ((48 + n % 10) ∷ []))) (le-ltb n 10 h)

-- the last k + 1 digits of a number that takes exactly k + 1
exactly : (k most n : ℕ) → k < most → n < 10 ^ suc k → (0 < k → 10 ^ k ≤ n) → last_digits 10 (suc k) n ≡ decimal_in most n
exactly zero (suc most) n h below above =
    let b : n < 10 = below in
    let e : n % 10 ≡ n = omega arith in
    ap (λ d. d ∷ []) (ap hex_digit_ascii e ∙ glyph_digit n b) ∙ sym (few most n b)
exactly (suc k) (suc most) n h below above =
    let a : 10 ^ suc k ≤ n = above (omega arith) in
    let p : 10 ^ suc k ≡ 10 ^ k * 10 = pow-suc 10 k in
    let q : 10 ^ suc (suc k) ≡ 10 ^ suc k * 10 = pow-suc 10 (suc k) in
    let one : 1 ≤ 10 ^ k = one-le-pow k 10 (omega arith) in
    let b : n / 10 < 10 ^ suc k = omega arith in
    let c : 10 ^ k ≤ n / 10 = omega arith in
    let g : n % 10 < 10 = omega arith in
    let ten : 10 ≤ n = omega arith in
    ap₂ ◌++◌ (exactly k most (n / 10) (omega arith) b (λ _. c)) (ap (λ d. d ∷ []) (glyph_digit (n % 10) g)) ∙ sym (more most n ten)
exactly k zero n h below above = absurd (omega arith)

-- so many digits as a number below 10 ^ k has are at most k
at_most : (most n k : ℕ) → n < 10 ^ suc k → length (decimal_in most n) ≤ suc k
unfolding decimal_in
at_most zero n k h = omega arith
at_most (suc most) n zero h =
    let b : n < 10 = h in
    let e : length (decimal_in (suc most) n) ≡ 1 = ap length (few most n b) in
    omega arith
at_most (suc most) n (suc k) h =
    let q : 10 ^ suc (suc k) ≡ 10 ^ suc k * 10 = pow-suc 10 (suc k) in
    go (ltb n 10) (at_most most (n / 10) k (omega arith))
  where
    go : (b : Bool) → length (decimal_in most (n / 10)) ≤ suc k
        → length (cond b ((48 + n) ∷ []) (decimal_in most (n / 10) ++ ((48 + n % 10) ∷ []))) ≤ suc (suc k)
    go true r = omega arith
    go false r = simp length-append (omega arith)

-- fewer digits than the number itself
enough : (k n : ℕ) → 10 ^ k ≤ n → k < suc n
enough zero n h = omega arith
enough (suc k) n h =
    let p : 10 ^ suc k ≡ 10 ^ k * 10 = pow-suc 10 k in
    let one : 1 ≤ 10 ^ k = one-le-pow k 10 (omega arith) in
    let i : k < suc (n / 10) = enough k (n / 10) (omega arith) in
    omega arith

-- The digits that `decimal` writes, the fewest that hold the number, are the number in decimal.
pub fewest_decimal : (n r : ℕ) → IsDigitCount 10 1 n r → last_digits 10 r n ≡ decimal_of n
unfolding decimal_of
fewest_decimal n zero (least, below, above) = absurd (omega arith)
fewest_decimal n (suc zero) (least, below, above) = exactly zero (suc n) n (omega arith) below (λ h. absurd (omega arith))
fewest_decimal n (suc (suc k)) (least, below, above) =
    let e : suc (suc k) - 1 ≡ suc k = omega arith in
    let a : 10 ^ suc k ≤ n = subst (λ j. 10 ^ j ≤ n) e (above (omega arith)) in
    exactly (suc k) (suc n) n (enough (suc k) n a) below (λ _. a)

pub short_decimal : (n k : ℕ) → n < 10 ^ suc k → length (decimal_of n) ≤ suc k
unfolding decimal_of
short_decimal n k h = at_most (suc n) n k h
