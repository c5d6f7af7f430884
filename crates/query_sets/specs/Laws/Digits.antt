-- Sets of numbers in a word, digit by digit.
use Rattle.std.specs.Prelude.{◌≡◌, ℕ, zero, suc, ◌/◌, ◌%◌, ◌^◌, ◌<◌, false, T, eqb}
use Rattle.std.proofs.Common.{sym, ap, ◌∙◌, subst, div-one, lt_of_lt_of_le, one-add, arith, shr-shr, pow_mono}
use Rattle.std.proofs.Math.Nat.{zero-div, div-eq_of_lt}
use Rattle.std.proofs.Math.Decide.{dec_lt}
use Rattle.query_sets.specs.Sets.{holds}

-- digit by digit: 0 is in the set where the word is odd, and v + 1 where v is in the set of the word's half
pub holds_zero : (set : ℕ) → holds set zero ≡ eqb (set % 2) 1
unfolding holds
holds_zero set = ap (λ n. eqb (n % 2) 1) (div-one set)

pub holds_suc : (set v : ℕ) → holds set (suc v) ≡ holds (set / 2) v
unfolding holds
holds_suc set v = ap (λ n. eqb (n % 2) 1) (ap (λ k. set / 2 ^ k) (sym (one-add v)) ∙ sym (shr-shr set 1 v))

-- the set of 0 is empty
pub holds_none : (v : ℕ) → holds zero v ≡ false
unfolding holds
holds_none v = ap (λ n. eqb (n % 2) 1) (zero-div (2 ^ v))

-- a word of k digits holds numbers below k
pub holds_below : (k : ℕ) {set v : ℕ} → set < 2 ^ k → T (holds set v) → v < k
unfolding holds
holds_below k {set} {v} h t =
    elim (dec_lt v k) [
      | yes l ↦ l
      | no f ↦ absurd (subst (λ n. T (eqb (n % 2) 1)) (div-eq_of_lt (lt_of_lt_of_le h (pow_mono (omega arith)))) t)
    ]
