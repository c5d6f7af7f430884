-- Fields of a number: how many bits one has, and two that stand side by side as one.
use Rattle.std.specs.Prelude.{◌≡◌, ◌↔◌, ℕ, ◌+◌, ◌*◌, ◌/◌, ◌%◌, ◌^◌, ◌<◌}
use Rattle.std.proofs.Common.{sym, ap, ap₂, ◌∙◌, mod-lt, pow_pos, shr-shr}
use Rattle.std.proofs.Math.Pow.{high, low}
use Rattle.std.proofs.lemmas.Nat.{mod-pow-add}
use Rattle.words.specs.Records.{field}

pub field_below : (below width x : ℕ) → field below width x < 2 ^ width
field_below below width x = mod-lt (x / 2 ^ below) (pow_pos width)

-- a field is its upper m bits and its lower n
pub field_split : (below m n x : ℕ) → field below (m + n) x ≡ field (below + n) m x * 2 ^ n + field below n x
field_split below m n x =
    mod-pow-add (x / 2 ^ below) m n ∙ ap (λ y. y % 2 ^ m * 2 ^ n + field below n x) (shr-shr x below n)

-- two such numbers, the lower parts of n bits, are equal exactly when both parts are
pub both_equal : (n a b a' b' : ℕ) → b < 2 ^ n → b' < 2 ^ n → (a * 2 ^ n + b ≡ a' * 2 ^ n + b') ↔ ((a ≡ a') × (b ≡ b'))
both_equal n a b a' b' l l' = (
  λ e. (sym (high a n l) ∙ ap (λ x. x / 2 ^ n) e ∙ high a' n l', sym (low a n l) ∙ ap (λ x. x % 2 ^ n) e ∙ low a' n l'),
  λ e. ap₂ (λ x y. x * 2 ^ n + y) e.0 e.1,
)
