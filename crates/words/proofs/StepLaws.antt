-- A step all of whose fields are zero, and the word of a step.
use mathlib.Core.Path.{◌≡◌, sym, ◌∙◌}
use Prim.Native.Nat.{ℕ, ◌+◌, ◌*◌, ◌<◌}
use native.Mathlib.Omega.{arith}
use mathlib.Core.Bool.{Bool, true, false, and-false}
use lib.Dec.{eqb}
use borrow.Author.Rules.{rules}
use borrow.Author.Tests.{eq-eqb, ne_eqb, eqb-true}
use Rattle.theory.specs.Union.{zero_step}
use Rattle.words.specs.Records.{step_kind, step_parent, step_atom, step_other, step_of}

-- a field tested before is not zero
pub not_zero : (v : Bool) (k : ℕ) → v ≡ eqb k 0 → (k ≡ 0 → ⊥) → v ≡ true → ⊥
not_zero v k e d t = d (eqb-true k 0 (sym e ∙ t))

module _ (x k : ℕ) (kx : k ≡ step_kind x) where
  pub has_kind : (v : Bool) → v ≡ eqb k 0 → (k ≡ 0 → ⊥) → v ≡ zero_step (step_of x)
  unfolding zero_step step_of
  has_kind v e d = e ∙ ne_eqb k 0 d ∙ sym (simp (sym kx, ne_eqb k 0 d))

  module _ (p : ℕ) (v : Bool) (px : p ≡ step_parent x) (vp : v ≡ eqb p 0) where
    pub has_parent : v ≡ false → v ≡ zero_step (step_of x)
    unfolding zero_step step_of
    has_parent f = f ∙ sym (simp (sym px, sym vp ∙ f, and-false))

    pub other_decides : (a o : ℕ) (w : Bool) → k ≡ 0 → v ≡ true → a ≡ step_atom x → w ≡ eqb a 0 → w ≡ true → o ≡ step_other x
        → eqb o 0 ≡ zero_step (step_of x)
    unfolding zero_step step_of
    other_decides a o w kz t ax wa u ox =
        sym (simp (sym kx, sym px, sym ax, sym ox, eq-eqb k 0 kz, sym vp ∙ t, sym wa ∙ u))

pub has_atom : (x a : ℕ) (v : Bool) → a ≡ step_atom x → v ≡ eqb a 0 → v ≡ false → v ≡ zero_step (step_of x)
unfolding zero_step step_of
has_atom x a v ax va f = f ∙ sym (simp (sym ax, sym va ∙ f, and-false))

-- the fields put together are taken apart again
pub step_made : (kind parent atom other : ℕ) → kind < 4 → parent < 1024 → atom < 16 → other < 65536
    → step_of (kind * 1073741824 + parent * 1048576 + atom * 65536 + other)
    ≡ record { kind = kind; parent = parent; atom = atom; other = other }
unfolding step_of
step_made kind parent atom other k p a o =
    let x : ℕ = kind * 1073741824 + parent * 1048576 + atom * 65536 + other in
    let dk : step_kind x ≡ kind = omega arith in
    let dp : step_parent x ≡ parent = omega arith in
    let da : step_atom x ≡ atom = omega arith in
    let dr : step_other x ≡ other = omega arith in
    λ i. record { kind = dk i; parent = dp i; atom = da i; other = dr i }

pub ruleset laws = (rules, step_made, has_kind, has_parent, has_atom, other_decides)
