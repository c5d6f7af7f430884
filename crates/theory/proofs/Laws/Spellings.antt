-- A fact in the spelling that a law asks for, from one that a program may have instead: `t <= 31` for `t < 32`, a sum or a comparison
-- with its sides exchanged, a negated test. Rulesets that name `spellings` close both.
use Rattle.std.specs.Prelude.{◌≡◌, ◌↔◌, Bool, ℕ, suc, ◌+◌, ◌≤◌, ◌<◌, T, eqb}
use Rattle.std.proofs.Common.{sym, ◌∙◌, arith, ltb-true, leb-true}
use Rattle.std.proofs.lemmas.Bool.{not-true, not-false}
use Rattle.theory.specs.Syntax.{Term, Atom, same_term, same_atom}
use Rattle.theory.specs.Laws.Options.{same_test, T_eqb}
use Rattle.theory.proofs.Laws.Syntax.{same_term_iff, same_atom_iff}

-- at most 31 for below 32
pub at_most : (t n : ℕ) → t ≤ n → t < suc n
at_most t n h = omega arith

-- one more than a number
pub one_first : (i : ℕ) → 1 + i ≡ i + 1
one_first i = omega arith

-- sides exchanged
pub exchanged : (m n : ℕ) → n ≡ m → m ≡ n
exchanged m n e = sym e

pub differ_exchanged : (m n : ℕ) → (n ≡ m → ⊥) → m ≡ n → ⊥
differ_exchanged m n f e = f (sym e)

-- a test that decides equality is symmetric
pub same_comm : {X : Type 0} (same : X → X → Bool) → ((x y : X) → T (same x y) ↔ (x ≡ y)) → (x y : X) → same x y ≡ same y x
same_comm same same-iff x y = same_test (same x y) (same y x) (
  λ t. (same-iff y x).1 (sym ((same-iff x y).0 t)),
  λ t. (same-iff x y).1 (sym ((same-iff y x).0 t)),
)

module _ (b : Bool) where
  pub eqb_exchanged : (m n : ℕ) → b ≡ eqb n m → b ≡ eqb m n
  eqb_exchanged m n e = e ∙ same_comm eqb T_eqb n m

  pub same_term_exchanged : (s t : Term) → b ≡ same_term t s → b ≡ same_term s t
  same_term_exchanged s t e = e ∙ same_comm same_term same_term_iff t s

  pub same_atom_exchanged : (x y : Atom Term) → b ≡ same_atom y x → b ≡ same_atom x y
  same_atom_exchanged x y e = e ∙ same_comm same_atom same_atom_iff y x

pub ruleset exchanges = (exchanged, differ_exchanged, eqb_exchanged, same_term_exchanged, same_atom_exchanged)

pub ruleset spellings = (at_most, one_first, exchanges, not-true, not-false, ltb-true, leb-true)
