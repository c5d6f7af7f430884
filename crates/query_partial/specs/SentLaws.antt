-- Partial renamings: what changes when a variable is sent, and that a promising one that sends every variable is a renaming.
use Rattle.std.specs.Prelude.{◌≡◌, refl, ◌⊎◌, ◌≢◌, ℕ, ◌<◌, Bool, true, false, not, T, eqb, length, get_or, replicate}
use Rattle.std.proofs.Common.{sym, ap, ◌∙◌, subst, inl, inr, arith, length-set, get_or-set_same, get_or-set_other, eqb-true}
use Rattle.std.proofs.Math.Decide.{ℕ_discrete}
use mathlib.Core.List.Memᴰ
use Rattle.std.proofs.lemmas.List.{get_or-replicate, length-replicate}
use Rattle.theory.specs.Lists.{◌∈◌, pick}
use Rattle.theory.specs.Syntax.{Term, var, const, Query, terms, rename}
use Rattle.theory.specs.Renaming.{Alike, promising}
use Rattle.theory.specs.Laws.Options.{T_or, T_eqb}
use Rattle.theory.proofs.Laws.Promising.{promising_renaming}
use Rattle.query_sets.specs.Sets.{holds}
use Rattle.query_partial.specs.Partial.{entry, may_become, Sends, Apart}
use Rattle.query_partial.specs.declared.Partial.{Partial}

-- ---- a variable is sent

module _ (m n : Partial) (v w : ℕ) (s : Sends m v w n) where
  pub sent_entry : entry n v ≡ w
  sent_entry = ap (λ l. get_or l v 0) s.entries ∙ get_or-set_same m.to v w 0 s.within

  pub not_nowhere : w ≡ 32 → ⊥
  not_nowhere e = let h = s.low in omega arith

  pub other_entry : (u : ℕ) → u ≢ v → entry n u ≡ entry m u
  other_entry u d = ap (λ l. get_or l u 0) s.entries ∙ get_or-set_other m.to v u w 0 d

  sent_taken : T (holds n.taken w)
  sent_taken = subst T (sym (s.targets w)) ((T_or (eqb w w) (holds m.taken w)).1 (inl ((T_eqb w w).1 refl)))

  other_taken : (u : ℕ) → T (holds m.taken u) → T (holds n.taken u)
  other_taken u t = subst T (sym (s.targets u)) ((T_or (eqb u w) (holds m.taken u)).1 (inr t))

  -- the entry of a variable is the new one, or as before
  pub either_entry : (u : ℕ) → ((u ≡ v) × (entry n u ≡ w)) ⊎ ((u ≢ v) × (entry n u ≡ entry m u))
  either_entry u = elim (ℕ_discrete u v) [ yes e ↦ inl (e, ap (entry n) e ∙ sent_entry) | no d ↦ inr (d, other_entry u d) ]

  -- to a target that was not taken
  pub apart_next : Apart m → holds m.taken w ≡ false → Apart n
  apart_next a e = record {
    long = ap length s.entries ∙ length-set m.to v w ∙ a.long;
    apart = λ u x hu hx d f. elim (either_entry u) [
      | inl y ↦ elim (either_entry x) [ inl z ↦ y.0 ∙ sym z.0 | inr z ↦ absurd (clash x hx (sym z.1 ∙ sym f ∙ y.1)) ]
      | inr y ↦ elim (either_entry x) [
        | inl z ↦ absurd (clash u hu (sym y.1 ∙ f ∙ z.1))
        | inr z ↦ a.apart u x hu hx (λ k. d (y.1 ∙ k)) (sym y.1 ∙ f ∙ z.1)
      ]
    ];
    taken = λ u hu d. elim (either_entry u) [
      | inl y ↦ subst (λ k. T (holds n.taken k)) (sym y.1) sent_taken
      | inr y ↦ subst (λ k. T (holds n.taken k)) (sym y.1) (other_taken (entry m u) (a.taken u hu (λ k. d (y.1 ∙ k))))
    ];
  }
    where
      clash : (x : ℕ) → x < 32 → entry m x ≡ w → ⊥
      clash x h f = subst T (ap (holds m.taken) f ∙ e) (a.taken x h (λ z. not_nowhere (sym f ∙ z)))

-- ---- nothing is sent

module _ (m : Partial) (to : m.to ≡ replicate 32 32) where
  pub empty_entry : (v : ℕ) → v < 32 → entry m v ≡ 32
  empty_entry v h = ap (λ l. get_or l v 0) to ∙ get_or-replicate 32 v 32 0 h

  pub apart_nothing : Apart m
  apart_nothing = record {
    long = ap length to ∙ length-replicate {A = ℕ} 32 32;
    apart = λ u v h k d. absurd (d (empty_entry u h));
    taken = λ v h d. absurd (d (empty_entry v h));
  }

-- ---- all variables are sent

-- a term of which the variable is assigned may become one term only
may_be_image : (m : Partial) (s t : Term) → ((v : ℕ) → s ≡ var v → entry m v ≡ 32 → ⊥) → T (may_become m s t) → rename (entry m) s ≡ t
unfolding may_become
may_be_image m (var v) (var w) h t = go (eqb (entry m v) 32) refl t
  where
    go : (b : Bool) → eqb (entry m v) 32 ≡ b → T (pick b (not (holds m.taken w)) (eqb (entry m v) w)) → var (entry m v) ≡ var w
    go true e t = absurd (h v refl (eqb-true (entry m v) 32 e))
    go false e t = ap var ((T_eqb (entry m v) w).0 t)
may_be_image m (var v) (const d) h t = absurd t
may_be_image m (const c) (var w) h t = absurd t
may_be_image m (const c) (const d) h t = ap const ((T_eqb c d).0 t)

pub sent_renaming : (p q : Query) (m : Partial) → ((v : ℕ) → var v ∈ terms p → v < 32) → Apart m
    → ((v : ℕ) → var v ∈ terms p → entry m v ≡ 32 → ⊥) → promising (may_become m) p q ≡ true
    → (r : Alike p q) × ((v : ℕ) → r.to v ≡ entry m v)
sent_renaming p q m low apart sent e =
    promising_renaming (may_become m) p q (entry m) (λ u v i j d. apart.apart u v (low u i) (low v j) (sent u i) d)
    (λ s t n. may_be_image m s t (λ v d. sent v (Memᴰ.cast (sym d) n))) (subst T (sym e) tt)
