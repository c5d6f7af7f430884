-- Where a null comes from: a fact of round m in which the null of rule r and bearer c stands is the very fact that makes this null,
-- or that fact stands in an earlier round.
use Rattle.std.specs.Prelude.{◌≡◌, refl, ◌⊎◌, ℕ, zero, suc, ◌<◌, List}
use Rattle.std.proofs.Common.{sym, subst, inl, inr, le_refl, arith}
use Rattle.std.proofs.Math.Nat.{le_step}
use Rattle.theory.specs.Lists.{◌∈◌, At}
use Rattle.theory.specs.Syntax.{Atom, Rule, Fact, Thing, object, null, args}
use Rattle.theory.specs.Chase.{Round}
use Rattle.theory.proofs.Laws.Syntax.{args_map}
use Rattle.theory.proofs.Laws.Rules.{Makes, concludes_args, null_inj}

module _ (rules : List Rule) (facts : List Fact) where
  -- the fact that makes the null of rule r and bearer c, and how it stands to the fact a of round m
  abbrev pub Born : ℕ → Atom Thing → ℕ → Thing → Type 0
  Born m a r c =
      (ρ : Rule) × (b : Atom Thing) × At rules r ρ × Makes r ρ c b
      × ((a ≡ b) ⊎ ((k : ℕ) × (k < m) × Round rules facts k b))

  -- a null that stands in a fact of round m was made by round m, so before round m + 1
  earlier : (m : ℕ) (a a' : Atom Thing) (r : ℕ) (c : Thing) → Round rules facts m a' → Born m a' r c → Born (suc m) a r c
  earlier m a a' r c held (ρ, b, at, makes, w) = (
    ρ,
    b,
    at,
    makes,
    inr (elim w [
      | inl e ↦ (m, le_refl (suc m), subst (Round rules facts m) e held)
      | inr v ↦ (v.0, le_step v.1, v.2)
    ]),
  )

  pub birth : (m : ℕ) (a : Atom Thing) (r : ℕ) (c : Thing) → Round rules facts m a → null r c ∈ args a → Born m a r c
  birth zero a r c (f, n, e) i =
      let w = args_map object f (subst (λ b. null r c ∈ args b) e i) in
      let d = w.2 in absurd (let z : ◌≡◌ {A = ℕ} 0 1 = cc in omega arith)
  birth (suc m) a r c (inl h) i = earlier m a a r c h (birth m a r c h i)
  birth (suc m) a r c (inr w) i =
      elim (concludes_args (Round rules facts m) w.0 w.1 a (null r c) w.3 i) [
        | inl used ↦ earlier m a used.0 r c used.1 (birth m used.0 r c used.1 used.2)
        | inr made ↦ (let n = null_inj r w.0 c made.0 made.1 in (
          w.1,
          a,
          subst (λ k. At rules k w.1) (sym n.0) w.2,
          subst (λ d. Makes r w.1 d a) (sym n.1) (subst (λ k. Makes k w.1 made.0 a) (sym n.0) made.2),
          inl refl,
        ))
      ]
