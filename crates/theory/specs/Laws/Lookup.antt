-- Finite maps of numbers to numbers: the first pair counts, and what is looked up stands in the list.
use Rattle.std.specs.Prelude.{◌≡◌, ◌⊎◌, ◌≢◌, ℕ, [], ◌∷◌, eqb}
use Rattle.std.proofs.Common.{sym, ap, ◌∙◌, inl, inr}
use Rattle.std.proofs.Math.Decide.{ℕ_discrete}
use Rattle.std.proofs.Math.Option.{some}
use mathlib.Core.List.Memᴰ
use Rattle.theory.specs.Lists.{◌∈◌, Pairs, lookup}
use Rattle.theory.specs.Laws.Options.{T_eqb, pick_true, pick_false, some_inj, none≢some}
use Rattle.theory.specs.Laws.Lists.{here}

-- v has a value
abbrev pub Assigned : Pairs → ℕ → Type 0
Assigned ps v = (w : ℕ) × (lookup ps v ≡ some w)

-- the first pair counts, and then the later ones
pub lookup_head : (e : ℕ × ℕ) (ps : Pairs) (v : ℕ) → e.0 ≡ v → lookup (e ∷ ps) v ≡ some e.1
unfolding lookup
lookup_head e ps v d = pick_true (eqb e.0 v) (some e.1) (lookup ps v) ((T_eqb e.0 v).1 d)

pub lookup_later : (e : ℕ × ℕ) (ps : Pairs) (v : ℕ) → e.0 ≢ v → lookup (e ∷ ps) v ≡ lookup ps v
unfolding lookup
lookup_later e ps v n = pick_false (eqb e.0 v) (some e.1) (lookup ps v) (λ t. n ((T_eqb e.0 v).0 t))

pub lookup_cons : (e : ℕ × ℕ) (ps : Pairs) (v : ℕ) {w : ℕ} → lookup (e ∷ ps) v ≡ some w → ((e.0 ≡ v) × (e.1 ≡ w)) ⊎ (lookup ps v ≡ some w)
lookup_cons e ps v d =
    elim (ℕ_discrete e.0 v) [
      | yes h ↦ inl (h, some_inj (sym (lookup_head e ps v h) ∙ d))
      | no n ↦ inr (sym (lookup_later e ps v n) ∙ d)
    ]

pub assigned_cons : (e : ℕ × ℕ) (ps : Pairs) (v : ℕ) → Assigned ps v → Assigned (e ∷ ps) v
assigned_cons e ps v a =
    elim (ℕ_discrete e.0 v) [
      | yes h ↦ (e.1, lookup_head e ps v h)
      | no n ↦ (a.0, lookup_later e ps v n ∙ a.1)
    ]

-- what is looked up stands in the list, and what stands there is found
pub lookup_found : (ps : Pairs) (v : ℕ) {w : ℕ} → lookup ps v ≡ some w → (e : ℕ × ℕ) × (e ∈ ps) × (e.0 ≡ v) × (e.1 ≡ w)
unfolding lookup
lookup_found [] v d = absurd (none≢some d)
lookup_found (e ∷ ps) v d =
    elim (lookup_cons e ps v d) [
      | inl h ↦ (e, here, h.0, h.1)
      | inr h ↦ (let r = lookup_found ps v h in (r.0, Memᴰ.tail r.1, r.2, r.3))
    ]

pub mem_assigned : (ps : Pairs) {e : ℕ × ℕ} → e ∈ ps → Assigned ps e.0
mem_assigned [] {e = e} m = elim m [ ]
mem_assigned (d ∷ ps) {e} (Memᴰ.head h) = (d.1, lookup_head d ps e.0 (ap (λ x. x.0) (sym h)))
mem_assigned (d ∷ ps) {e} (Memᴰ.tail m) = assigned_cons d ps e.0 (mem_assigned ps m)
