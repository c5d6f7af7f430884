-- What `fresh` means. 01: "The fresh variable z is the lowest number that stands nowhere in the question before the step."
use Rattle.std.specs.Prelude.{◌≡◌, refl, ℕ, zero, suc, ◌+◌, ◌≤◌, ◌<◌, Bool, true, false, List, [], ◌∷◌, T}
use Rattle.std.proofs.Common.{sym, ap, subst, inl, inr, eq-or-lt_of_le, arith}
use mathlib.Core.List.Memᴰ
use Rattle.theory.specs.Lists.{◌∈◌, pick, any}
use Rattle.theory.specs.Syntax.{Term, var, const, Query, terms, same_term}
use Rattle.theory.specs.Rewriting.{bound, lowest, fresh}
use Rattle.theory.specs.Laws.Lists.{any_same}
use Rattle.theory.proofs.Laws.Syntax.{same_term_iff}

-- every variable among the terms is below their bound
bound_above : (ts : List Term) (v : ℕ) → var v ∈ ts → v < bound ts
unfolding bound
bound_above [] v m = elim m [ ]
bound_above (var u ∷ ts) v (Memᴰ.head e) = let d : v ≡ u = cc in omega arith
bound_above (var u ∷ ts) v (Memᴰ.tail m) = let h : v < bound ts = bound_above ts v m in omega arith
bound_above (const c ∷ ts) v (Memᴰ.head e) = absurd (let z : ◌≡◌ {A = ℕ} 0 1 = cc in omega arith)
bound_above (const c ∷ ts) v (Memᴰ.tail m) = bound_above ts v m

-- the number found stands nowhere, if enough are tried
lowest_new : (tries v : ℕ) (ts : List Term) → bound ts ≤ v + tries → ¬ (var (lowest tries v ts) ∈ ts)
unfolding lowest
lowest_new zero v ts h m = let l : v < bound ts = bound_above ts v m in omega arith
lowest_new (suc tries) v ts h m = go (any (same_term (var v)) ts) refl (lowest_new tries (suc v) ts (omega arith)) m
  where
    go : (b : Bool) → any (same_term (var v)) ts ≡ b → ¬ (var (lowest tries (suc v) ts) ∈ ts)
        → ¬ (var (pick b (lowest tries (suc v) ts) v) ∈ ts)
    go true e below n = below n
    go false e below n = subst T e ((any_same same_term same_term_iff (var v) ts).1 n)

-- every number passed over stands among the terms
lowest_passed : (tries v : ℕ) (ts : List Term) (u : ℕ) → v ≤ u → u < lowest tries v ts → var u ∈ ts
unfolding lowest
lowest_passed zero v ts u h k = absurd (omega arith)
lowest_passed (suc tries) v ts u h k = go (any (same_term (var v)) ts) refl (λ l n. lowest_passed tries (suc v) ts u l n) k
  where
    go : (b : Bool) → any (same_term (var v)) ts ≡ b → (v < u → u < lowest tries (suc v) ts → var u ∈ ts)
        → u < pick b (lowest tries (suc v) ts) v → var u ∈ ts
    go true e below n =
        elim (eq-or-lt_of_le h) [
          | inl d ↦ Memᴰ.cast (ap var (sym d)) ((any_same same_term same_term_iff (var v) ts).0 (subst T (sym e) tt))
          | inr l ↦ below l n
        ]
    go false e below n = absurd (omega arith)

-- the fresh variable stands nowhere in the query, and every lower number does
pub fresh_new : (q : Query) → ¬ (var (fresh q) ∈ terms q)
unfolding fresh
fresh_new q = lowest_new (bound (terms q)) zero (terms q) (omega arith)

pub fresh_lowest : (q : Query) (u : ℕ) → u < fresh q → var u ∈ terms q
unfolding fresh
fresh_lowest q u h = lowest_passed (bound (terms q)) zero (terms q) u (omega arith) h
