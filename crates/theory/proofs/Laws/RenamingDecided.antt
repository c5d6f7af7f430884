-- The search for a renaming decides: `alike` is true exactly where there is a one-to-one renaming.
use Rattle.std.specs.Prelude.{◌≡◌, ◌⊎◌, ◌↔◌}
use Rattle.std.proofs.Math.Path.{refl, sym, ap}
use Rattle.std.proofs.Common.{◌∙◌, subst, inl, inr}
use Prim.Native.Nat.{ℕ}
use Rattle.std.proofs.Math.Option.{Option, none, some}
use mathlib.Core.List.Memᴰ
use mathlib.Core.List.{List, [], ◌∷◌}
use Rattle.std.proofs.Math.Dec.{T, eqb}
use Rattle.theory.specs.Lists.{◌∈◌, Unrepeated, any, without, is_some, Pairs, lookup}
use Rattle.theory.specs.Syntax.{Term, var, const, Query, terms, rename}
use Rattle.theory.specs.Renaming.{Alike, variables, may_go, may_be, promising, complete, find_renaming, alike}
use Rattle.theory.specs.Laws.Options.{T_no, T_eqb, some_inj, none≢some, is_some_some, tested_found, tested_of}
use Rattle.theory.specs.Laws.Lists.{here, forall_cons, any_iff, mem_without, without_mem, first_some_found, first_some_of}
use Rattle.theory.specs.Laws.Lookup.{Assigned, lookup_head, lookup_cons, assigned_cons, lookup_found, mem_assigned}
use Rattle.theory.proofs.Laws.Equivalence.{term_into}
use Rattle.theory.proofs.Laws.Promising.{promising_renaming, renaming_promising}
use Rattle.theory.proofs.Laws.Variables.{variables_unrepeated, variables_mem, mem_variables}

-- ---- what the search gives is a renaming

-- no two variables go to one
abbrev OneToOne : Pairs → Type 0
OneToOne ps = (u v w : ℕ) → lookup ps u ≡ some w → lookup ps v ≡ some w → u ≡ v

-- no variable goes to one of these
abbrev Untaken : List ℕ → Pairs → Type 0
Untaken free ps = (w : ℕ) → w ∈ free → (v : ℕ) → ¬ (lookup ps v ≡ some w)

-- a variable sent to a target still free keeps both
one_to_one_cons : (v w : ℕ) (ps : Pairs) → OneToOne ps → ((u : ℕ) → ¬ (lookup ps u ≡ some w)) → OneToOne ((v, w) ∷ ps)
one_to_one_cons v w ps o f u u' x d d' =
    elim (lookup_cons (v, w) ps u d) [
      | inl h ↦ elim (lookup_cons (v, w) ps u' d') [ inl h' ↦ sym h.0 ∙ h'.0 | inr k' ↦ absurd (f u' (k' ∙ ap some (sym h.1))) ]
      | inr k ↦ elim (lookup_cons (v, w) ps u' d') [ inl h' ↦ absurd (f u (k ∙ ap some (sym h'.1))) | inr k' ↦ o u u' x k k' ]
    ]

untaken_cons : (v w : ℕ) (free : List ℕ) (ps : Pairs) → Untaken free ps → Untaken (without (eqb w) free) ((v, w) ∷ ps)
untaken_cons v w free ps f x m u d =
    let k = mem_without (eqb w) free m in
    elim (lookup_cons (v, w) ps u d) [ inl h ↦ k.1 ((T_eqb w x).1 h.1) | inr h ↦ f x k.0 u h ]

-- what `complete` gives is promising and one-to-one, and assigns all sources and what was assigned before
complete_found : (p q : Query) (sources free : List ℕ) (ps : Pairs) {found : Pairs} → T (promising (may_be ps) p q) → OneToOne ps
    → Untaken free ps → complete p q sources free ps ≡ some found
    → T (promising (may_be found) p q) × OneToOne found × ((v : ℕ) → (v ∈ sources) ⊎ Assigned ps v → Assigned found v)
unfolding complete
complete_found p q [] free ps t o f e =
    subst (λ (r : Pairs). T (promising (may_be r) p q) × OneToOne r × ((v : ℕ) → (v ∈ []) ⊎ Assigned ps v → Assigned r v)) (some_inj e)
    (t, o, λ v c. elim c [ inl m ↦ absurd (Memᴰ.not-nil m) | inr a ↦ a ])
complete_found p q (v ∷ sources) free ps t o f e =
    let r = first_some_found _ free e in
    let w : ℕ = r.0 in
    let s = tested_found (promising (may_be ((v, w) ∷ ps)) p q) (complete p q sources (without (eqb w) free) ((v, w) ∷ ps)) r.2 in
    let below =
    complete_found p q sources (without (eqb w) free) ((v, w) ∷ ps) s.0 (one_to_one_cons v w ps o (f w r.1))
    (untaken_cons v w free ps f) s.1 in (
      below.0,
      below.1,
      λ u c. below.2 u (elim c [
        | inl m ↦ elim (Memᴰ.cases_cons m) [ inl d ↦ inr (w, lookup_head (v, w) ps u (sym d)) | inr n ↦ inl n ]
        | inr a ↦ inr (assigned_cons (v, w) ps u a)
      ]),
    )

-- where each variable of p goes, and a number for the others
pub target : Pairs → ℕ → ℕ
target ps v = elim (lookup ps v) [ none ↦ 0 | some w ↦ w ]

pub target_is : (ps : Pairs) (v w : ℕ) → lookup ps v ≡ some w → target ps v ≡ w
unfolding target
target_is ps v w e = ap (λ o. elim o [ none ↦ 0 | some w ↦ w ]) e

-- pairs that assign every variable of p leave one term that a term of p may be
may_be_image : (ps : Pairs) (s t : Term) → ((v : ℕ) → s ≡ var v → Assigned ps v) → T (may_be ps s t) → rename (target ps) s ≡ t
unfolding may_be
may_be_image ps (var v) (var w) h t =
    let a = h v refl in
    ap var (target_is ps v a.0 a.1 ∙ (T_eqb a.0 w).0 (subst (λ o. T (may_go o (any (λ p. eqb p.1 w) ps) w)) a.1 t))
may_be_image ps (var v) (const d) h t = absurd t
may_be_image ps (const c) (var w) h t = absurd t
may_be_image ps (const c) (const d) h t = ap const ((T_eqb c d).0 t)

-- promising one-to-one pairs that assign every variable of p are a renaming
renaming_of : (p q : Query) (ps : Pairs) → T (promising (may_be ps) p q) → OneToOne ps → ((v : ℕ) → var v ∈ terms p → Assigned ps v)
    → (r : Alike p q) × ((v : ℕ) → r.to v ≡ target ps v)
renaming_of p q ps t o assigned =
    promising_renaming (may_be ps) p q (target ps)
    (λ u v m n e. let a = assigned u m in let b = assigned v n in
    o u v a.0 a.1 (b.1 ∙ ap some (sym (target_is ps v b.0 b.1) ∙ sym e ∙ target_is ps u a.0 a.1)))
    (λ s t m. may_be_image ps s t (λ v e. assigned v (Memᴰ.cast (sym e) m))) t

-- the pairs found assign every variable of p, and send each where a renaming does
pub found_renaming : (p q : Query) {ps : Pairs} → find_renaming p q ≡ some ps
    → ((v : ℕ) → var v ∈ terms p → Assigned ps v) × ((r : Alike p q) × ((v : ℕ) → r.to v ≡ target ps v))
unfolding find_renaming lookup
found_renaming p q {ps} e =
    let s = tested_found (promising (may_be []) p q) (complete p q (variables (terms p)) (variables (terms q)) []) e in
    let c = complete_found p q (variables (terms p)) (variables (terms q)) [] s.0
    (λ u v w d. absurd (none≢some d)) (λ w m v d. none≢some d) s.1 in
    let assigned : (v : ℕ) → var v ∈ terms p → Assigned ps v = λ v m. c.2 v (inl (mem_variables (terms p) m)) in
    (assigned, renaming_of p q ps c.0 c.1 assigned)

alike_sound : (p q : Query) → T (alike p q) → Alike p q
unfolding alike
alike_sound p q t = (found_renaming p q ((is_some_some (find_renaming p q)).0 t).1).1.0

-- ---- where there is a renaming the search gives one

module _ (p q : Query) (r : Alike p q) where
  -- every pair is a variable of p and where it goes
  abbrev pub Follows : Pairs → Type 0
  Follows ps = (e : ℕ × ℕ) → e ∈ ps → (var e.0 ∈ terms p) × (r.to e.0 ≡ e.1)

  -- such pairs speak against no term of p and its image, and so are promising
  follows_may_be : (ps : Pairs) → Follows ps → (t : Term) → t ∈ terms p → T (may_be ps t (rename r.to t))
  unfolding may_be
  follows_may_be ps f (var v) m = go (lookup ps v) refl
    where
      go : (o : Option ℕ) → lookup ps v ≡ o → T (may_go o (any (λ e. eqb e.1 (r.to v)) ps) (r.to v))
      go none d =
          (T_no (any (λ e. eqb e.1 (r.to v)) ps)).1 (λ t.
          let h = (any_iff (λ e. eqb e.1 (r.to v)) ps).0 t in
          let e : ℕ × ℕ = h.0 in
          let g = f e h.1 in
          let u : e.0 ≡ v = r.one_to_one e.0 v g.0 m (g.1 ∙ (T_eqb e.1 (r.to v)).0 h.2) in
          none≢some (sym d ∙ ap (lookup ps) (sym u) ∙ (mem_assigned ps h.1).1))
      go (some w) d =
          let h = lookup_found ps v d in
          (T_eqb w (r.to v)).1 (sym h.3 ∙ sym (f h.0 h.1).1 ∙ ap r.to h.2)
  follows_may_be ps f (const c) m = (T_eqb c c).1 refl

  pub follows_promising : (ps : Pairs) → Follows ps → T (promising (may_be ps) p q)
  follows_promising ps f = renaming_promising (may_be ps) p q r (follows_may_be ps f)

  -- the sources left stand in p, and their targets are free
  abbrev pub Open : List ℕ → List ℕ → Type 0
  Open sources free = (v : ℕ) → v ∈ sources → (var v ∈ terms p) × (r.to v ∈ free)

  -- once the first has its target, those of the others are still free
  pub others_open : (v : ℕ) (sources free : List ℕ) → Unrepeated (v ∷ sources) → Open (v ∷ sources) free
      → Open sources (without (eqb (r.to v)) free)
  others_open v sources free u h x m =
      let k = h x (Memᴰ.tail m) in (
        k.0,
        without_mem (eqb (r.to v)) k.1 (λ t.
            u.0 (Memᴰ.cast (r.one_to_one v x (h v here).0 k.0 ((T_eqb (r.to v) (r.to x)).0 t)) m)),
      )

  -- such pairs can be completed, as long as the sources left stand in p, each once, and their targets are free
  pub complete_gives : (sources free : List ℕ) (ps : Pairs) → Follows ps → Unrepeated sources → Open sources free
      → T (is_some (complete p q sources free ps))
  unfolding complete is_some
  complete_gives [] free ps f u h = tt
  complete_gives (v ∷ sources) free ps f u h =
      first_some_of _ (h v here).1
      (tested_of (promising (may_be next) p q) (complete p q sources (without (eqb (r.to v)) free) next)
      (follows_promising next follows)
      (complete_gives sources (without (eqb (r.to v)) free) next follows u.1 (others_open v sources free u h)))
    where
      next : Pairs
      next = (v, r.to v) ∷ ps

      follows : Follows next
      follows = forall_cons ((h v here).0, refl) f

alike_complete : (p q : Query) → Alike p q → T (alike p q)
unfolding alike
alike_complete p q r =
    tested_of (promising (may_be []) p q) (complete p q (variables (terms p)) (variables (terms q)) [])
    (follows_promising p q r [] none_yet)
    (complete_gives p q r (variables (terms p)) (variables (terms q)) [] none_yet
    (variables_unrepeated (terms p)) (λ v m. (let n = variables_mem (terms p) m in (n, mem_variables (terms q) (term_into p q r n)))))
  where
    none_yet : Follows p q r []
    none_yet e m = absurd (Memᴰ.not-nil m)

-- the test says what is meant
pub alike_iff : (p q : Query) → T (alike p q) ↔ Alike p q
alike_iff p q = (alike_sound p q, alike_complete p q)
