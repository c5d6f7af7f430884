-- The renaming that is handed back (02, T-05): of the smallest there is one, it is handed back exactly where two queries are alike, and
-- how one shows of a list of targets that it is the smallest.
use Rattle.std.specs.Prelude.{◌≡◌, refl, ◌⊎◌, ℕ, ◌<◌, Bool, true, false, T, get_or, replicate}
use Rattle.std.proofs.Common.{sym, ap, ◌∙◌, subst, ext_get_or}
use Rattle.std.proofs.Math.Logic.{inl, inr}
use native.Mathlib.Omega.{arith}
use mathlib.Core.List.Memᴰ
use mathlib.Core.List.{List, [], ◌∷◌, map}
use Rattle.theory.specs.Lists.{◌∈◌, any}
use Rattle.theory.specs.Syntax.{Term, var, Query, terms, same_term}
use Rattle.theory.specs.Renaming.{Alike, variables, alike}
use Rattle.theory.specs.Evaluation.{before, Before}
use Rattle.theory.specs.Targets.{places, no_target, target_at, Targets, by_rising_source, Smallest, HandedBack}
use Rattle.theory.specs.Laws.Options.{either, is_true, is_false}
use Rattle.theory.specs.Laws.Lists.{here, any_same}
use Rattle.theory.proofs.Laws.Syntax.{same_term_iff}
use Rattle.theory.specs.Laws.Ascending.{Ascending}
use Rattle.theory.proofs.Laws.Answers.{before_cons, before_total}
use Rattle.theory.proofs.Laws.RenamingDecided.{alike_iff}
use Rattle.theory.proofs.Laws.Variables.{variables_ascending, variables_mem, mem_variables}
use Rattle.theory.specs.Laws.Targets.{Precedes}

-- ---- of the smallest there is one

-- maps with one list of values agree at every element, and back
same_values : (t t' : ℕ → ℕ) (vs : List ℕ) → map t vs ≡ map t' vs → (v : ℕ) → v ∈ vs → t v ≡ t' v
same_values t t' [] e v m = elim m [ ]
same_values t t' (u ∷ vs) e v (Memᴰ.head d) = ap t d ∙ ap (λ l. get_or l 0 0) e ∙ ap t' (sym d)
same_values t t' (u ∷ vs) e v (Memᴰ.tail m) = same_values t t' vs (ap rest e) v m
  where
    rest : List ℕ → List ℕ
    rest [] = []
    rest (x ∷ xs) = xs

pub values_same : (t t' : ℕ → ℕ) (vs : List ℕ) → ((v : ℕ) → v ∈ vs → t v ≡ t' v) → map t vs ≡ map t' vs
values_same t t' [] h = refl
values_same t t' (v ∷ vs) h = rw (h v here, values_same t t' vs (λ u m. h u (Memᴰ.tail m)))

pub stands_or_not : (v : ℕ) (ts : List Term) → (var v ∈ ts) ⊎ ¬ (var v ∈ ts)
stands_or_not v ts =
    let iff = any_same same_term same_term_iff (var v) ts in
    elim (either (any (same_term (var v)) ts)) [ inl t ↦ inl (iff.0 t) | inr f ↦ inr (λ m. f (iff.1 m)) ]

module _ (p q : Query) where
  abbrev list_of : List ℕ → List ℕ
  list_of targets = by_rising_source p (target_at targets)

  -- a list's targets by rising source are those of its renaming
  own_list : (targets : List ℕ) (t : Targets p q targets) → list_of targets ≡ by_rising_source p t.renaming.to
  own_list targets t = values_same (target_at targets) t.renaming.to (variables (terms p)) (λ v m. t.sent v (variables_mem (terms p) m))

  -- two lists with the same targets by rising source are one list
  same_targets : (targets targets' : List ℕ) → Targets p q targets → Targets p q targets' → list_of targets ≡ list_of targets'
      → targets ≡ targets'
  same_targets targets targets' t t' e =
      ext_get_or no_target targets targets' (t.long ∙ sym t'.long) (λ v h. elim (stands_or_not v (terms p)) [
        | inl m ↦ same_values (target_at targets) (target_at targets') (variables (terms p)) e v (mem_variables (terms p) m)
        | inr f ↦ t.unsent v f ∙ sym (t'.unsent v f)
      ])

  not_before : (targets targets' : List ℕ) → Smallest p q targets → Targets p q targets' → ¬ Before (list_of targets') (list_of targets)
  not_before targets targets' s t b = s.least t.renaming (subst (λ l. Before l (list_of targets)) (own_list targets' t) b)

  pub smallest_unique : (targets targets' : List ℕ) → Smallest p q targets → Smallest p q targets' → targets ≡ targets'
  smallest_unique targets targets' s s' =
      elim (before_total (list_of targets) (list_of targets')) [
        | inl b ↦ absurd (not_before targets' targets s' s.fits b)
        | inr (inl e) ↦ same_targets targets targets' s.fits s'.fits e
        | inr (inr b) ↦ absurd (not_before targets targets' s s'.fits b)
      ]

  -- ---- a renaming is handed back exactly where the queries are alike

  pub found_alike : (found : Bool) (targets : List ℕ) → HandedBack p q found targets → found ≡ alike p q
  found_alike true targets h = sym (is_true (alike p q) ((alike_iff p q).1 (h.smallest refl).fits.renaming))
  found_alike false targets h = sym (is_false (alike p q) (λ t. h.none_fits refl ((alike_iff p q).0 t)))

  -- and none where they are not
  pub none_handed_back : (found : Bool) (targets : List ℕ) → ¬ Alike p q → found ≡ false → targets ≡ replicate places no_target
      → HandedBack p q found targets
  none_handed_back found targets unlike e f = record {
    smallest = λ d. absurd (subst T (sym d ∙ e) tt);
    none_fits = λ d. unlike;
    no_targets = λ d. f;
  }

  -- so all that is handed back is fixed by the two queries
  pub handed_back_unique : (found found' : Bool) (targets targets' : List ℕ) → HandedBack p q found targets → HandedBack p q found' targets'
      → (found ≡ found') × (targets ≡ targets')
  handed_back_unique true true targets targets' h h' = (refl, smallest_unique targets targets' (h.smallest refl) (h'.smallest refl))
  handed_back_unique false false targets targets' h h' = (refl, h.no_targets refl ∙ sym (h'.no_targets refl))
  handed_back_unique true false targets targets' h h' = absurd (h'.none_fits refl (h.smallest refl).fits.renaming)
  handed_back_unique false true targets targets' h h' = absurd (h.none_fits refl (h'.smallest refl).fits.renaming)

-- ---- variable by variable

module _ (p : Query) where
  pub precedes_least : (t t' : ℕ → ℕ) → Precedes p t t' → ¬ Before (by_rising_source p t') (by_rising_source p t)
  unfolding before
  precedes_least t t' h = elim h.lower [
    | inl same ↦ agree (variables (terms p)) (λ v m. same v (variables_mem (terms p) m))
    | inr (u, m, l, same) ↦ differ (variables (terms p)) u (variables_ascending (terms p)) (mem_variables (terms p) m) l
        (λ v n. same v (variables_mem (terms p) n))
  ]
    where
      agree : (vs : List ℕ) → ((v : ℕ) → v ∈ vs → t v ≡ t' v) → ¬ Before (map t' vs) (map t vs)
      agree [] same b = b
      agree (v ∷ vs) same b =
          let e = same v here in
          elim ((before_cons (t' v) (t v) (map t' vs) (map t vs)).0 b) [
            | inl l ↦ omega arith
            | inr c ↦ agree vs (λ u m. same u (Memᴰ.tail m)) c.1
          ]

      differ : (vs : List ℕ) (u : ℕ) → Ascending ◌<◌ vs → u ∈ vs → t u < t' u → ((v : ℕ) → v ∈ vs → v < u → t v ≡ t' v)
          → ¬ Before (map t' vs) (map t vs)
      differ [] u a m l same b = b
      differ (v ∷ vs) u a m l same b = elim ((before_cons (t' v) (t v) (map t' vs) (map t vs)).0 b) [
        | inl k ↦ elim (Memᴰ.cases_cons m) [
          | inl e ↦ (let h : t v < t' v = subst (λ x. t x < t' x) e l in omega arith)
          | inr n ↦ (let e = same v here (a.0 u n) in omega arith)
        ]
        | inr c ↦ elim (Memᴰ.cases_cons m) [
          | inl e ↦ (let h : t v < t' v = subst (λ x. t x < t' x) e l in let d = c.0 in omega arith)
          | inr n ↦ differ vs u a.1 n l (λ x i. same x (Memᴰ.tail i)) c.1
        ]
      ]
