-- What refusal 17 means (02, T-04): a walk over the records, each judged with the one before it, fails exactly where one of the causes is
-- found.
use Rattle.std.specs.Prelude.{◌≡◌, refl, ◌⊎◌, ◌↔◌, ℕ, zero, suc, ◌≤◌, ◌<◌, true, false, not, List, [], ◌∷◌, T, eqb, length}
use Rattle.std.proofs.Common.{sym, subst, inl, inr, arith}
use Rattle.std.proofs.Math.Logic.Iff
use Rattle.std.proofs.Math.Decide.{ℕ_discrete}
use mathlib.Core.List.Memᴰ
use Rattle.theory.specs.Lists.{◌∈◌, At}
use Rattle.theory.specs.Laws.Options.{none≢some, some_inj}
use Rattle.theory.specs.Laws.Lists.{here}
use Rattle.words.specs.Limits.{most_rules}
use Rattle.words.specs.Records.{rule_kind, left_form, right_form, right_name, kind3_forms, kind4_forms, pair_forms}
use Rattle.sheets.specs.Format.{rule_records}
use Rattle.sheets.specs.Reading.{rules_as_read}
use Rattle.sheets.specs.Tests.{follows, pairs_sound, refuses17}
use Rattle.sheets.specs.Conditions.{Lone3, Lone4, NotAsSaid, Meets17}
use Rattle.sheets.proofs.Laws.Tests.{Tells, in_words, by_pass, by_fail, itself, not_tells, or_tells, and_tells, pick_tells, eqb_tells}
use Rattle.sheets.proofs.Laws.Tests.{ltb_tells}

-- ---- one record

pair_forms_tells : (x : ℕ) → Tells (pair_forms x) (¬ NotAsSaid x) (NotAsSaid x)
unfolding pair_forms kind3_forms kind4_forms
pair_forms_tells x =
    let forms3 = in_words (by_pass (kind3_forms x)
    (and_tells (and_tells (ltb_tells (left_form x) 3) (ltb_tells 0 (right_form x))) (ltb_tells (right_form x) 3)).pass)
    (λ w. w, λ w. w) (by_forms (left_form x) (right_form x)) in
    let zeros = (and_tells (and_tells (eqb_tells (left_form x) 0) (eqb_tells (right_form x) 0)) (eqb_tells (right_name x) 0)).pass in
    let forms4 = by_pass {P = (left_form x ≡ 0) × (right_form x ≡ 0) × (right_name x ≡ 0)} (kind4_forms x)
    (Iff.trans zeros (λ w. (w.0.0, w.0.1, w.1), λ w. ((w.0, w.1), w.2))) in
    let other = itself true in
    by_fail (pair_forms x) (Iff.trans (pick_tells (eqb_tells (rule_kind x) 3) forms3
    (pick_tells (eqb_tells (rule_kind x) 4) forms4 other)).fail (
      elim [ inl w ↦ inl w | inr w ↦ elim w.1 [ inl v ↦ inr v | inr v ↦ absurd v.1 ] ],
      elim [ inl w ↦ inl w | inr w ↦ inr (λ e. absurd (let a = w.0 in omega arith), inl w) ],
    ))
  where
    by_forms : (l r : ℕ) → (¬ (((l < 3) × (0 < r)) × (r < 3))) ↔ (¬ ((l ≤ 2) × ((r ≡ 1) ⊎ (r ≡ 2))))
    by_forms l r = (
      λ f w. f (elim w.1 [ inl e ↦ ((omega arith, omega arith), omega arith) | inr e ↦ ((omega arith, omega arith), omega arith) ]),
      λ f w. f (omega arith, one_or_two r w.0.1 w.1),
    )
      where
        one_or_two : (r : ℕ) → 0 < r → r < 3 → (r ≡ 1) ⊎ (r ≡ 2)
        one_or_two r a b = elim (ℕ_discrete r 1) [ yes e ↦ inl e | no f ↦ inr (omega arith) ]

-- ---- records in a row, after a record z

-- a kind 4 without a kind 3 right before it, where z stands before the first
abbrev Lone4After : ℕ → List ℕ → Type 0
Lone4After z rs = (i y : ℕ) × At rs i y × (rule_kind y ≡ 4) × (¬ ((x : ℕ) × At (z ∷ rs) i x × (rule_kind x ≡ 3)))

abbrev Bad : List ℕ → Type 0
Bad rs = (x : ℕ) × (x ∈ rs) × NotAsSaid x

abbrev Fault : ℕ → List ℕ → Type 0
Fault z rs = Lone3 (z ∷ rs) ⊎ Lone4After z rs ⊎ Bad rs

-- what is wrong with the first record after z
abbrev Misplaced : ℕ → ℕ → Type 0
Misplaced z x = ((rule_kind z ≡ 3) × (¬ (rule_kind x ≡ 4))) ⊎ ((¬ (rule_kind z ≡ 3)) × (rule_kind x ≡ 4))

follows_fails : (z x : ℕ) → T (not (follows (eqb (rule_kind z) 3) x)) ↔ (Misplaced z x ⊎ NotAsSaid x)
unfolding follows
follows_fails z x =
    let four = eqb_tells (rule_kind x) 4 in
    (and_tells (pick_tells (eqb_tells (rule_kind z) 3) four (not_tells four)) (pair_forms_tells x)).fail

not_in_empty : {x : ℕ} → ¬ (x ∈ [])
not_in_empty = elim [ ]

-- at the end, a kind 3 still waits
last_waits : (z : ℕ) → Fault z [] → rule_kind z ≡ 3
last_waits z (inl (zero, x, at, k, n)) = let e : z ≡ x = some_inj at in subst (λ y. rule_kind y ≡ 3) (sym e) k
last_waits z (inl (suc i, x, at, k, n)) = absurd (none≢some at)
last_waits z (inr (inl (i, y, at, k, n))) = absurd (none≢some at)
last_waits z (inr (inr (x, m, k))) = absurd (not_in_empty m)

-- a fault is at the first record after z, or at a later one
fault_now : (z x : ℕ) (rest : List ℕ) → Misplaced z x ⊎ NotAsSaid x → Fault z (x ∷ rest)
fault_now z x rest (inl (inl (k, f))) =
    inl (0, z, refl, k, λ (y, at, four). f (let e : x ≡ y = some_inj at in subst (λ v. rule_kind v ≡ 4) (sym e) four))
fault_now z x rest (inl (inr (f, k))) =
    inr (inl (0, x, refl, k, λ (v, at, three). f (let e : z ≡ v = some_inj at in subst (λ u. rule_kind u ≡ 3) (sym e) three)))
fault_now z x rest (inr bad) = inr (inr (x, here, bad))

fault_later : (z x : ℕ) (rest : List ℕ) → Fault x rest → Fault z (x ∷ rest)
fault_later z x rest (inl (i, v, at, k, n)) = inl (suc i, v, at, k, n)
fault_later z x rest (inr (inl (i, y, at, k, n))) = inr (inl (suc i, y, at, k, n))
fault_later z x rest (inr (inr (v, m, bad))) = inr (inr (v, Memᴰ.tail m, bad))

fault_first : (z x : ℕ) (rest : List ℕ) → Fault z (x ∷ rest) → (Misplaced z x ⊎ NotAsSaid x) ⊎ Fault x rest
fault_first z x rest (inl (zero, v, at, k, n)) =
    let e : z ≡ v = some_inj at in inl (inl (inl (subst (λ u. rule_kind u ≡ 3) (sym e) k, λ four. n (x, refl, four))))
fault_first z x rest (inl (suc i, v, at, k, n)) = inr (inl (i, v, at, k, n))
fault_first z x rest (inr (inl (zero, y, at, k, n))) =
    let e : x ≡ y = some_inj at in inl (inl (inr (λ three. n (z, refl, three), subst (λ u. rule_kind u ≡ 4) (sym e) k)))
fault_first z x rest (inr (inl (suc i, y, at, k, n))) = inr (inr (inl (i, y, at, k, n)))
fault_first z x rest (inr (inr (v, Memᴰ.head e, bad))) = inl (inr (subst NotAsSaid e bad))
fault_first z x rest (inr (inr (v, Memᴰ.tail m, bad))) = inr (inr (inr (v, m, bad)))

pairs_fail : (z : ℕ) (rs : List ℕ) → T (not (pairs_sound (eqb (rule_kind z) 3) rs)) ↔ Fault z rs
unfolding pairs_sound
pairs_fail z [] =
    let waits = (not_tells (eqb_tells (rule_kind z) 3)).fail in
    (λ t. inl (0, z, refl, waits.0 t, λ (y, at, four). none≢some at), λ f. waits.1 (last_waits z f))
pairs_fail z (x ∷ rest) =
    let now = by_fail (follows (eqb (rule_kind z) 3) x) (follows_fails z x) in
    let later = by_fail (pairs_sound (eqb (rule_kind x) 3) rest) (pairs_fail x rest) in
    Iff.trans (and_tells now later).fail (
      elim [ inl w ↦ fault_now z x rest w | inr w ↦ fault_later z x rest w ],
      fault_first z x rest,
    )

-- ---- the sheet: before its first record stands none of kind 3

from_start : (rs : List ℕ) → Fault 0 rs ↔ (Lone3 rs ⊎ Lone4 rs ⊎ Bad rs)
from_start rs = (go, back)
  where
    go : Fault 0 rs → Lone3 rs ⊎ Lone4 rs ⊎ Bad rs
    go (inl (zero, x, at, k, n)) =
        absurd (let e : 0 ≡ x = some_inj at in let d : rule_kind 0 ≡ 3 = subst (λ u. rule_kind u ≡ 3) (sym e) k in omega arith)
    go (inl (suc i, x, at, k, n)) = inl (i, x, at, k, n)
    go (inr (inl (i, y, at, k, n))) =
        inr (inl (i, y, at, k, λ (j, x, e, before, three). n (x, subst (λ l. At (0 ∷ rs) l x) (sym e) before, three)))
    go (inr (inr w)) = inr (inr w)

    back : Lone3 rs ⊎ Lone4 rs ⊎ Bad rs → Fault 0 rs
    back (inl (i, x, at, k, n)) = inl (suc i, x, at, k, n)
    back (inr (inl (zero, y, at, k, n))) = inr (inl (
      0,
      y,
      at,
      k,
      λ (x, e, three).
          absurd (let d : rule_kind 0 ≡ 3 = subst (λ u. rule_kind u ≡ 3) (sym (some_inj e)) three in omega arith),
    ))
    back (inr (inl (suc i, y, at, k, n))) = inr (inl (suc i, y, at, k, λ (x, before, three). n (i, x, refl, before, three)))
    back (inr (inr w)) = inr (inr w)

pub refuses17_iff : (partners : List ℕ) (w : ℕ) (s : List ℕ) → T (refuses17 partners w s) ↔ Meets17 partners w s
unfolding refuses17
refuses17_iff partners w s =
    let walk = Iff.trans (pairs_fail 0 (rule_records s)) (from_start (rule_records s)) in
    (or_tells (by_pass (not (pairs_sound false (rule_records s))) walk) (ltb_tells most_rules (length (rules_as_read partners w s)))).pass
