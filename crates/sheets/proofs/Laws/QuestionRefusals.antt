-- What refusals 3, 4 and 5 mean. w is the width of an object's number, 16 on 01's sheets; `at` is the byte at which a question begins.
use Rattle.std.specs.Prelude.{
  ◌≡◌,
  refl,
  ◌⊎◌,
  ◌↔◌,
  ℕ,
  zero,
  suc,
  ◌+◌,
  ◌/◌,
  ◌%◌,
  ◌^◌,
  ◌≤◌,
  ◌<◌,
  Bool,
  true,
  false,
  not,
  List,
  [],
  ◌∷◌,
  ◌++◌,
  map,
  T,
  eqb,
  length,
}
use Rattle.std.proofs.Common.{sym, ◌∙◌, subst, inl, inr, zero-le, suc-le-suc, le_of_suc-le-suc, not-suc-le-zero, arith}
use Rattle.std.proofs.Math.Logic.Iff
use mathlib.Core.List.Memᴰ
use Rattle.std.proofs.lemmas.List.{length-map}
use Rattle.theory.specs.Lists.{◌∈◌, At, Unrepeated, pick, any}
use Rattle.theory.specs.Syntax.{Term, var, const, Atom, concept, role, Query, args, places, terms, same_term, same_atom}
use Rattle.theory.specs.Union.{Safe}
use Rattle.theory.specs.Laws.Options.{T_or, T_no, either, none≢some, some_inj}
use Rattle.theory.specs.Laws.Lists.{here, at_mem, mem_at, numbered_length}
use Rattle.theory.proofs.Laws.Syntax.{same_term_iff, same_atom_iff, places_mem, mem_places}
use Rattle.words.specs.Limits.{variable_bound, most_terms, most_atoms}
use Rattle.words.specs.Records.{term_of, atom_kind, atom_zero, atom_name, atom_first, atom_second, atom_of}
use Rattle.sheets.specs.Format.{records_from, term_count, atom_count, question_length, answer_records, atom_records, query_at}
use Rattle.sheets.specs.Partners.{atom_as_read, query_as_read}
use Rattle.sheets.specs.Reading.{question_as_read}
use Rattle.sheets.specs.Tests.{term_sound, answer_sound, atom_sound, question_sound, refuses3, covered, refuses4, repeats, refuses5}
use Rattle.sheets.specs.Conditions.{AtomBitSet, VariableOut, Malformed, Meets3, Meets4, Twice, Meets5}
use Rattle.sheets.proofs.Laws.Tests.{sum_iff, sum_assoc, sum_crossed, some_either, Tells, itself, by_fail, not_tells, or_tells}
use Rattle.sheets.proofs.Laws.Tests.{and_tells, pick_tells, eqb_tells, leb_tells, ltb_tells, lt_or_le, all_tells, stands_tells}
use Rattle.sheets.proofs.Laws.PartnerLaws.{terms_as_read}

-- ---- 3

-- a variable above 31 among these terms
abbrev Above : List Term → Type 0
Above ts = (v : ℕ) × (var v ∈ ts) × (variable_bound ≤ v)

above_append : (ts us : List Term) → Above (ts ++ us) ↔ (Above ts ⊎ Above us)
above_append ts us = (
  λ w. elim (Memᴰ.append_cases ts w.1) [ inl m ↦ inl (w.0, m, w.2) | inr m ↦ inr (w.0, m, w.2) ],
  elim [ inl w ↦ (w.0, Memᴰ.append_left us w.1, w.2) | inr w ↦ (w.0, Memᴰ.append_right ts w.1, w.2) ],
)

above_map : (f : ℕ → Term) (xs : List ℕ) → Above (map f xs) ↔ ((x : ℕ) × (x ∈ xs) × Above (f x ∷ []))
above_map f xs = (
  λ w. let (x, m, e) = Memᴰ.of_map f xs w.1 in (x, m, (w.0, Memᴰ.head (sym e), w.2)),
  λ w. let (v, m, l) = w.2 in (v, Memᴰ.cast (Memᴰ.eq_of_singleton m) (Memᴰ.map f w.1), l),
)

above_places : (f : ℕ → Atom Term) (xs : List ℕ) → Above (places (map f xs)) ↔ ((x : ℕ) × (x ∈ xs) × Above (args (f x)))
above_places f xs = (
  λ w. let (a, m, n) = places_mem (map f xs) w.1 in
      let (x, k, e) = Memᴰ.of_map f xs m in (x, k, (w.0, subst (λ b. var w.0 ∈ args b) (sym e) n, w.2)),
  λ w. let (v, m, l) = w.2 in (v, mem_places (map f xs) (Memᴰ.map f w.1) m, l),
)

above_term : (b : Bool) (n : ℕ) → Above (pick b (var n) (const n) ∷ []) ↔ (T b × (variable_bound ≤ n))
above_term true n = (
  λ w. (let e : var w.0 ≡ var n = Memᴰ.eq_of_singleton w.1 in (let d : w.0 ≡ n = cc in (tt, omega arith))),
  λ w. (n, here, w.1),
)
above_term false n = (
  λ w. absurd (let e : var w.0 ≡ const n = Memᴰ.eq_of_singleton w.1 in let z : ◌≡◌ {A = ℕ} 0 1 = cc in omega arith),
  λ w. absurd w.0,
)

above_atom : {C D : Type 0} (c : Bool) (n : ℕ) (t u : Term) → Tells c C D → Above (args (pick c (concept n t) (role n t u)))
    ↔ (Above (t ∷ []) ⊎ (D × Above (u ∷ [])))
above_atom true n t u h = (inl, elim [ inl a ↦ a | inr a ↦ absurd (h.fail.1 a.0) ])
above_atom false n t u h = Iff.trans (above_append (t ∷ []) (u ∷ [])) (sum_iff Iff.rfl (λ a. (h.fail.0 tt, a), λ a. a.1))

term_sound_tells : (w t : ℕ) → Tells (term_sound w t) (¬ Above (term_of w t ∷ [])) (Above (term_of w t ∷ []))
unfolding term_sound term_of
term_sound_tells w t =
    let parts = or_tells (not_tells (itself (eqb (t / 2 ^ w) 0))) (ltb_tells (t % 2 ^ w) variable_bound) in
    by_fail (term_sound w t) (Iff.trans parts.fail (Iff.symm (above_term (eqb (t / 2 ^ w) 0) (t % 2 ^ w))))

answer_sound_tells : (w x : ℕ) → Tells (answer_sound w x) ((x < 2 ^ (w + 1)) × (¬ Above (term_of w x ∷ []))) ((2 ^ (w + 1) ≤ x)
    ⊎ Above (term_of w x ∷ []))
unfolding answer_sound
answer_sound_tells w x = and_tells (ltb_tells x (2 ^ (w + 1))) (term_sound_tells w x)

atom_sound_tells : (w x : ℕ) → Tells (atom_sound w x) (¬ (AtomBitSet w x ⊎ Above (args (atom_of w x))))
    (AtomBitSet w x ⊎ Above (args (atom_of w x)))
unfolding atom_sound atom_of
atom_sound_tells w x =
    let isConcept = eqb_tells (atom_kind w x) 0 in
    let first : ℕ = atom_first w x in
    let second : ℕ = atom_second w x in
    let parts = and_tells (and_tells (eqb_tells (atom_zero w x) 0) (term_sound_tells w first))
    (pick_tells isConcept (eqb_tells second 0) (term_sound_tells w second)) in
    let above = above_atom (eqb (atom_kind w x) 0) (atom_name w x) (term_of w first) (term_of w second) isConcept in
    by_fail (atom_sound w x) (Iff.trans parts.fail (Iff.trans sum_crossed (sum_iff Iff.rfl (Iff.symm above))))

variables_by_record : (w : ℕ) (s : List ℕ) (at : ℕ)
    → VariableOut w s at ↔ (((x : ℕ) × (x ∈ answer_records w s at) × Above (term_of w x ∷ []))
    ⊎ ((x : ℕ) × (x ∈ atom_records w s at) × Above (args (atom_of w x))))
unfolding query_at
variables_by_record w s at =
    Iff.trans (above_append (map (term_of w) (answer_records w s at)) (places (map (atom_of w) (atom_records w s at))))
    (sum_iff (above_map (term_of w) (answer_records w s at)) (above_places (atom_of w) (atom_records w s at)))

pub question_sound_tells : (w : ℕ) (s : List ℕ) (at : ℕ) → Tells (question_sound w s at) (¬ Malformed w s at) (Malformed w s at)
unfolding question_sound
question_sound_tells w s at =
    let counts = and_tells (and_tells (leb_tells (term_count s at) most_terms) (leb_tells 1 (atom_count s at)))
    (leb_tells (atom_count s at) most_atoms) in
    let parts = and_tells (and_tells counts (all_tells (answer_sound_tells w) (answer_records w s at)))
    (all_tells (atom_sound_tells w) (atom_records w s at)) in
    by_fail (question_sound w s at)
    (Iff.trans parts.fail
    (Iff.trans sum_assoc
    (sum_iff (Iff.trans sum_assoc (sum_iff Iff.rfl (sum_iff (λ l. omega arith, λ e. omega arith) Iff.rfl)))
    (Iff.trans (sum_iff (some_either (answer_records w s at)) (some_either (atom_records w s at)))
    (Iff.trans sum_crossed (sum_iff Iff.rfl (Iff.symm (variables_by_record w s at))))))))

pub refuses3_iff : (w : ℕ) (s : List ℕ) → T (refuses3 w s) ↔ Meets3 w s
unfolding refuses3
refuses3_iff w s =
    Iff.trans (or_tells (not_tells (eqb_tells (length s) (question_length w s 0))) (not_tells (question_sound_tells w s 0))).pass (
      elim [ inl f ↦ inr (inr (inr f)) | inr (inl m) ↦ inl m | inr (inr (inl m)) ↦ inr (inl m) | inr (inr (inr m)) ↦ inr (inr (inl m)) ],
      elim [ inl m ↦ inr (inl m) | inr (inl m) ↦ inr (inr (inl m)) | inr (inr (inl m)) ↦ inr (inr (inr m)) | inr (inr (inr f)) ↦ inl f ],
    )

-- ---- 4

-- the term is a variable that stands in none of the atoms
abbrev Missing : List (Atom Term) → Term → Type 0
Missing atoms t = (v : ℕ) × (t ≡ var v) × (¬ (var v ∈ places atoms))

covered_tells : (atoms : List (Atom Term)) (t : Term) → Tells (covered atoms t) (¬ Missing atoms t) (Missing atoms t)
unfolding covered
covered_tells atoms (var v) =
    by_fail (any (same_term (var v)) (places atoms))
    (Iff.trans (stands_tells same_term same_term_iff (var v) (places atoms)).fail (
      λ f. (v, refl, f),
      λ w m. w.2 (Memᴰ.cast (sym w.1) m),
    ))
covered_tells atoms (const c) =
    by_fail true (λ t. absurd t, λ w. absurd (let e : const c ≡ var w.0 = w.1 in let z : ◌≡◌ {A = ℕ} 0 1 = cc in omega arith))

pub refuses4_iff : (q : Query) → T (refuses4 q) ↔ Meets4 q
unfolding refuses4
refuses4_iff q =
    Iff.trans (all_tells (covered_tells q.atoms) q.answers).fail
    (λ w. (let (v, e, f) = w.2 in (v, Memᴰ.cast (sym e) w.1, f)), λ w. (var w.0, w.1, (w.0, refl, w.2)))

pub not4_safe : (q : Query) → ¬ T (refuses4 q) → Safe q
not4_safe q h v m =
    let stands = stands_tells same_term same_term_iff (var v) (places q.atoms) in
    elim (either (any (same_term (var v)) (places q.atoms))) [
      | inl t ↦ stands.pass.0 t
      | inr f ↦ absurd (h ((refuses4_iff q).1 (v, m, λ n. f (stands.pass.1 n))))
    ]

-- ---- 5

unrepeated_iff : (atoms : List (Atom Term)) → T (not (repeats atoms)) ↔ Unrepeated atoms
unfolding repeats
unrepeated_iff [] = (λ t. tt, λ u. tt)
unrepeated_iff (a ∷ rest) = (or_tells (stands_tells same_atom same_atom_iff a rest) (by_fail (repeats rest) (unrepeated_iff rest))).fail

repeats_twice : (atoms : List (Atom Term)) → T (repeats atoms) → Twice atoms
unfolding repeats
repeats_twice [] t = absurd t
repeats_twice (a ∷ rest) t =
    elim ((T_or (any (same_atom a) rest) (repeats rest)).0 t) [
      | inl h ↦ (let (j, e) = mem_at ((stands_tells same_atom same_atom_iff a rest).pass.0 h) in (0, suc j, a, suc-le-suc zero-le, refl, e))
      | inr h ↦ (let (i, j, b, l, e, f) = repeats_twice rest h in (suc i, suc j, b, suc-le-suc l, e, f))
    ]

twice_repeats : (atoms : List (Atom Term)) (i j : ℕ) (a : Atom Term) → i < j → At atoms i a → At atoms j a → T (repeats atoms)
unfolding repeats
twice_repeats [] i j a l e f = absurd (none≢some e)
twice_repeats (b ∷ rest) i zero a l e f = absurd (not-suc-le-zero l)
twice_repeats (b ∷ rest) zero (suc j) a l e f =
    (T_or (any (same_atom b) rest) (repeats rest)).1
    (inl ((stands_tells same_atom same_atom_iff b rest).pass.1 (Memᴰ.cast (some_inj e) (at_mem rest j f))))
twice_repeats (b ∷ rest) (suc i) (suc j) a l e f =
    (T_or (any (same_atom b) rest) (repeats rest)).1 (inr (twice_repeats rest i j a (le_of_suc-le-suc l) e f))

pub refuses5_twice : (q : Query) → T (refuses5 q) ↔ Meets5 q
unfolding refuses5
refuses5_twice q = (repeats_twice q.atoms, λ (i, j, a, l, e, f). twice_repeats q.atoms i j a l e f)

pub refuses5_iff : (q : Query) → T (refuses5 q) ↔ (¬ Unrepeated q.atoms)
unfolding refuses5
refuses5_iff q = (by_fail (repeats q.atoms) (unrepeated_iff q.atoms)).pass

pub not5_unrepeated : (q : Query) → ¬ T (refuses5 q) → Unrepeated q.atoms
unfolding refuses5
not5_unrepeated q h = (unrepeated_iff q.atoms).0 ((T_no (repeats q.atoms)).1 h)

-- ---- what a question that meets none of these is good for

pub not3_iff : (w : ℕ) (s : List ℕ) → (¬ T (refuses3 w s)) ↔ ((¬ Malformed w s 0) × (length s ≡ question_length w s 0))
unfolding refuses3
not3_iff w s =
    Iff.trans (Iff.symm (T_no (refuses3 w s)))
    (Iff.trans (or_tells (not_tells (eqb_tells (length s) (question_length w s 0))) (not_tells (question_sound_tells w s 0))).fail
    (λ h. (h.1, h.0), λ h. (h.1, h.0)))

module _ (w : ℕ) (s : List ℕ) (at : ℕ) (sound : ¬ Malformed w s at) where
  pub counts_in_range : (term_count s at ≤ most_terms) × (1 ≤ atom_count s at) × (atom_count s at ≤ most_atoms)
  counts_in_range = (
    elim (lt_or_le most_terms (term_count s at)) [ inl l ↦ absurd (sound (inl (inl l))) | inr l ↦ l ],
    elim (lt_or_le 0 (atom_count s at)) [ inl l ↦ l | inr l ↦ absurd (sound (inl (inr (inl (omega arith))))) ],
    elim (lt_or_le most_atoms (atom_count s at)) [ inl l ↦ absurd (sound (inl (inr (inr l)))) | inr l ↦ l ],
  )

  pub variables_in_range : (partners : List ℕ) (v : ℕ) → var v ∈ terms (query_as_read partners (query_at w s at)) → v < variable_bound
  variables_in_range partners v m =
      elim (lt_or_le 31 v) [
        | inl l ↦ absurd
            (sound (inr (inr (v, (terms_as_read partners (query_at w s at)).0 m, l))))
        | inr l ↦ suc-le-suc l
      ]

-- as many answer terms and atoms as the counts say
pub query_arity : (partners : List ℕ) (w : ℕ) (s : List ℕ) (at : ℕ) → length (query_as_read partners (query_at w s at)).answers
    ≡ term_count s at
unfolding query_as_read query_at records_from
query_arity partners w s at = length-map (answer_records w s at) (term_of w) ∙ numbered_length _ (term_count s at)

pub query_size : (partners : List ℕ) (w : ℕ) (s : List ℕ) (at : ℕ) → length (query_as_read partners (query_at w s at)).atoms
    ≡ atom_count s at
unfolding query_as_read query_at records_from
query_size partners w s at =
    length-map (map (atom_of w) (atom_records w s at)) (atom_as_read partners) ∙ length-map (atom_records w s at) (atom_of w)
    ∙ numbered_length _ (atom_count s at)

pub question_arity : (partners : List ℕ) (w : ℕ) (s : List ℕ) → length (question_as_read partners w s).answers ≡ term_count s 0
unfolding question_as_read
question_arity partners w s = query_arity partners w s 0
