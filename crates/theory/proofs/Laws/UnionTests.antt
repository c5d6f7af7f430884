-- Each of the tests that the check of a union makes decides the condition of its refusal.
use Rattle.std.specs.Prelude.{◌≡◌, refl, ◌⊎◌, ◌↔◌, ◌≢◌, ℕ, zero, suc, ◌+◌, ◌<◌, Bool, not, ◌&&◌, List, [], ◌∷◌, T, eqb, drop}
use Rattle.std.proofs.Common.{sym, ap, ◌∙◌, subst, inl, inr, arith}
use Rattle.std.proofs.Math.Option.{Option, none, some}
use Rattle.std.proofs.Math.ListN.{get_elem?}
use Rattle.theory.specs.Lists.{◌∈◌, At, any, pairwise, is_some}
use Rattle.theory.specs.Syntax.{Term, Atom, Rule, Query, Step, Member, UCQ, same_term, same_atom}
use Rattle.theory.specs.Rewriting.{steps}
use Rattle.theory.specs.Renaming.{Alike, alike}
use Rattle.theory.specs.Union.{yield, no_step, Meets7, Meets8, Meets9, Meets10, Meets11, same_query, zero_step, any_from, yields_unlike}
use Rattle.theory.specs.Union.{refuses7, refuses8, refuses9, refuses10, refuses11}
use Rattle.theory.specs.Laws.Options.{T_and, T_or, T_no, T_eqb, either, some_inj, none≢some}
use Rattle.theory.specs.Laws.Lists.{any_decides, pairwise_iff, at_mem, mem_at, at_lt, at_unique}
use Rattle.theory.proofs.Laws.Syntax.{same_term_iff, same_atom_iff}
use Rattle.theory.proofs.Laws.Steps.{steps_iff}
use Rattle.theory.proofs.Laws.RenamingDecided.{alike_iff}
use Rattle.theory.proofs.Laws.WrittenStep.{yield_iff, Refused, step_refused_iff}

-- ---- the first member

pub zero_step_iff : (s : Step) → T (zero_step s) ↔ (s ≡ no_step)
unfolding zero_step
zero_step_iff s = (
  λ t. let c = (T_and (eqb s.kind 0 && eqb s.parent 0 && eqb s.atom 0) (eqb s.other 0)).0 t in
      let b = (T_and (eqb s.kind 0 && eqb s.parent 0) (eqb s.atom 0)).0 c.0 in
      let a = (T_and (eqb s.kind 0) (eqb s.parent 0)).0 b.0 in
      λ i. record {
        kind = (T_eqb s.kind 0).0 a.0 i;
        parent = (T_eqb s.parent 0).0 a.1 i;
        atom =
            (T_eqb s.atom 0).0 b.1 i;
        other = (T_eqb s.other 0).0 c.1 i;
      },
  λ e. subst (λ r. T (zero_step r)) (sym e) tt,
)

same_terms_iff : (ts us : List Term) → T (pairwise same_term ts us) ↔ (ts ≡ us)
same_terms_iff = pairwise_iff same_term same_term_iff

same_atoms_iff : (cs ds : List (Atom Term)) → T (pairwise same_atom cs ds) ↔ (cs ≡ ds)
same_atoms_iff = pairwise_iff same_atom same_atom_iff

pub same_query_iff : (p q : Query) → T (same_query p q) ↔ ((p.answers ≡ q.answers) × (p.atoms ≡ q.atoms))
unfolding same_query
same_query_iff p q = (
  λ t. let s = (T_and (pairwise same_term p.answers q.answers) (pairwise same_atom p.atoms q.atoms)).0 t in
      ((same_terms_iff p.answers q.answers).0 s.0, (same_atoms_iff p.atoms q.atoms).0 s.1),
  λ e. (T_and (pairwise same_term p.answers q.answers) (pairwise same_atom p.atoms q.atoms)).1
      ((same_terms_iff p.answers q.answers).1 e.0, (same_atoms_iff p.atoms q.atoms).1 e.1),
)

-- the query with no step beside it, and what differs from it
abbrev pub start : Query → Member
start q = record { step = no_step; query = q }

abbrev Differs : Query → Member → Type 0
Differs q m = (m.step ≢ no_step) ⊎ ((m.query.answers ≢ q.answers) ⊎ (m.query.atoms ≢ q.atoms))

start_path : (q : Query) (m : Member) → m.step ≡ no_step → m.query.answers ≡ q.answers → m.query.atoms ≡ q.atoms → m ≡ start q
start_path q m e f g i = record { step = e i; query = record { answers = f i; atoms = g i } }

is_start_iff : (q : Query) (m : Member) → T (zero_step m.step && same_query m.query q) ↔ (m ≡ start q)
is_start_iff q m = (
  λ t. let s = (T_and (zero_step m.step) (same_query m.query q)).0 t in
      let e = (same_query_iff m.query q).0 s.1 in start_path q m ((zero_step_iff m.step).0 s.0) e.0 e.1,
  λ e. (T_and (zero_step m.step) (same_query m.query q)).1 (
    (zero_step_iff m.step).1 (ap (λ (n : Member). n.step) e),
    (same_query_iff m.query q).1 (ap (λ (n : Member). n.query.answers) e, ap (λ (n : Member). n.query.atoms) e),
  ),
)

-- a union meets 7 or begins with the query, and not both
pub meets7_or_start : (q : Query) (union : UCQ) → Meets7 q union ⊎ At union 0 (start q)
meets7_or_start q [] = inl (inl refl)
meets7_or_start q (m ∷ ms) =
    elim (either (zero_step m.step)) [
      | inr f ↦ differs (inl (λ e. f ((zero_step_iff m.step).1 e)))
      | inl s ↦ elim (either (pairwise same_term m.query.answers q.answers)) [
        | inr f ↦ differs (inr (inl (λ e. f ((same_terms_iff m.query.answers q.answers).1 e))))
        | inl a ↦ elim (either (pairwise same_atom m.query.atoms q.atoms)) [
          | inr f ↦ differs (inr (inr (λ e. f ((same_atoms_iff m.query.atoms q.atoms).1 e))))
          | inl b ↦ inr (ap some (start_path q m ((zero_step_iff m.step).0 s) ((same_terms_iff m.query.answers q.answers).0 a)
              ((same_atoms_iff m.query.atoms q.atoms).0 b)))
        ]
      ]
    ]
  where
    differs : Differs q m → Meets7 q (m ∷ ms) ⊎ At (m ∷ ms) 0 (start q)
    differs d = inl (inr (m, refl, d))

pub meets7_not_start : (q : Query) (union : UCQ) → Meets7 q union → ¬ At union 0 (start q)
meets7_not_start q union (inl e) h = none≢some (sym (ap (λ (us : UCQ). get_elem? us 0) e) ∙ h)
meets7_not_start q union (inr w) h =
    elim (subst (Differs q) (at_unique union 0 w.1 h) w.2) [ inl n ↦ n refl | inr (inl n) ↦ n refl | inr (inr n) ↦ n refl ]

-- ---- the members after the first

-- a test passes on some member from number k on: the member at index i has the number j
any_from_found : (test : ℕ → Member → Bool) (k : ℕ) (ms : UCQ) → T (any_from test k ms) → (i j : ℕ) × (m : Member) × (j ≡ k + i) × At ms i m
    × T (test j m)
unfolding any_from
any_from_found test k [] t = absurd t
any_from_found test k (m ∷ ms) t =
    elim ((T_or (test k m) (any_from test (suc k) ms)).0 t) [
      | inl h ↦ (zero, k, m, omega arith, refl, h)
      | inr h ↦ (let r = any_from_found test (suc k) ms h in (suc r.0, r.1, r.2, omega arith, r.4, r.5))
    ]

any_from_of : (test : ℕ → Member → Bool) (k : ℕ) (ms : UCQ) (i j : ℕ) {m : Member} → j ≡ k + i → At ms i m → T (test j m)
    → T (any_from test k ms)
unfolding any_from
any_from_of test k [] i j e h t = absurd (none≢some h)
any_from_of test k (n ∷ ms) zero j {m} e h t =
    (T_or (test k n) (any_from test (suc k) ms)).1
    (inl (subst (λ x. T (test k x)) (sym (some_inj h)) (subst (λ (l : ℕ). T (test l m)) (let d : j ≡ k = omega arith in d) t)))
any_from_of test k (n ∷ ms) (suc i) j {m} e h t =
    (T_or (test k n) (any_from test (suc k) ms)).1 (inr (any_from_of test (suc k) ms i j (omega arith) h t))

-- a test that decides P of the members after the first
any_later_iff : (test : ℕ → Member → Bool) (P : ℕ → Member → Type 0) (union : UCQ)
    → ((k : ℕ) (m : Member) → At union k m → T (test k m) ↔ P k m) → T (any_from test 1 (drop 1 union))
    ↔ ((k : ℕ) × (m : Member) × (0 < k) × At union k m × P k m)
any_later_iff test P [] decides = (λ t. absurd (none≢some (any_from_found test 1 [] t).4), λ w. absurd (none≢some w.3))
any_later_iff test P (n ∷ ms) decides =
    (λ t. found (any_from_found test 1 ms t), λ w. of w.0 w.2 w.3 ((decides w.0 w.1 w.3).1 w.4))
  where
    found : (i j : ℕ) × (m : Member) × (j ≡ 1 + i) × At ms i m × T (test j m) → (k : ℕ) × (m : Member) × (0 < k) × At (n ∷ ms) k m × P k m
    found r =
        let h : At (n ∷ ms) r.1 r.2 = subst (λ (k : ℕ). At (n ∷ ms) k r.2) (let e : suc r.0 ≡ r.1 = omega arith in e) r.4 in
        (r.1, r.2, omega arith, h, (decides r.1 r.2 h).0 r.5)

    of : (k : ℕ) {m : Member} → 0 < k → At (n ∷ ms) k m → T (test k m) → T (any_from test 1 ms)
    of zero l h t = absurd (omega arith)
    of (suc k) l h t = any_from_of test 1 ms k (suc k) (omega arith) h t

-- ---- each test decides its condition

-- 7
pub refuses7_iff : (rules : List Rule) (q : Query) (union : UCQ) → T (refuses7 rules q union) ↔ Meets7 q union
unfolding refuses7
refuses7_iff rules q [] = (λ t. inl refl, λ w. tt)
refuses7_iff rules q (m ∷ ms) = (
  λ t. elim (meets7_or_start q (m ∷ ms)) [
    | inl w ↦ w
    | inr e ↦ absurd ((T_no (zero_step m.step && same_query m.query q)).0 t ((is_start_iff q m).1 (some_inj e)))
  ],
  λ w. (T_no (zero_step m.step && same_query m.query q)).1 (λ t. meets7_not_start q (m ∷ ms) w (ap some ((is_start_iff q m).0 t))),
)

-- 8
pub refuses8_iff : (rules : List Rule) (q : Query) (union : UCQ) → T (refuses8 rules q union) ↔ Meets8 rules union
unfolding refuses8
refuses8_iff rules q union =
    any_later_iff (λ k m. not (is_some (yield rules union k m.step))) (λ k m. Refused rules union k m.step) union
    (λ k m h. step_refused_iff rules union k m.step (at_lt union k h))

-- 9
yields_unlike_iff : (o : Option Query) (q : Query) → T (yields_unlike o q) ↔ ((r : Query) × (o ≡ some r) × (¬ Alike r q))
unfolding yields_unlike
yields_unlike_iff none q = (λ t. absurd t, λ w. absurd (none≢some w.1))
yields_unlike_iff (some r) q = (
  λ t. (r, refl, λ h. (T_no (alike r q)).0 t ((alike_iff r q).1 h)),
  λ w. (T_no (alike r q)).1 (λ t. w.2 (subst (λ p. Alike p q) (some_inj w.1) ((alike_iff r q).0 t))),
)

pub refuses9_iff : (rules : List Rule) (q : Query) (union : UCQ) → T (refuses9 rules q union) ↔ Meets9 rules union
unfolding refuses9
refuses9_iff rules q union = (
  λ t. let w = each.0 t in let y = w.4 in
      (w.0, w.1, y.0, w.2, w.3, (yield_iff rules union w.0 w.1.step y.0).0 y.1, y.2),
  λ w. each.1 (w.0, w.1, w.3, w.4, (w.2, (yield_iff rules union w.0 w.1.step w.2).1 w.5, w.6)),
)
  where
    each : T (refuses9 rules q union)
        ↔ ((k : ℕ) × (m : Member) × (0 < k) × At union k m
        × ((r : Query) × (yield rules union k m.step ≡ some r) × (¬ Alike r m.query)))
    each =
        any_later_iff (λ k m. yields_unlike (yield rules union k m.step) m.query) (λ k m. (r : Query)
        × (yield rules union k m.step ≡ some r) × (¬ Alike r m.query)) union
        (λ k m h. yields_unlike_iff (yield rules union k m.step) m.query)

-- some member is alike
pub some_alike_iff : (r : Query) (union : UCQ) → T (any (λ n. alike r n.query) union) ↔ ((n : Member) × (n ∈ union) × Alike r n.query)
some_alike_iff r union = any_decides (λ n. alike r n.query) (λ n. Alike r n.query) union (λ n. alike_iff r n.query)

-- 10
pub refuses10_iff : (rules : List Rule) (q : Query) (union : UCQ) → T (refuses10 rules q union) ↔ Meets10 union
unfolding refuses10
refuses10_iff rules q union = (found union, λ w. of union w.0 w.1 w.4 w.5 w.6 w.7)
  where
    found : (us : UCQ) → T (refuses10 rules q us) → Meets10 us
    found [] t = absurd t
    found (m ∷ ms) t =
        elim ((T_or (any (λ n. alike m.query n.query) ms) (refuses10 rules q ms)).0 t) [
          | inl h ↦ (let w = (some_alike_iff m.query ms).0 h in let n = mem_at w.1 in
              (zero, suc n.0, m, w.0, omega arith, refl, n.1, w.2))
          | inr h ↦ (let w = found ms h in (suc w.0, suc w.1, w.2, w.3, omega arith, w.5, w.6, w.7))
        ]

    of : (us : UCQ) (i j : ℕ) {m n : Member} → i < j → At us i m → At us j n → Alike m.query n.query → T (refuses10 rules q us)
    of [] i j l h k a = absurd (none≢some h)
    of (o ∷ os) i zero l h k a = absurd (omega arith)
    of (o ∷ os) zero (suc j) {m} {n} l h k a =
        (T_or (any (λ x. alike o.query x.query) os) (refuses10 rules q os)).1
        (inl ((some_alike_iff o.query os).1 (n, at_mem os j k, subst (λ (x : Member). Alike x.query n.query) (sym (some_inj h)) a)))
    of (o ∷ os) (suc i) (suc j) l h k a =
        (T_or (any (λ x. alike o.query x.query) os) (refuses10 rules q os)).1 (inr (of os i j (omega arith) h k a))

-- 11
pub refuses11_iff : (rules : List Rule) (q : Query) (union : UCQ) → T (refuses11 rules q union) ↔ Meets11 rules union
unfolding refuses11
refuses11_iff rules q union = (
  λ t. let w = each.0 t in let y = w.2 in (w.0, y.0, w.1, (steps_iff rules w.0.query y.0).0 y.1, y.2),
  λ w. each.1 (w.0, w.2, (w.1, (steps_iff rules w.0.query w.1).1 w.3, w.4)),
)
  where
    Outside : Query → Type 0
    Outside r = (n : Member) → n ∈ union → ¬ Alike r n.query

    each : T (refuses11 rules q union) ↔ ((m : Member) × (m ∈ union) × ((r : Query) × (r ∈ steps rules m.query) × Outside r))
    each =
        any_decides (λ m. any (λ r. not (any (λ n. alike r n.query) union)) (steps rules m.query)) (λ m. (r : Query)
        × (r ∈ steps rules m.query) × Outside r) union
        (λ m. any_decides (λ r. not (any (λ n. alike r n.query) union)) Outside (steps rules m.query)
        (λ r. (
          λ t n h a. (T_no (any (λ n. alike r n.query) union)).0 t ((some_alike_iff r union).1 (n, h, a)),
          λ f. (T_no (any (λ n. alike r n.query) union)).1 (λ t. let w = (some_alike_iff r union).0 t in f w.0 w.1 w.2),
        )))
