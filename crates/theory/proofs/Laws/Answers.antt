-- The answers of a union: they are the first reader's, ascending without repeats, and so fixed by which facts there are.
use Rattle.std.specs.Prelude.{◌≡◌, refl, ◌⊎◌, ◌↔◌, ℕ, zero, ◌<◌, ◌&&◌, T, eqb, ltb}
use Rattle.std.proofs.Common.{sym, ap₂, ◌∙◌, subst, inl, inr, arith, ltb→lt, lt→ltb}
use mathlib.Core.List.{List, [], ◌∷◌, flat_map}
use Rattle.theory.specs.Lists.{◌∈◌}
use Rattle.theory.specs.Syntax.{Member, UCQ, Fact}
use Rattle.theory.specs.Chase.{Round, FirstReader}
use Rattle.theory.specs.Union.{Safe}
use Rattle.theory.specs.Evaluation.{found, before, Before, insert_tuple, answers_of}
use Rattle.theory.specs.Laws.Options.{pick_true, pick_false, T_and, T_or, T_eqb, three_ways}
use Rattle.theory.specs.Laws.Lists.{flat_map_found, flat_map_of}
use Rattle.theory.specs.Laws.Ascending.{Ascending, Inserts, ascending_unique, inserted_mem, mem_inserted, inserted_ascending}
use Rattle.theory.proofs.Laws.Chase.{answer_more}
use Rattle.theory.proofs.Laws.Matches.{found_iff}

-- ---- the order of tuples

-- 01: "ordered by first object, then the next"
pub before_cons : (x y : ℕ) (xs ys : List ℕ) → T (before (x ∷ xs) (y ∷ ys)) ↔ ((x < y) ⊎ ((x ≡ y) × T (before xs ys)))
unfolding before
before_cons x y xs ys = (
  λ t. elim ((T_or (ltb x y) (eqb x y && before xs ys)).0 t) [
    | inl l ↦ inl (ltb→lt x y l)
    | inr r ↦ (let s = (T_and (eqb x y) (before xs ys)).0 r in inr ((T_eqb x y).0 s.0, s.1))
  ],
  λ c. (T_or (ltb x y) (eqb x y && before xs ys)).1 (elim c [
    | inl l ↦ inl (lt→ltb x y l)
    | inr r ↦ inr ((T_and (eqb x y) (before xs ys)).1 ((T_eqb x y).1 r.0, r.1))
  ]),
)

pub before_first : (x y : ℕ) (xs ys : List ℕ) → x < y → T (before (x ∷ xs) (y ∷ ys))
before_first x y xs ys l = (before_cons x y xs ys).1 (inl l)

pub before_next : (x : ℕ) (xs ys : List ℕ) → T (before xs ys) → T (before (x ∷ xs) (x ∷ ys))
before_next x xs ys t = (before_cons x x xs ys).1 (inr (refl, t))

-- it is a strict order of all tuples
pub before_irreflexive : (t : List ℕ) → ¬ T (before t t)
unfolding before
before_irreflexive [] b = b
before_irreflexive (x ∷ xs) b = elim ((before_cons x x xs xs).0 b) [ inl l ↦ omega arith | inr r ↦ before_irreflexive xs r.1 ]

pub before_transitive : (s t u : List ℕ) → T (before s t) → T (before t u) → T (before s u)
unfolding before
before_transitive [] [] u b c = absurd b
before_transitive [] (y ∷ ys) [] b c = c
before_transitive [] (y ∷ ys) (z ∷ zs) b c = tt
before_transitive (x ∷ xs) [] u b c = absurd b
before_transitive (x ∷ xs) (y ∷ ys) [] b c = absurd c
before_transitive (x ∷ xs) (y ∷ ys) (z ∷ zs) b c =
    (before_cons x z xs zs).1 (elim ((before_cons x y xs ys).0 b) [
      | inl l ↦ elim ((before_cons y z ys zs).0 c) [ inl k ↦ inl (omega arith) | inr k ↦ inl (omega arith) ]
      | inr l ↦ elim ((before_cons y z ys zs).0 c) [
        | inl k ↦ inl (omega arith)
        | inr k ↦ inr (l.0 ∙ k.0, before_transitive xs ys zs l.1 k.1)
      ]
    ])

pub before_total : (s t : List ℕ) → T (before s t) ⊎ ((s ≡ t) ⊎ T (before t s))
unfolding before
before_total [] [] = inr (inl refl)
before_total [] (y ∷ ys) = inl tt
before_total (x ∷ xs) [] = inr (inr tt)
before_total (x ∷ xs) (y ∷ ys) =
    elim (three_ways x y) [
      | inl l ↦ inl (before_first x y xs ys l)
      | inr (inl e) ↦ elim (before_total xs ys) [
        | inl b ↦ inl ((before_cons x y xs ys).1 (inr (e, b)))
        | inr (inl d) ↦ inr (inl (ap₂ ◌∷◌ e d))
        | inr (inr b) ↦ inr (inr ((before_cons y x ys xs).1 (inr (sym e, b))))
      ]
      | inr (inr l) ↦ inr (inr (before_first y x ys xs l))
    ]

-- ---- a tuple put in its place

pub insert_tuple_inserts : Inserts Before insert_tuple
unfolding insert_tuple
insert_tuple_inserts = (
  λ t. refl,
  λ t u us P first later there. elim (before_total t u) [
    | inl b ↦ subst P (sym (pick_true (before t u) _ _ b)) (first b)
    | inr (inl e) ↦ subst P (sym (
        pick_false (before t u) _ _ (λ b. before_irreflexive u (subst (λ s. Before s u) e b))
        ∙ pick_false (before u t) _ _ (λ b. before_irreflexive u (subst (λ s. Before u s) e b))
        )) (there e)
    | inr (inr b) ↦ subst P (sym (pick_false (before t u) _ _ (λ c. before_irreflexive t (before_transitive t u t c b))
        ∙ pick_true (before u t) _ _ b)) (later b)
  ],
)

-- ---- the laws

-- the answers are the first reader's
pub answers_iff : (facts : List Fact) (union : UCQ) → ((m : Member) → m ∈ union → Safe m.query) → (t : List ℕ)
    → (t ∈ answers_of facts union) ↔ FirstReader union facts t
unfolding answers_of
answers_iff facts union safe t =
    let find : Member → List (List ℕ) = λ m. found facts m.query in (
      λ a. (let r = flat_map_found find union (inserted_mem Before insert_tuple insert_tuple_inserts (flat_map find union) a) in
          let w = (found_iff facts r.0.query (safe r.0 r.1) t).0 r.2 in
          (w.0, (r.0, r.1, w.1))),
      λ (may, (m, k, w)). mem_inserted Before insert_tuple insert_tuple_inserts
          (flat_map_of find k ((found_iff facts m.query (safe m k) t).1 (may, w))),
    )

-- 01: "ordered by first object, then the next, each tuple once"
pub answers_ascending : (facts : List Fact) (union : UCQ) → Ascending Before (answers_of facts union)
unfolding answers_of
answers_ascending facts union =
    inserted_ascending Before insert_tuple insert_tuple_inserts before_transitive (flat_map (λ m. found facts m.query) union)

-- more facts, no fewer answers
more_facts : {facts facts' : List Fact} → ((f : Fact) → f ∈ facts → f ∈ facts') → (union : UCQ) (t : List ℕ) → FirstReader union facts t
    → FirstReader union facts' t
more_facts {facts} {facts'} g union t (may, (m, k, r)) =
    (may, (m, k, answer_more (Round [] facts zero) (Round [] facts' zero) (λ a w. (w.0, g w.0 w.1, w.2)) m.query t r))

-- nothing depends on the order or the repetition of the facts
pub answers_same_facts : (facts facts' : List Fact) (union : UCQ) → ((m : Member) → m ∈ union → Safe m.query)
    → ((f : Fact) → (f ∈ facts) ↔ (f ∈ facts')) → answers_of facts union ≡ answers_of facts' union
answers_same_facts facts facts' union safe g =
    ascending_unique Before before_irreflexive before_transitive (answers_of facts union) (answers_of facts' union)
    (answers_ascending facts union) (answers_ascending facts' union)
    (λ t. (
      λ m. (answers_iff facts' union safe t).1 (more_facts (λ f. (g f).0) union t ((answers_iff facts union safe t).0 m)),
      λ m. (answers_iff facts union safe t).1 (more_facts (λ f. (g f).1) union t ((answers_iff facts' union safe t).0 m)),
    ))
