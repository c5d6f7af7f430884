-- The test of a partial renaming: what the loops over the words of two queries compute is what the definition says.
use mathlib.Core.Path.{◌≡◌, refl, sym, ap, ◌∙◌, subst}
use Prim.Native.Nat.{ℕ, ◌%◌, ◌≤◌, ◌<◌}
use native.Mathlib.Decide.{dec_lt}
use native.Mathlib.Omega.{arith}
use mathlib.Core.Bool.{Bool, true, false, not, ◌&&◌, and-true, and_assoc}
use lib.Dec.{T, eqb}
use lib.ListN.{length, get_or}
use borrow.Author.Rules.{rules}
use borrow.Author.Tests.{eq-eqb, ne_eqb, eqb-true, eqb-false}
use Rattle.theory.specs.Lists.{pick, any, all, pairwise}
use Rattle.theory.specs.Syntax.{Term, var, const, concept, role, Query, on_atoms}
use Rattle.theory.specs.Renaming.{promising}
use Rattle.theory.specs.Laws.Options.{T_and, T_eqb, is_true, same_test}
use Rattle.theory.proofs.Laws.Spellings.{spellings}
use Rattle.words.specs.Records.{atom_of}
use Rattle.words.specs.Words.{
  Small,
  word_term,
  word_atom,
  word_kind,
  word_name,
  word_first,
  word_second,
  LowTerm,
  LowAtom,
  first_of,
  second_of,
}
use Rattle.words.specs.Laws.Scans.{query_scans}
use Rattle.words.specs.declared.QueryWords.{QueryWords}
use Rattle.words.specs.Laws.LowVariables.{answer_low, atom_low, first_low, second_low}
use Rattle.words.specs.Laws.LowVariables.{variable_word, object_high, object_term, word_below}
use Rattle.words.specs.Limits.{word_object_bound, word_term_bound}
use Rattle.query_sets.specs.Sets.{holds}
use Rattle.query_partial.specs.Partial.{entry, may_become}
use Rattle.query_partial.specs.Partial.{same_predicate}
use Rattle.query_partial.specs.declared.Partial.{Partial}

-- ---- terms

module _ (m : Partial) (v w u : ℕ) (e : u ≡ entry m v) where
  pub unassigned_may : (b : Bool) → u ≡ 32 → b ≡ holds m.taken w → not b ≡ may_become m (var v) (var w)
  unfolding may_become
  unassigned_may b z h = simp (eq-eqb (entry m v) 32 (cc), h)

  pub assigned_may : (u ≡ 32 → ⊥) → eqb u w ≡ may_become m (var v) (var w)
  unfolding may_become
  assigned_may z = simp (ne_eqb (entry m v) 32 (λ y. z (e ∙ y)), e)

module _ (m : Partial) (s t : ℕ) where
  pub variables_may : (b : Bool) → s < 32 → t < 32 → b ≡ may_become m (var s) (var t) → b ≡ may_become m (word_term s) (word_term t)
  variables_may b hs ht e = simp (variable_word s (omega arith), variable_word t (omega arith)) e

  module _ (ls : LowTerm s) (lt : LowTerm t) (bs : s < word_term_bound) (bt : t < word_term_bound) where
    pub variable_object : s < 32 → 32 ≤ t → false ≡ may_become m (word_term s) (word_term t)
    unfolding may_become
    variable_object hs ht = simp (variable_word s (omega arith), object_term t lt ht)

    pub object_may : 32 ≤ s → eqb s t ≡ may_become m (word_term s) (word_term t)
    unfolding may_become
    object_may hs = simp (object_term s ls hs) (elim (dec_lt t 32) [ yes ht ↦ to_variable ht | no ht ↦ to_object (omega arith) ])
      where
        to_variable : t < 32 → eqb s t ≡ may_become m (const (s % word_object_bound)) (word_term t)
        to_variable ht = simp (variable_word t (omega arith)) (ne_eqb s t (omega arith))

        to_object : 32 ≤ t → eqb s t ≡ may_become m (const (s % word_object_bound)) (word_term t)
        to_object ht =
            let x = object_high s ls hs in
            let y = object_high t lt ht in
            simp (object_term t lt ht)
            (same_test (eqb s t) (eqb (s % word_object_bound) (t % word_object_bound)) (
              λ h. (T_eqb (s % word_object_bound) (t % word_object_bound)).1 (ap (λ n. n % word_object_bound) ((T_eqb s t).0 h)),
              λ h. (T_eqb s t).1 (let e = (T_eqb (s % word_object_bound) (t % word_object_bound)).0 h in omega arith),
            ))

-- ---- atoms

-- a test on two atoms with kinds k and l
on_atoms_lem : (test : Term → Term → Bool) (k l n j : ℕ) (s t u v : Term) → k < 2 → l < 2
    → on_atoms test (pick (eqb k 0) (concept n s) (role n s u)) (pick (eqb l 0) (concept j t) (role j t v))
    ≡ (eqb k l && eqb n j && (test s t && pick (eqb k 0) true (test u v)))
unfolding on_atoms
on_atoms_lem test k l n j s t u v hk hl = go (eqb k 0) (eqb l 0) refl refl
  where
    go : (x y : Bool) → eqb k 0 ≡ x → eqb l 0 ≡ y
        → on_atoms test (pick x (concept n s) (role n s u)) (pick y (concept j t) (role j t v))
        ≡ (eqb k l && eqb n j && (test s t && pick x true (test u v)))
    go true true e f = simp (eq-eqb k l (eqb-true k 0 e ∙ sym (eqb-true l 0 f)), and-true)
    go true false e f = simp (ne_eqb k l (λ z. eqb-false l 0 f (sym z ∙ eqb-true k 0 e)))
    go false true e f = simp (ne_eqb k l (λ z. eqb-false k 0 e (z ∙ eqb-true l 0 f)))
    go false false e f = simp (eq-eqb k l (omega (arith, eqb-false k 0 e, eqb-false l 0 f)), and_assoc)

on_words : (test : Term → Term → Bool) (a b : ℕ) → on_atoms test (word_atom a) (word_atom b)
    ≡ (eqb (word_kind a) (word_kind b) && eqb (word_name a) (word_name b)
    && (test (first_of a) (first_of b) && pick (eqb (word_kind a) 0) true (test (second_of a) (second_of b))))
unfolding atom_of
on_words test a b =
    on_atoms_lem test (word_kind a) (word_kind b) (word_name a) (word_name b) (first_of a) (first_of b) (second_of a) (second_of b)
    (omega arith)
    (omega arith)

-- two predicates are one where kind and number are
predicate_words : (a b : ℕ) → same_predicate (word_atom a) (word_atom b)
    ≡ (eqb (word_kind a) (word_kind b) && eqb (word_name a) (word_name b))
unfolding same_predicate
predicate_words a b = on_words (λ s t. true) a b ∙ simp (pick_same, and-true)
  where
    pick_same : (c : Bool) → pick c true true ≡ true
    pick_same true = refl
    pick_same false = refl

module _ (a b k l : ℕ) (ka : k ≡ word_kind a) (lb : l ≡ word_kind b) where
  pub kinds_differ : (k ≡ l → ⊥) → false ≡ same_predicate (word_atom a) (word_atom b)
  kinds_differ d = sym (predicate_words a b ∙ simp (ne_eqb (word_kind a) (word_kind b) (λ z. d (cc))))

  pub numbers_decide : (n j : ℕ) → k ≡ l → n ≡ word_name a → j ≡ word_name b → eqb n j ≡ same_predicate (word_atom a) (word_atom b)
  numbers_decide n j e na jb = sym (predicate_words a b ∙ simp (eq-eqb (word_kind a) (word_kind b) (cc), sym na, sym jb))

module _ (a b : ℕ) (same : same_predicate (word_atom a) (word_atom b) ≡ true) where
  tests : T (eqb (word_kind a) (word_kind b)) × T (eqb (word_name a) (word_name b))
  tests = (T_and (eqb (word_kind a) (word_kind b)) (eqb (word_name a) (word_name b))).0 (subst T (sym same ∙ predicate_words a b) tt)

  pub second_low_too : (k g : ℕ) → k ≡ word_kind a → LowAtom b → (k ≡ 0 → ⊥) → g ≡ word_second b → LowTerm g
  second_low_too k g ka low z e = second_low b g k low (ka ∙ (T_eqb (word_kind a) (word_kind b)).0 tests.0) z e

  terms_decide : (m : Partial)
      → on_atoms (may_become m) (word_atom a) (word_atom b)
      ≡ (may_become m (first_of a) (first_of b) && pick (eqb (word_kind a) 0) true (may_become m (second_of a) (second_of b)))
  terms_decide m =
      on_words (may_become m) a b
      ∙ simp (is_true (eqb (word_kind a) (word_kind b)) tests.0, is_true (eqb (word_name a) (word_name b)) tests.1)

  module _ (m : Partial) (f g : ℕ) (r : Bool) (fa : f ≡ word_first a) (gb : g ≡ word_first b)
      (h : r ≡ may_become m (word_term f) (word_term g))
    where
      pub first_against : r ≡ false → false ≡ on_atoms (may_become m) (word_atom a) (word_atom b)
      first_against e = sym (terms_decide m ∙ simp (sym fa, sym gb, sym h, e))

      module _ (k : ℕ) (ka : k ≡ word_kind a) (e : r ≡ true) where
        pub one_place : k ≡ 0 → true ≡ on_atoms (may_become m) (word_atom a) (word_atom b)
        one_place z = sym (terms_decide m ∙ simp (sym fa, sym gb, sym h, e, eq-eqb (word_kind a) 0 (cc)))

        pub two_places : (s t : ℕ) (c : Bool) → (k ≡ 0 → ⊥) → s ≡ word_second a → t ≡ word_second b
            → c ≡ may_become m (word_term s) (word_term t)
            → c ≡ on_atoms (may_become m) (word_atom a) (word_atom b)
        two_places s t c z sa tb i =
            i ∙ sym (terms_decide m ∙ simp (sym fa, sym gb, sym h, e, ne_eqb (word_kind a) 0 (λ y. z (cc)), sym sa, sym tb))

module _ (m : Partial) (a b : ℕ) (c : Bool) (h : c ≡ same_predicate (word_atom a) (word_atom b)) where
  pub predicate_same : c ≡ true → same_predicate (word_atom a) (word_atom b) ≡ true
  predicate_same e = sym h ∙ e

  pub predicates_differ : c ≡ false → false ≡ on_atoms (may_become m) (word_atom a) (word_atom b)
  predicates_differ e = sym (on_words (may_become m) a b ∙ simp (sym (predicate_words a b), sym h, e))

-- ---- the answer terms of two queries

pub partner_low : (p q : QueryWords) (i : ℕ) → length q.answers ≡ 4 → Small q → p.terms ≡ q.terms → i < p.terms
    → LowTerm (get_or q.answers i 0)
partner_low p q i l s n h = answer_low q i s l (omega arith)

-- ---- all of it

module _ (m : Partial) (p q : Query) (r : Bool) (answers : r ≡ pairwise (may_become m) p.answers q.answers) where
  pub answers_against : r ≡ false → false ≡ promising (may_become m) p q
  unfolding promising
  answers_against e = simp (sym answers, e)

  module _ (s : Bool) (go : s ≡ all (λ a. any (λ b. on_atoms (may_become m) a b) q.atoms) p.atoms) (e : r ≡ true) where
    pub atoms_against : s ≡ false → false ≡ promising (may_become m) p q
    unfolding promising
    atoms_against f = simp (sym answers, sym go, e, f)

    pub nothing_against : (t : Bool) → s ≡ true → t ≡ all (λ b. any (λ a. on_atoms (may_become m) a b) p.atoms) q.atoms
        → t ≡ promising (may_become m) p q
    unfolding promising
    nothing_against t f come = come ∙ sym (simp (sym answers, sym go, e, f))

pub ruleset term_laws = (rules, spellings, unassigned_may, assigned_may, variables_may, variable_object, object_may)

pub ruleset atom_laws = (
  rules,
  spellings,
  first_low,
  second_low,
  second_low_too,
  kinds_differ,
  numbers_decide,
  first_against,
  one_place,
  two_places,
  predicate_same,
  predicates_differ,
)

pub ruleset loop_laws = (rules, spellings, query_scans, atom_low, answer_low, partner_low, word_below)

pub ruleset promising_laws = (rules, spellings, answers_against, atoms_against, nothing_against)
