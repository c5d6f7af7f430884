-- Terms and atoms as words: what the code computes is what the definitions say.
use mathlib.Core.Path.{◌≡◌, refl, sym, ap, ◌∙◌}
use Prim.Native.Nat.{ℕ, ◌+◌, ◌*◌, ◌/◌, ◌%◌, ◌<◌}
use native.Mathlib.Omega.{arith}
use mathlib.Core.Bool.{Bool, true, false, not, ◌&&◌, ◌||◌, and-true, and_assoc, or-false}
use lib.Dec.{eqb}
use borrow.Author.Rules.{rules}
use borrow.Author.Tests.{eq-eqb, ne_eqb, eqb-true, eqb-false}
use Rattle.theory.specs.Lists.{pick, any}
use Rattle.theory.specs.Syntax.{Term, var, const, concept, role, args, same_term, same_atom}
use Rattle.words.specs.Records.{term_of, atom_of}
use Rattle.words.specs.Limits.{name_bound, word_object_bound, word_term_bound}
use Rattle.words.specs.Words.{word_term, word_atom, word_kind, word_name, word_first, word_second}

-- ---- words that are made

pub concept_made : (n t : ℕ) → n < name_bound → t < word_term_bound → word_atom (n * 1125899906842624 + t * word_term_bound)
    ≡ concept n (word_term t)
unfolding atom_of
concept_made n t hn ht =
    let kind : (n * 1125899906842624 + t * word_term_bound) / 9223372036854775808 % 2 ≡ 0 = omega arith in
    let number : (n * 1125899906842624 + t * word_term_bound) / 1125899906842624 % 4096 ≡ n = omega arith in
    let first : (n * 1125899906842624 + t * word_term_bound) / word_term_bound % word_term_bound ≡ t = omega arith in
    simp (kind, number, first)

pub role_made : (n t u : ℕ) → n < name_bound → t < word_term_bound → u < word_term_bound
    → word_atom (9223372036854775808 + n * 1125899906842624 + t * word_term_bound + u) ≡ role n (word_term t) (word_term u)
unfolding atom_of
role_made n t u hn ht hu =
    let kind : (9223372036854775808 + n * 1125899906842624 + t * word_term_bound + u) / 9223372036854775808 % 2 ≡ 1 = omega arith in
    let number : (9223372036854775808 + n * 1125899906842624 + t * word_term_bound + u) / 1125899906842624 % 4096 ≡ n = omega arith in
    let first : (9223372036854775808 + n * 1125899906842624 + t * word_term_bound + u) / word_term_bound % word_term_bound
    ≡ t = omega arith in
    let second : (9223372036854775808 + n * 1125899906842624 + t * word_term_bound + u) / 1 % word_term_bound ≡ u = omega arith in
    simp (kind, number, first, second)

-- ---- equality

-- two tests pass together
same_test : (a b c d : ℕ) → (a ≡ b → c ≡ d) → (c ≡ d → a ≡ b) → eqb a b ≡ eqb c d
same_test a b c d to from = go (eqb a b) refl
  where
    go : (z : Bool) → eqb a b ≡ z → eqb a b ≡ eqb c d
    go true e = e ∙ sym (eq-eqb c d (to (eqb-true a b e)))
    go false e = e ∙ sym (ne_eqb c d (λ f. eqb-false a b e (from f)))

-- two words of terms
pub same_words : (a b : ℕ) → a < word_term_bound → b < word_term_bound → eqb a b ≡ same_term (word_term a) (word_term b)
unfolding term_of same_term
same_words a b ha hb = go (eqb (a / word_object_bound) 0) (eqb (b / word_object_bound) 0) refl refl
  where
    go : (x y : Bool) → eqb (a / word_object_bound) 0 ≡ x → eqb (b / word_object_bound) 0 ≡ y
        → eqb a b ≡ same_term (pick x (var (a % word_object_bound)) (const (a % word_object_bound)))
        (pick y (var (b % word_object_bound)) (const (b % word_object_bound)))
    go true true e f =
        same_test a b (a % word_object_bound) (b % word_object_bound) (λ z. ap (λ v. v % word_object_bound) z)
        (λ z. omega (arith, eqb-true (a / word_object_bound) 0 e, eqb-true (b / word_object_bound) 0 f))
    go true false e f =
        ne_eqb a b (λ z. eqb-false (b / word_object_bound) 0 f
        (sym (ap (λ v. v / word_object_bound) z) ∙ eqb-true (a / word_object_bound) 0 e))
    go false true e f =
        ne_eqb a b (λ z. eqb-false (a / word_object_bound) 0 e (ap (λ v. v / word_object_bound) z ∙ eqb-true (b / word_object_bound) 0 f))
    go false false e f =
        same_test a b (a % word_object_bound) (b % word_object_bound) (λ z. ap (λ v. v % word_object_bound) z)
        (λ z. omega (arith, eqb-false (a / word_object_bound) 0 e, eqb-false (b / word_object_bound) 0 f))

-- the terms of two atoms of kind k: the first ones a and b, the second ones c and d
abbrev same_terms : ℕ → ℕ → ℕ → ℕ → ℕ → Bool
same_terms k a b c d = eqb a b && pick (eqb k 0) true (eqb c d)

module _ (k a b c d f g : ℕ) (fa : f ≡ a) (gb : g ≡ b) where
  pub one_place : f ≡ g → k ≡ 0 → true ≡ same_terms k a b c d
  one_place e z = simp (eq-eqb a b (cc), eq-eqb k 0 z)

  pub two_places : (h i : ℕ) → f ≡ g → (k ≡ 0 → ⊥) → h ≡ c → i ≡ d → eqb h i ≡ same_terms k a b c d
  two_places h i e z hc id = simp (hc, id, eq-eqb a b (cc), ne_eqb k 0 z)

  pub first_differs : (f ≡ g → ⊥) → false ≡ same_terms k a b c d
  first_differs e = simp (ne_eqb a b (λ z. e (cc)))

-- two atoms with kinds 0 or 1
same_atoms : (k l n m t s u v : ℕ) → k < 2 → l < 2 → t < word_term_bound → s < word_term_bound → u < word_term_bound → v < word_term_bound
    → same_atom (pick (eqb k 0) (concept n (word_term t)) (role n (word_term t) (word_term u)))
    (pick (eqb l 0) (concept m (word_term s)) (role m (word_term s) (word_term v))) ≡ (eqb k l && eqb n m && same_terms k t s u v)
unfolding same_atom
same_atoms k l n m t s u v hk hl ht hs hu hv = go (eqb k 0) (eqb l 0) refl refl
  where
    go : (x y : Bool) → eqb k 0 ≡ x → eqb l 0 ≡ y
        → same_atom (pick x (concept n (word_term t)) (role n (word_term t) (word_term u)))
        (pick y (concept m (word_term s)) (role m (word_term s) (word_term v))) ≡ (eqb k l && eqb n m && (eqb t s && pick x true (eqb u v)))
    go true true e f = simp (eq-eqb k l (eqb-true k 0 e ∙ sym (eqb-true l 0 f)), same_words t s ht hs, and-true)
    go true false e f = simp (ne_eqb k l (λ z. eqb-false l 0 f (sym z ∙ eqb-true k 0 e)))
    go false true e f = simp (ne_eqb k l (λ z. eqb-false k 0 e (z ∙ eqb-true l 0 f)))
    go false false e f =
        simp (eq-eqb k l (omega (arith, eqb-false k 0 e, eqb-false l 0 f)), same_words t s ht hs, same_words u v hu hv, and_assoc)

-- two words of atoms, by their fields
same_atom_lem : (a b : ℕ) → same_atom (word_atom a) (word_atom b)
    ≡ (eqb (word_kind a) (word_kind b) && eqb (word_name a) (word_name b)
    && same_terms (word_kind a) (word_first a) (word_first b) (word_second a)
    (word_second b))
unfolding atom_of
same_atom_lem a b =
    same_atoms (word_kind a) (word_kind b) (word_name a) (word_name b) (word_first a) (word_first b) (word_second a) (word_second b)
    (omega arith) (omega arith) (omega arith) (omega arith) (omega arith) (omega arith)

-- v says whether kinds and numbers are the same
module _ (a b k l : ℕ) (v : Bool) (ka : k ≡ word_kind a) (lb : l ≡ word_kind b) where
  pub kind_differs : (k ≡ l → ⊥) → v ≡ eqb k l → v ≡ same_atom (word_atom a) (word_atom b)
  kind_differs e h = h ∙ ne_eqb k l e ∙ sym (same_atom_lem a b ∙ simp (ne_eqb (word_kind a) (word_kind b) (λ z. e (cc))))

  pub kind_found : {A : Type 0} → (k ≡ l → ⊥) → v ≡ eqb k l → v ≡ true → A
  kind_found e h t = absurd (e (eqb-true k l (sym h ∙ t)))

  module _ (n m : ℕ) (e : k ≡ l) (na : n ≡ word_name a) (mb : m ≡ word_name b) (h : v ≡ eqb n m) where
    pub number_differs : v ≡ false → v ≡ same_atom (word_atom a) (word_atom b)
    number_differs f = let d : eqb n m ≡ false = sym h ∙ f in
        f ∙ sym (same_atom_lem a b ∙ simp (eq-eqb (word_kind a) (word_kind b) (cc), ← na, ← mb, d))

    pub terms_decide : (r : Bool) → v ≡ true → r ≡ same_terms k (word_first a) (word_first b) (word_second a) (word_second b)
        → r ≡ same_atom (word_atom a) (word_atom b)
    terms_decide r t g = let d : eqb n m ≡ true = sym h ∙ t in
        g ∙ sym (same_atom_lem a b ∙ simp (sym ka, eq-eqb k (word_kind b) (e ∙ lb), ← na, ← mb, d))

-- ---- a term in an atom

-- a test on the places of an atom
some_place : (p : Term → Bool) (a : ℕ)
    → any p (args (word_atom a)) ≡ (p (word_term (word_first a)) || pick (eqb (word_kind a) 0) false (p (word_term (word_second a))))
unfolding any atom_of
some_place p a = go (eqb (word_kind a) 0)
  where
    go : (x : Bool) → any p (args (pick x (concept (word_name a) (word_term (word_first a)))
        (role (word_name a) (word_term (word_first a)) (word_term (word_second a)))))
        ≡ (p (word_term (word_first a)) || pick x false (p (word_term (word_second a))))
    go true = refl
    go false = simp or-false

module _ (a t f : ℕ) (b : Bool) (fa : f ≡ word_first a) (h : b ≡ same_term (word_term t) (word_term f)) where
  pub stands_first : b ≡ true → b ≡ any (same_term (word_term t)) (args (word_atom a))
  stands_first e = let g : same_term (word_term t) (word_term f) ≡ true = sym h ∙ e in
      e ∙ sym (some_place (same_term (word_term t)) a ∙ simp (sym fa, g))

  pub stands_nowhere : (k : ℕ) → b ≡ false → k ≡ word_kind a → k ≡ 0
      → not (eqb k 0) ≡ any (same_term (word_term t)) (args (word_atom a))
  stands_nowhere k e ka z = ap not (eq-eqb k 0 z) ∙ sym (some_place (same_term (word_term t)) a ∙ simp (
    sym fa,
    sym h,
    e,
    eq-eqb
        (word_kind a) 0 (cc),
  ))

  pub stands_second : (k g : ℕ) (c : Bool) → b ≡ false → k ≡ word_kind a → (k ≡ 0 → ⊥) → g ≡ word_second a
      → c ≡ same_term (word_term t) (word_term g) → c ≡ any (same_term (word_term t)) (args (word_atom a))
  stands_second k g c e ka z ga i =
      i ∙ sym (some_place (same_term (word_term t)) a ∙ simp (sym fa, sym h, e, ne_eqb (word_kind a) 0 (λ y. z (cc)), sym ga))

pub ruleset laws = (
  rules,
  concept_made,
  role_made,
  same_words,
  one_place,
  two_places,
  first_differs,
  kind_differs,
  number_differs,
  terms_decide,
  stands_first,
  stands_nowhere,
  stands_second,
)
