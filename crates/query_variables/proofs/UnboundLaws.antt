-- Unbound terms: what the loops over a query's words compute is what the definitions say.
use mathlib.Core.Path.{◌≡◌, sym, ap, ◌∙◌}
use Prim.Native.Nat.{ℕ, suc, ◌+◌, ◌/◌}
use native.Mathlib.Omega.{arith}
use mathlib.Core.Bool.{Bool, true, false, not, ◌&&◌, and-true, and-false}
use mathlib.Core.List.{List, [], ◌∷◌}
use lib.Dec.{eqb}
use lib.ListN.{get_or}
use borrow.Author.Rules.{rules}
use Rattle.theory.specs.Lists.{pick, any, count}
use Rattle.theory.specs.Syntax.{Term, Query, args, places, same_term}
use Rattle.theory.specs.Rewriting.{unbound}
use Rattle.theory.proofs.Laws.Spellings.{spellings}
use Rattle.words.specs.Records.{term_of}
use Rattle.words.specs.Words.{word_term, word_atom, word_kind, word_first, word_second, first_of, second_of}
use Rattle.words.specs.Laws.Scans.{query_scans}
use Rattle.words.specs.Laws.LowVariables.{concept_atom, role_atom, word_below}
use Rattle.words.specs.Limits.{word_object_bound}

-- ---- the places of one atom

-- one place more
count_cons : (p : Term → Bool) (t : Term) (ts : List Term) → count p (t ∷ ts) ≡ pick (p t) 1 0 + count p ts
unfolding count
count_cons p t ts = go (p t)
  where
    go : (b : Bool) → pick b (suc (count p ts)) (count p ts) ≡ pick b 1 0 + count p ts
    go true = omega arith
    go false = omega arith

module _ (a t f k m : ℕ) (b : Bool) (fa : f ≡ word_first a) (h : b ≡ same_term (word_term t) (word_term f)) (mb : m ≡ pick b 1 0)
    (ka : k ≡ word_kind a) where
  first_place : (ts : List Term) → count (same_term (word_term t)) (first_of a ∷ ts) ≡ m + count (same_term (word_term t)) ts
  first_place ts = count_cons (same_term (word_term t)) (first_of a) ts ∙ simp (sym fa, sym h, sym mb)

  pub one_place : k ≡ 0 → m ≡ count (same_term (word_term t)) (args (word_atom a))
  unfolding count
  one_place z = sym (simp (concept_atom a (sym ka ∙ z)) (first_place [] ∙ omega arith))

  pub two_places : (g n : ℕ) (c : Bool) → (k ≡ 0 → ⊥) → g ≡ word_second a → c ≡ same_term (word_term t) (word_term g) → n ≡ pick c 1 0
      → m + n ≡ count (same_term (word_term t)) (args (word_atom a))
  unfolding count
  two_places g n c z ga i nc =
      let second : count (same_term (word_term t)) (second_of a ∷ []) ≡ n =
      count_cons (same_term (word_term t)) (second_of a) [] ∙ simp (sym ga, sym i, sym nc) (omega arith) in
      sym (simp (role_atom a (λ y. z (ka ∙ y))) (first_place (second_of a ∷ []) ∙ ap (λ x. m + x) second))

-- at how many places of the atom at index k the term stands
abbrev pub places_at : ℕ → List ℕ → ℕ → ℕ
places_at t atoms k = count (same_term (word_term t)) (args (word_atom (get_or atoms k 0)))

-- ---- unbound

module _ (q : Query) (t : ℕ) (v : Bool) (is : v ≡ eqb (t / word_object_bound) 0) where
  pub object_bound_lem : (r : Bool) → v ≡ false → r ≡ false → r ≡ unbound q (word_term t)
  unfolding unbound term_of
  object_bound_lem r e h = h ∙ simp (sym is ∙ e)

  unbound_tests : v ≡ true
      → unbound q (word_term t)
      ≡ (eqb (count (same_term (word_term t)) (places q.atoms)) 1 && not (any (same_term (word_term t)) q.answers))
  unfolding unbound term_of
  unbound_tests e = simp (sym is ∙ e)

  -- loose: whether the term is not among the answer terms
  module _ (b loose : Bool) (e : v ≡ true) (f : b ≡ any (same_term (word_term t)) q.answers) (k : loose ≡ not b) where
    pub answer_bound : loose ≡ false → loose ≡ unbound q (word_term t)
    answer_bound h = sym (unbound_tests e ∙ simp (sym f, sym k, h, and-false))

    pub count_decides : (n : ℕ) → loose ≡ true → n ≡ count (same_term (word_term t)) (places q.atoms) → eqb n 1 ≡ unbound q (word_term t)
    count_decides n h i = simp i (sym (unbound_tests e ∙ simp (sym f, sym k, h, and-true)))

pub ruleset laws = (rules, spellings, query_scans, word_below, one_place, two_places, object_bound_lem, answer_bound, count_decides)
