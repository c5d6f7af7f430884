-- Refusal 7: two questions compared word by word, and the first member of a table.
use mathlib.Core.Path.{◌≡◌, refl, sym, ap, ◌∙◌}
use Prim.Native.Nat.{ℕ, zero, suc, ◌*◌, ◌≤◌}
use native.Mathlib.Omega.{arith}
use mathlib.Core.Bool.{Bool, true, false, not, ◌&&◌, and-false}
use mathlib.Core.List.{List, ◌∷◌, map}
use lib.ListN.{length, get_or, take, drop}
use borrow.Author.Rules.{rules}
use Rattle.theory.specs.Lists.{pairwise, numbers}
use Rattle.theory.specs.Syntax.{Rule, UCQ, same_term, same_atom}
use Rattle.theory.proofs.Laws.Spellings.{same_term_exchanged, same_atom_exchanged}
use Rattle.theory.specs.Union.{same_query, zero_step, refuses7}
use Rattle.theory.specs.Laws.Scans.{all_from, scans, all_pairs, unequal_records}
use Rattle.words.specs.Laws.LowVariables.{word_below}
use Rattle.words.specs.Records.{step_of}
use Rattle.words.specs.Words.{query_of, Small, member_of, union_in, word_term, word_atom}
use Rattle.words.specs.declared.QueryWords.{QueryWords}
use Rattle.words.specs.Rows.{Row, Rows, member_in}

-- ---- two arrays side by side

-- the words at index i are the same
abbrev pub same_at : {X : Type 0} → (X → X → Bool) → (ℕ → X) → List ℕ → List ℕ → ℕ → Bool
same_at same f a b i = same (f (get_or a i 0)) (f (get_or b i 0))

module _ (n : ℕ) (a b : List ℕ) (r : Bool) where
  pub equal_terms : n ≤ 4 → length a ≡ 4 → length b ≡ 4 → r ≡ all_from (same_at same_term word_term a b) 0 n
      → r ≡ pairwise same_term (map word_term (take n a)) (map word_term (take n b))
  equal_terms h l m e = e ∙ all_pairs same_term word_term word_term a b n (omega arith) (omega arith)

  pub equal_atoms : n ≤ 8 → length a ≡ 8 → length b ≡ 8 → r ≡ all_from (same_at same_atom word_atom a b) 0 n
      → r ≡ pairwise same_atom (map word_atom (take n a)) (map word_atom (take n b))
  equal_atoms h l m e = e ∙ all_pairs same_atom word_atom word_atom a b n (omega arith) (omega arith)

-- ---- two questions

module _ (p q : QueryWords) (s : Small p) (t : Small q) where
  pub terms_differ : length p.answers ≡ 4 → length q.answers ≡ 4 → (p.terms ≡ q.terms → ⊥)
      → false ≡ same_query (query_of p) (query_of q)
  unfolding same_query query_of
  terms_differ l m d =
      let f = s.few_terms in
      let g = t.few_terms in
      ap (λ b. b && pairwise same_atom (query_of p).atoms (query_of q).atoms)
      (unequal_records same_term word_term word_term p.answers q.answers p.terms q.terms (omega arith) (omega arith) d)

  pub atoms_differ : length p.atoms ≡ 8 → length q.atoms ≡ 8 → (p.size ≡ q.size → ⊥) → false ≡ same_query (query_of p) (query_of q)
  unfolding same_query query_of
  atoms_differ l m d =
      let f = s.few_atoms in
      let g = t.few_atoms in
      let answers : Bool = pairwise same_term (query_of p).answers (query_of q).answers in
      sym (and-false answers)
      ∙ ap (λ b. answers && b)
      (unequal_records same_atom word_atom word_atom p.atoms q.atoms p.size q.size (omega arith) (omega arith) d)

  module _ (b : Bool) (h : p.terms ≡ q.terms)
      (e : b ≡ pairwise same_term (map word_term (take p.terms p.answers)) (map word_term (take p.terms q.answers))) where
    answers_are : b ≡ pairwise same_term (query_of p).answers (query_of q).answers
    unfolding query_of
    answers_are = e ∙ ap (λ n. pairwise same_term (map word_term (take p.terms p.answers)) (map word_term (take n q.answers))) h

    pub answers_unequal : b ≡ false → false ≡ same_query (query_of p) (query_of q)
    unfolding same_query
    answers_unequal f = simp (sym answers_are ∙ f)

    pub atoms_decide : (d : Bool) → b ≡ true → p.size ≡ q.size
        → d ≡ pairwise same_atom (map word_atom (take p.size p.atoms)) (map word_atom (take p.size q.atoms))
        → d ≡ same_query (query_of p) (query_of q)
    unfolding same_query query_of
    atoms_decide d f g k =
        k ∙ ap (λ n. pairwise same_atom (map word_atom (take p.size p.atoms)) (map word_atom (take n q.atoms))) g
        ∙ sym (simp (sym answers_are ∙ f))

-- ---- the first member

union_first_lem : (table : List ℕ) (n : ℕ) → (n ≡ 0 → ⊥) → (rest : UCQ) × (union_in table n ≡ member_in table 0 ∷ rest)
unfolding union_in numbers
union_first_lem table zero h = absurd (h refl)
union_first_lem table (suc n) h = (map (λ j. member_of (drop (16 * j) table)) (numbers 1 n), refl)

module _ (table : List ℕ) (n : ℕ) (r : Rows table n) (h : n ≡ 0 → ⊥) where
  pub first_within : 16 ≤ length table
  first_within = let l = r.long in omega arith

  pub first_row : Row table
  first_row = r.each 0 (omega arith)

module _ (table : List ℕ) (n : ℕ) (q : QueryWords) (rules : List Rule) where
  pub no_member : n ≡ 0 → true ≡ refuses7 rules (query_of q) (union_in table n)
  unfolding refuses7 union_in numbers
  no_member e = rw e

  first_decides : (n ≡ 0 → ⊥) → refuses7 rules (query_of q) (union_in table n)
      ≡ not (zero_step (step_of (get_or table 0 0)) && same_query (member_in table 0).query (query_of q))
  unfolding refuses7 member_of
  first_decides h = ap (refuses7 rules (query_of q)) (union_first_lem table n h).1

  -- whether there is a step beside it, as was told
  module _ (h : n ≡ 0 → ⊥) (z : Bool) (s : z ≡ zero_step (step_of (get_or table 0 0))) where
    pub has_step : z ≡ false → true ≡ refuses7 rules (query_of q) (union_in table n)
    has_step d = sym (first_decides h ∙ simp (sym s, d))

    module _ (p : QueryWords) (b : Bool) (g : z ≡ true)
        (e : query_of p ≡ (member_in table 0).query) (f : b ≡ same_query (query_of p) (query_of q)) where
      compared : refuses7 rules (query_of q) (union_in table n) ≡ not b
      compared = first_decides h ∙ simp (sym s, g, sym e, sym f)

      pub is_question : b ≡ true → false ≡ refuses7 rules (query_of q) (union_in table n)
      is_question d = sym (compared ∙ ap not d)

      pub is_another : b ≡ false → true ≡ refuses7 rules (query_of q) (union_in table n)
      is_another d = sym (compared ∙ ap not d)

pub ruleset sides = (scans, equal_terms, equal_atoms, same_term_exchanged, same_atom_exchanged, word_below)

pub ruleset questions = (terms_differ, atoms_differ, answers_unequal, atoms_decide)

pub ruleset firsts = (first_within, first_row, no_member, has_step, is_question, is_another)

pub ruleset laws = (rules, sides, questions, firsts)
