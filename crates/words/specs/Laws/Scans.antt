-- Loops over the answer terms and the atoms of a query in words: a test of all of them is one of their places.
use Rattle.std.specs.Prelude.{◌≡◌, refl, ℕ, ◌+◌, ◌≤◌, Bool, false, List, [], ◌∷◌, map, length, get_or, take}
use Rattle.std.proofs.Common.{sym, ◌∙◌, arith}
use Rattle.std.proofs.Math.Path.{ap}
use Rattle.theory.specs.Lists.{any, all, count, pairwise}
use Rattle.theory.specs.Syntax.{Term, Atom, args, places}
use Rattle.theory.specs.Laws.Lists.{any_flat_map}
use Rattle.theory.proofs.Laws.Syntax.{places_flat_map}
use Rattle.theory.specs.Laws.Counting.{total, count_append}
use Rattle.theory.specs.Laws.Scans.{some_from, all_from, total_from, test_at, scans}
use Rattle.theory.specs.Laws.Scans.{some_record, all_records, total_records, all_pairs, unequal_records}
use Rattle.words.specs.Words.{query_of, word_term, word_atom}
use Rattle.words.specs.declared.QueryWords.{QueryWords}

-- ---- answer terms

module _ (q : QueryWords) (l : length q.answers ≡ 4) (g : q.terms ≤ 4) where
  pub some_answer : (p : Term → Bool) (b : Bool) → b ≡ some_from (test_at p word_term q.answers) 0 q.terms
      → b ≡ any p (query_of q).answers
  unfolding query_of
  some_answer p b e = e ∙ some_record word_term q.answers q.terms (omega arith) p

-- those of two queries side by side
module _ (p q : QueryWords) (l : length p.answers ≡ 4) (m : length q.answers ≡ 4) (g : p.terms ≤ 4) (h : q.terms ≤ 4)
    (test : Term → Term → Bool) where
  pub more_answers : (p.terms ≡ q.terms → ⊥) → false ≡ pairwise test (query_of p).answers (query_of q).answers
  unfolding query_of
  more_answers d = unequal_records test word_term word_term p.answers q.answers p.terms q.terms (omega arith) (omega arith) d

  pub all_answers : (b : Bool) → p.terms ≡ q.terms
      → b ≡ all_from (λ k. test (word_term (get_or p.answers k 0)) (word_term (get_or q.answers k 0))) 0 p.terms
      → b ≡ pairwise test (query_of p).answers (query_of q).answers
  unfolding query_of
  all_answers b n e =
      e ∙ all_pairs test word_term word_term p.answers q.answers p.terms (omega arith) (omega arith)
      ∙ ap (λ k. pairwise test (map word_term (take p.terms p.answers)) (map word_term (take k q.answers))) n

-- ---- atoms

-- the places of atoms, atom by atom
pub any_places : (p : Term → Bool) (atoms : List (Atom Term)) → any (λ a. any p (args a)) atoms ≡ any p (places atoms)
any_places p atoms = sym (ap (any p) (places_flat_map atoms) ∙ any_flat_map p args atoms)

count_places : (p : Term → Bool) (atoms : List (Atom Term)) → total (λ a. count p (args a)) atoms ≡ count p (places atoms)
unfolding total count
count_places p [] = refl
count_places p (a ∷ atoms) = ap (λ n. count p (args a) + n) (count_places p atoms) ∙ sym (count_append p (args a) (places atoms))

module _ (q : QueryWords) (l : length q.atoms ≡ 8) (g : q.size ≤ 8) where
  module _ (p : Atom Term → Bool) (b : Bool) where
    pub some_atom : b ≡ some_from (test_at p word_atom q.atoms) 0 q.size → b ≡ any p (query_of q).atoms
    unfolding query_of
    some_atom e = e ∙ some_record word_atom q.atoms q.size (omega arith) p

    pub all_atoms : b ≡ all_from (test_at p word_atom q.atoms) 0 q.size → b ≡ all p (query_of q).atoms
    unfolding query_of
    all_atoms e = e ∙ all_records word_atom q.atoms q.size (omega arith) p

  -- how many places pass
  pub counted_places : (p : Term → Bool) (n : ℕ) → n ≡ total_from (λ k. count p (args (word_atom (get_or q.atoms k 0)))) 0 q.size
      → n ≡ count p (places (query_of q).atoms)
  unfolding query_of
  counted_places p n e =
      e ∙ total_records word_atom q.atoms q.size (omega arith) (λ a. count p (args a))
      ∙ count_places p (map word_atom (take q.size q.atoms))

pub ruleset query_scans = (scans, some_answer, more_answers, all_answers, some_atom, all_atoms, counted_places)
