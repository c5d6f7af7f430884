-- Loops over a query's words: what is added up so far is the total over the words so far, and in the end that over the query.
use mathlib.Core.Path.{◌≡◌, refl, sym, ap, ap₂, ◌∙◌}
use Prim.Native.Nat.{ℕ, zero, suc, ◌+◌, ◌*◌, ◌≤◌, ◌<◌}
use native.Mathlib.Numerals.{add-one}
use native.Mathlib.Nat.{le_antisymm, add-zero, zero-add}
use native.Mathlib.Omega.{arith}
use mathlib.Core.List.{List, [], ◌∷◌, map}
use lib.ListN.{length, get_or, take, replicate, get_or-replicate}
use borrow.Author.Rules.{rules}
use Rattle.theory.specs.Syntax.{Term}
use Rattle.theory.specs.Laws.Counting.{total}
use Rattle.words.specs.Words.{query_of, word_term, word_atom}
use Rattle.words.specs.Laws.LowVariables.{answer_low, atom_low, word_below}
use Rattle.words.specs.declared.QueryWords.{QueryWords}
use Rattle.query_key.specs.Key.{top, mix, along, mix_answer, mix_atom, given, given_by, colour_by, next, colours}
use Rattle.query_key.specs.Colours.{colour_in, ColoursOf, Plus, Upto}
use Rattle.query_key.proofs.TermLaws.{given_le, given_by_le}

-- ---- one word more

module _ {X : Type 0} (g : ℕ → X) where
  total_take : (w : X → ℕ) (words : List ℕ) (i : ℕ) → i < length words → total w (map g (take (suc i) words))
      ≡ total w (map g (take i words)) + w (g (get_or words i 0))
  unfolding total
  total_take w [] i h = absurd (omega arith)
  total_take w (x ∷ xs) zero h = omega arith
  total_take w (x ∷ xs) (suc i) h = omega (arith, total_take w xs i (omega arith))

  along_take : (w : ℕ → X → ℕ) (k : ℕ) (words : List ℕ) (i : ℕ) → i < length words → along w k (map g (take (suc i) words))
      ≡ along w k (map g (take i words)) + w (k + i) (g (get_or words i 0))
  unfolding along
  along_take w k [] i h = absurd (omega arith)
  along_take w k (x ∷ xs) zero h = rw (add-zero k) (omega arith)
  along_take w k (x ∷ xs) (suc i) h =
      let e : k + suc i ≡ suc k + i = omega arith in
      rw e (omega (arith, along_take w (suc k) xs i (omega arith)))

  total_next : (w : X → ℕ) (words : List ℕ) (i x y : ℕ) → i < length words → x ≡ total w (map g (take i words)) → y
      ≡ w (g (get_or words i 0))
      → x + y ≡ total w (map g (take (i + 1) words))
  total_next w words i x y h e d = ap₂ ◌+◌ e d ∙ sym (ap (λ k. total w (map g (take k words))) (add-one i) ∙ total_take w words i h)

  along_next : (w : ℕ → X → ℕ) (words : List ℕ) (i x y : ℕ) → i < length words → x ≡ along w 0 (map g (take i words))
      → y ≡ w i (g (get_or words i 0)) → x + y ≡ along w 0 (map g (take (i + 1) words))
  along_next w words i x y h e d =
      ap₂ ◌+◌ e (d ∙ ap (λ k. w k (g (get_or words i 0))) (sym (zero-add i)))
      ∙ sym (ap (λ k. along w 0 (map g (take k words))) (add-one i) ∙ along_take w 0 words i h)

-- ---- sums so far

module _ (s : Term → ℕ) where
  unfoldable pub answers_sum : List ℕ → ℕ → ℕ
  answers_sum answers i = along (mix_answer s) 0 (map word_term (take i answers))

  unfoldable pub atoms_sum : List ℕ → ℕ → ℕ
  atoms_sum atoms i = total (mix_atom s) (map word_atom (take i atoms))

  pub no_answers : (answers : List ℕ) → 0 ≡ answers_sum answers 0
  unfolding answers_sum along
  no_answers answers = refl

  pub no_atoms : (atoms : List ℕ) → 0 ≡ atoms_sum atoms 0
  unfolding atoms_sum total
  no_atoms atoms = refl

  module _ (q : QueryWords) (i sum : ℕ) where
    pub answer_added : (r x : ℕ) → length q.answers ≡ 4 → q.terms ≤ 4 → i < q.terms → sum ≡ answers_sum q.answers i
        → x ≡ s (word_term (get_or q.answers i 0)) → r ≡ mix (4 * i + 1) x 0 → sum + r ≡ answers_sum q.answers (i + 1)
    unfolding answers_sum mix_answer
    answer_added r x l f h e xe re =
        along_next word_term (mix_answer s) q.answers i sum r (omega arith) e (re ∙ ap (λ y. mix (4 * i + 1) y 0) xe)

    pub atom_added : (r : ℕ) → length q.atoms ≡ 8 → q.size ≤ 8 → i < q.size → sum ≡ atoms_sum q.atoms i
        → r ≡ mix_atom s (word_atom (get_or q.atoms i 0)) → sum + r ≡ atoms_sum q.atoms (i + 1)
    unfolding atoms_sum
    atom_added r l f h e re = total_next word_atom (mix_atom s) q.atoms i sum r (omega arith) e re

    pub answers_added : i ≤ q.terms → q.terms ≤ i → sum ≡ answers_sum q.answers i → sum ≡ along (mix_answer s) 0 (query_of q).answers
    unfolding answers_sum query_of
    answers_added h g e = e ∙ ap (λ k. along (mix_answer s) 0 (map word_term (take k q.answers))) (le_antisymm h g)

    pub atoms_added : i ≤ q.size → q.size ≤ i → sum ≡ atoms_sum q.atoms i → sum ≡ total (mix_atom s) (query_of q).atoms
    unfolding atoms_sum query_of
    atoms_added h g e = e ∙ ap (λ k. total (mix_atom s) (map word_atom (take k q.atoms))) (le_antisymm h g)

-- ---- what is given so far

unfoldable pub answers_give : List ℕ → ℕ → ℕ → ℕ
answers_give answers i v = along (λ j t. given t (mix_answer (λ u. 0) j t) v) 0 (map word_term (take i answers))

unfoldable pub atoms_give : (Term → ℕ) → List ℕ → ℕ → ℕ → ℕ
atoms_give s atoms i v = total (λ a. given_by s a v) (map word_atom (take i atoms))

-- at first nothing
pub none_given : Upto 0 (replicate 32 0)
none_given = record { long = refl; upto = λ v h. omega (arith, get_or-replicate {A = ℕ} 32 v 0 0 h) }

pub no_answer_gave : (answers : List ℕ) → ColoursOf (answers_give answers 0) (replicate 32 0)
unfolding answers_give along
no_answer_gave answers = record { says = λ v h. get_or-replicate {A = ℕ} 32 v 0 0 h }

pub no_atom_gave : (s : Term → ℕ) (atoms : List ℕ) → ColoursOf (atoms_give s atoms 0) (replicate 32 0)
unfolding atoms_give total
no_atom_gave s atoms = record { says = λ v h. get_or-replicate {A = ℕ} 32 v 0 0 h }

-- there is room for more
pub answer_room : (i n : ℕ) (l : List ℕ) → i < n → n ≤ 4 → Upto i l → Upto 32 l
answer_room i n l h f b = record { long = b.long; upto = λ v k. omega (arith, b.upto v k) }

pub atom_room : (i n : ℕ) (l : List ℕ) → i < n → n ≤ 8 → Upto (2 * i) l → Upto 16 l
atom_room i n l h f b = record { long = b.long; upto = λ v k. omega (arith, b.upto v k) }

pub answer_upto : (i t w : ℕ) (l m : List ℕ) → Upto i l → w < top → Plus (given (word_term t) w) l m → Upto (i + 1) m
answer_upto i t w l m b h g = record {
  long = g.as_long ∙ b.long;
  upto =
      λ v k. omega (arith, b.upto v k, g.plus v k, given_le (word_term t) w v);
}

pub atom_upto : (s : Term → ℕ) (i a : ℕ) (l m : List ℕ) → Upto (2 * i) l → Plus (given_by s (word_atom a)) l m → Upto (2 * (i + 1)) m
atom_upto s i a l m b g = record {
  long = g.as_long ∙ b.long;
  upto =
      λ v k. omega (arith, b.upto v k, g.plus v k, given_by_le s (word_atom a) v);
}

-- one word gives
pub answer_gave : (q : QueryWords) (i w : ℕ) (l m : List ℕ) → length q.answers ≡ 4 → q.terms ≤ 4 → i < q.terms
    → ColoursOf (answers_give q.answers i) l → w ≡ mix (4 * i + 1) 0 0 → Plus (given (word_term (get_or q.answers i 0)) w) l m
    → ColoursOf (answers_give q.answers (i + 1)) m
unfolding answers_give mix_answer
answer_gave q i w l m len f h e we g = record {
  says = λ v k.
      g.plus v k
      ∙ along_next word_term (λ j t. given t (mix_answer (λ u. 0) j t) v) q.answers i (colour_in l v)
      (given (word_term (get_or q.answers i 0)) w v) (omega arith) (e.says v k)
      (ap (λ y. given (word_term (get_or q.answers i 0)) y v) we);
}

pub atom_gave : (s : Term → ℕ) (q : QueryWords) (i : ℕ) (l m : List ℕ) → length q.atoms ≡ 8 → q.size ≤ 8 → i < q.size
    → ColoursOf (atoms_give s q.atoms i) l → Plus (given_by s (word_atom (get_or q.atoms i 0))) l m
    → ColoursOf (atoms_give s q.atoms (i + 1)) m
unfolding atoms_give
atom_gave s q i l m len f h e g = record {
  says = λ v k.
      g.plus v k
      ∙ total_next word_atom (λ a. given_by s a v) q.atoms i (colour_in l v) (given_by s (word_atom (get_or q.atoms i 0)) v) (omega arith)
      (e.says v k) refl;
}

-- all have given
pub answers_gave : (q : QueryWords) (i : ℕ) (l : List ℕ) → i ≤ q.terms → q.terms ≤ i → ColoursOf (answers_give q.answers i) l
    → ColoursOf (colours 0 (query_of q)) l
unfolding answers_give query_of colours
answers_gave q i l h g e = record { says = λ v k. e.says v k ∙ ap (λ n. answers_give q.answers n v) (le_antisymm h g) }

pub atoms_gave : (h : ℕ → ℕ) (q : QueryWords) (i : ℕ) (l : List ℕ) → i ≤ q.size → q.size ≤ i
    → ColoursOf (atoms_give (colour_by h) q.atoms i) l → ColoursOf (next (query_of q) h) l
unfolding atoms_give query_of next
atoms_gave h q i l f g e = record { says = λ v k. e.says v k ∙ ap (λ n. atoms_give (colour_by h) q.atoms n v) (le_antisymm f g) }

pub ruleset laws = (
  rules,
  word_below,
  answer_low,
  atom_low,
  no_answers,
  no_atoms,
  answer_added,
  atom_added,
  answers_added,
  atoms_added,
  none_given,
  no_answer_gave,
  no_atom_gave,
  answer_room,
  atom_room,
  answer_upto,
  atom_upto,
  answer_gave,
  atom_gave,
  answers_gave,
  atoms_gave,
)
