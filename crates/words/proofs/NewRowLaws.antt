-- A member's row of words is made.
use mathlib.Core.Path.{◌≡◌, refl, sym, ap, ◌∙◌}
use Prim.Native.Nat.{ℕ, zero, suc, ◌+◌, ◌≤◌, ◌<◌}
use native.Mathlib.Omega.{arith}
use mathlib.Core.List.{List, [], ◌∷◌, ◌++◌, map}
use lib.ListN.{length, get_or, take, drop, drop_of_length-le}
use lib.Seq.{drop-cons, take-append-le}
use borrow.Author.Rules.{rules}
use Rattle.theory.specs.Lists.{numbers}
use Rattle.words.specs.Records.{step_of}
use Rattle.words.specs.Words.{TermWords, query_of, member_of}
use Rattle.words.specs.declared.QueryWords.{QueryWords}
use Rattle.words.specs.Limits.{word_term_bound, most_terms, most_atoms}
use Rattle.words.specs.Rows.{RowOf}

-- ---- the words of a row

-- a list is its elements, one by one
drop_listed : (l : List ℕ) (k n : ℕ) → length l ≡ k + n → drop k l ≡ map (λ i. get_or l i 0) (numbers k n)
unfolding numbers
drop_listed l k zero e = drop_of_length-le l {i = k} (omega arith)
drop_listed l k (suc n) e = drop-cons l k 0 (omega arith) ∙ ap (λ r. get_or l k 0 ∷ r) (drop_listed l (suc k) n (omega arith))

-- the first words of a list that begins with all of another
first_words : (n : ℕ) (l listed rest : List ℕ) → l ≡ listed → n ≤ length l → take n (listed ++ rest) ≡ take n l
first_words n l listed rest e h = take-append-le n listed rest (rw e at h) ∙ ap (take n) (sym e)

-- the words of a member's row: its step, its counts, its answer terms and its atoms
module _ (step : ℕ) (q : QueryWords) (four : length q.answers ≡ most_terms) (eight : length q.atoms ≡ most_atoms)
    (few : q.terms ≤ most_terms) (small : q.size ≤ most_atoms) (words : TermWords q.answers) where
  abbrev row_words : List ℕ
  row_words =
      step ∷ q.terms
      ∷ get_or q.answers 0 0 ∷ get_or q.answers 1 0 ∷ get_or q.answers 2 0 ∷ get_or q.answers 3 0 ∷ q.size ∷ 0
      ∷ get_or q.atoms 0 0 ∷ get_or q.atoms 1 0 ∷ get_or q.atoms 2 0 ∷ get_or q.atoms 3 0
      ∷ get_or q.atoms 4 0 ∷ get_or q.atoms 5 0 ∷ get_or q.atoms 6 0 ∷ get_or q.atoms 7 0 ∷ []

  holds_member : (rest : List ℕ) → member_of (row_words ++ rest) ≡ record { step = step_of step; query = query_of q }
  unfolding member_of query_of numbers
  holds_member rest =
      rw (
        first_words q.terms q.answers (map (λ i. get_or q.answers i 0) (numbers 0 4)) _
            (drop_listed q.answers 0 4 four) (omega arith),
        first_words q.size q.atoms (map (λ i. get_or q.atoms i 0) (numbers 0 8)) rest
            (drop_listed q.atoms 0 8 eight) (omega arith),
      )

  answer_words : (k : ℕ) → k < most_terms → get_or row_words (2 + k) 0 < word_term_bound
  answer_words zero h = words 0
  answer_words (suc zero) h = words 1
  answer_words (suc (suc zero)) h = words 2
  answer_words (suc (suc (suc zero))) h = words 3
  answer_words (suc (suc (suc (suc k)))) h = absurd (omega arith)

  pub row_of : RowOf (record { step = step_of step; query = query_of q }) row_words
  row_of = record {
    full = refl;
    holds = holds_member;
    narrow = record { few_terms = few; few_atoms = small; answer_words = answer_words };
  }

pub ruleset laws = (rules, row_of)
