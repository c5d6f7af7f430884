-- A member's words in a table: what is loaded is the member's question.
use mathlib.Core.Path.{◌≡◌, sym, ap, ◌∙◌, subst}
use Prim.Native.Nat.{ℕ, ◌+◌, ◌*◌, ◌≤◌, ◌<◌}
use native.Mathlib.Decide.{dec_lt}
use native.Mathlib.Omega.{arith}
use mathlib.Core.List.{List, map}
use lib.Dec.{lit<}
use lib.ListN.{get_or, take, drop, length-take, get_or-eq_default}
use lib.Seq.{get_or-take, get_or-drop, take-take, drop-drop}
use borrow.Author.Rules.{rules}
use Rattle.theory.specs.Lists.{◌∈◌}
use Rattle.theory.specs.Syntax.{var, terms}
use Rattle.words.specs.Words.{TermWords, query_of, Small, member_of, word_term, word_atom}
use Rattle.words.specs.declared.QueryWords.{QueryWords}
use Rattle.words.specs.Limits.{word_term_bound}
use Rattle.words.specs.Rows.{Row, row_at, member_in}

-- ---- a member's question

module _ (table : List ℕ) (j : ℕ) (answers atoms : List ℕ) (row : Row (row_at table j)) (a : answers ≡ take 4 (drop (16 * j + 2) table))
    (b : atoms ≡ take 8 (drop (16 * j + 8) table)) where
  count_there : (k : ℕ) → get_or (row_at table j) k 0 ≡ get_or table (16 * j + k) 0
  count_there k = get_or-drop (16 * j) table k 0

  -- the first words of those copied are the first words in the row
  first_there : (n m k : ℕ) (words : List ℕ) → n ≤ m → words ≡ take m (drop (16 * j + k) table)
      → take n words ≡ take n (drop k (row_at table j))
  first_there n m k words h e = ap (take n) e ∙ take-take n m (drop (16 * j + k) table) h ∙ ap (take n) (sym (drop-drop k (16 * j) table))

  abbrev loaded_query : QueryWords
  loaded_query = record { terms = get_or table (16 * j + 1) 0; answers = answers; size = get_or table (16 * j + 6) 0; atoms = atoms }

  pub loaded : query_of loaded_query ≡ (member_in table j).query
  unfolding query_of member_of
  loaded =
      let t = count_there 1 in
      let s = count_there 6 in
      let f = row.few_terms in
      let g = row.few_atoms in
      λ i. record {
        answers = map word_term ((first_there (get_or table (16 * j + 1) 0) 4 2 answers (omega arith) a
            ∙ ap (λ n. take n (drop 2 (row_at table j))) (sym t)) i);
        atoms = map word_atom ((first_there (get_or table (16 * j + 6) 0) 8 8 atoms (omega arith) b
            ∙ ap (λ n. take n (drop 8 (row_at table j))) (sym s)) i);
      }

  answer_word : TermWords answers
  answer_word k = subst (λ l. get_or l k 0 < word_term_bound) (sym a) (elim (dec_lt k 4) [
    | yes h ↦ rw (get_or-take 4 (drop (16 * j + 2) table) k 0 h, sym (drop-drop 2 (16 * j) table), get_or-drop 2 (row_at table j) k 0)
        (row.answer_words k h)
    | no h ↦ rw (get_or-eq_default (take 4 (drop (16 * j + 2) table)) 0 {n = k} (simp length-take (omega arith))) (lit< tt)
  ])

  pub loaded_small : Small loaded_query
  loaded_small = record {
    few_terms = subst (λ n. n ≤ 4) (count_there 1) row.few_terms;
    few_atoms = subst (λ n. n ≤ 8) (count_there 6) row.few_atoms;
    answer_words = answer_word;
    variables = subst (λ q. (v : ℕ) → var v ∈ terms q → v < 32) (sym loaded) row.variables;
  }

pub ruleset laws = (rules, loaded, loaded_small)
