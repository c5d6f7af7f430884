-- 01: "Variables are 0 to 31". What this says of words.
use Rattle.std.specs.Prelude.{◌≡◌, ℕ, ◌/◌, ◌%◌, ◌≤◌, ◌<◌, List, length, get_or, take}
use Rattle.std.proofs.Common.{sym, ap, ◌∙◌, subst, arith, get_or-take, length-take-le, eq-eqb, ne_eqb}
use Rattle.std.proofs.Math.Decide.{ℕ_discrete, dec_lt}
use mathlib.Core.List.Memᴰ
use Rattle.std.proofs.Math.Seq.{split_at}
use Rattle.theory.specs.Lists.{◌∈◌}
use Rattle.theory.specs.Syntax.{var, const, concept, role, args}
use Rattle.theory.specs.Laws.Lists.{mem_along}
use Rattle.theory.proofs.Laws.Syntax.{terms_answers, terms_atoms}
use Rattle.words.specs.Records.{term_of, atom_of}
use Rattle.words.specs.Words.{LowTerm, LowAtom, TermWords, query_of, Small, word_term, word_atom, word_kind, word_name, word_first}
use Rattle.words.specs.Words.{word_second}
use Rattle.words.specs.declared.QueryWords.{QueryWords}
use Rattle.words.specs.Limits.{word_object_bound, word_term_bound}

-- ---- where this holds of a query's words

word_in : (words : List ℕ) (i n : ℕ) → i < n → n ≤ length words → get_or words i 0 ∈ take n words
word_in words i n h g =
    mem_along (sym (split_at (take n words) i 0 (rw (length-take-le n words g) h)))
    (Memᴰ.append_right (take i (take n words)) (Memᴰ.head (sym (get_or-take n words i 0 h))))

module _ (q : QueryWords) (i : ℕ) (s : Small q) where
  pub answer_low : length q.answers ≡ 4 → i < q.terms → LowTerm (get_or q.answers i 0)
  unfolding query_of
  answer_low l h v e =
      let f = s.few_terms in
      s.variables v (terms_answers (query_of q) (Memᴰ.cast e (Memᴰ.map word_term (word_in q.answers i q.terms h (omega arith)))))

  pub atom_low : length q.atoms ≡ 8 → i < q.size → LowAtom (get_or q.atoms i 0)
  unfolding query_of
  atom_low l h v m =
      let f = s.few_atoms in
      s.variables v (terms_atoms (query_of q) (Memᴰ.map word_atom (word_in q.atoms i q.size h (omega arith))) m)

-- ---- the terms of an atom's word

pub concept_atom : (a : ℕ) → word_kind a ≡ 0 → word_atom a ≡ concept (word_name a) (word_term (word_first a))
unfolding atom_of
concept_atom a e = simp (eq-eqb (word_kind a) 0 e)

pub role_atom : (a : ℕ) → (word_kind a ≡ 0 → ⊥) → word_atom a ≡ role (word_name a) (word_term (word_first a)) (word_term (word_second a))
unfolding atom_of
role_atom a e = simp (ne_eqb (word_kind a) 0 e)

pub first_low : (a t : ℕ) → LowAtom a → t ≡ word_first a → LowTerm t
first_low a t low e v d =
    elim (ℕ_discrete (word_kind a) 0) [
      | yes k ↦ low v (subst (λ x. var v ∈ args x) (sym (concept_atom a k)) (Memᴰ.head (d ∙ ap word_term e)))
      | no k ↦ low v (subst (λ x. var v ∈ args x) (sym (role_atom a k)) (Memᴰ.head (d ∙ ap word_term e)))
    ]

pub second_low : (a t k : ℕ) → LowAtom a → k ≡ word_kind a → (k ≡ 0 → ⊥) → t ≡ word_second a → LowTerm t
second_low a t k low ka z e v d =
    low v (subst (λ x. var v ∈ args x) (sym (role_atom a (λ y. z (ka ∙ y)))) (Memᴰ.tail (Memᴰ.head (d ∙ ap word_term e))))

-- ---- the term of a word

-- the word of a variable is its number
pub variable_word : (v : ℕ) → v < word_object_bound → word_term v ≡ var v
unfolding term_of
variable_word v h =
    let high : v / word_object_bound ≡ 0 = omega arith in
    let low : v % word_object_bound ≡ v = omega arith in
    simp (high, low)

-- a word from 32 on is that of an object
pub object_high : (t : ℕ) → LowTerm t → 32 ≤ t → word_object_bound ≤ t
object_high t low h =
    elim (dec_lt t word_object_bound) [
      | yes l ↦ (let below : t < 32 = low t (sym (variable_word t l)) in absurd (omega arith))
      | no l ↦ omega arith
    ]

pub low_word : (t : ℕ) → t < 32 → word_term t ≡ var t
low_word t h = variable_word t (omega arith)

pub object_term : (t : ℕ) → LowTerm t → 32 ≤ t → word_term t ≡ const (t % word_object_bound)
unfolding term_of
object_term t low h =
    let far : word_object_bound ≤ t = object_high t low h in
    let high : t / word_object_bound ≡ 0 → ⊥ = (λ e. omega arith) in
    simp (ne_eqb (t / word_object_bound) 0 high)

-- the word at index i is that of a term
pub word_below : (words : List ℕ) (i : ℕ) → TermWords words → get_or words i 0 < word_term_bound
word_below words i h = h i
