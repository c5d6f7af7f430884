-- The sets that the loops over a query's words build hold its variables.
use mathlib.Core.Path.{◌≡◌, refl, sym, ap, ◌∙◌, subst}
use Prim.Native.Nat.{ℕ, ◌+◌, ◌≤◌, ◌<◌}
use native.Mathlib.Omega.{arith}
use mathlib.Core.Bool.{false, ◌||◌, or_assoc, or_comm, or-false}
use mathlib.Core.List.{List, [], ◌∷◌, ◌++◌, map, append_assoc, append-nil}
use lib.Dec.{eqb}
use lib.ListN.{length, get_or, take}
use borrow.Author.Rules.{rules}
use Rattle.theory.specs.Lists.{any}
use Rattle.theory.specs.Syntax.{Term, var, Atom, args, places, terms, same_term}
use Rattle.theory.specs.Laws.Lists.{any_append}
use Rattle.theory.proofs.Laws.Spellings.{spellings}
use Rattle.theory.specs.Laws.Scans.{first_more}
use Rattle.words.specs.Words.{query_of, word_term, word_atom, word_kind, word_first, word_second, LowTerm, first_of, second_of}
use Rattle.words.specs.Words.{second_of}
use Rattle.words.specs.declared.QueryWords.{QueryWords}
use Rattle.words.specs.Laws.LowVariables.{answer_low, atom_low, concept_atom, role_atom, first_low, second_low}
use Rattle.words.specs.Laws.LowVariables.{variable_word, object_term}
use Rattle.query_sets.specs.Sets.{holds}
use Rattle.query_sets.specs.Laws.Digits.{holds_none}
use Rattle.query_variables.specs.UsedVariables.{AddsVariables}

-- ---- terms put in, one after the other

adds_none : (set : ℕ) → AddsVariables [] set set
unfolding any
adds_none set = record { adds = λ u. refl }

adds_more : (xs ys zs : List Term) (set r s : ℕ) → xs ++ ys ≡ zs → AddsVariables xs set r → AddsVariables ys r s → AddsVariables zs set s
adds_more xs ys zs set r s e first second = record {
  adds = λ u.
      second.adds u ∙ ap (λ b. any (same_term (var u)) ys || b) (first.adds u)
      ∙ sym (or_assoc (any (same_term (var u)) ys) (any (same_term (var u)) xs) (holds set u))
      ∙ ap (λ b. b || holds set u)
      (or_comm (any (same_term (var u)) ys) (any (same_term (var u)) xs)
      ∙ sym (any_append (same_term (var u)) xs ys) ∙ ap (any (same_term (var u))) e);
}

-- ---- a term

high_object : (t u : ℕ) → LowTerm t → 32 ≤ t → same_term (var u) (word_term t) ≡ false
unfolding same_term
high_object t u low h = simp (object_term t low h)

pub variable_put : (set t r : ℕ) → t < 32 → ((u : ℕ) → holds r u ≡ (eqb u t || holds set u)) → AddsVariables (word_term t ∷ []) set r
unfolding any same_term
variable_put set t r h put = record { adds = λ u. put u ∙ sym (simp (variable_word t (omega arith), or-false)) }

pub object_passed : (set t : ℕ) → LowTerm t → 32 ≤ t → AddsVariables (word_term t ∷ []) set set
unfolding any
object_passed set t low h = record { adds = λ u. sym (simp (high_object t u low h)) }

-- ---- an atom

module _ (a k : ℕ) (ka : k ≡ word_kind a) where
  concept_args : k ≡ 0 → first_of a ∷ [] ≡ args (word_atom a)
  concept_args z = sym (ap args (concept_atom a (sym ka ∙ z)))

  role_args : (k ≡ 0 → ⊥) → first_of a ∷ second_of a ∷ [] ≡ args (word_atom a)
  role_args z = sym (ap args (role_atom a (λ y. z (ka ∙ y))))

  pub concept_put : (set f r : ℕ) → k ≡ 0 → f ≡ word_first a → AddsVariables (word_term f ∷ []) set r
      → AddsVariables (args (word_atom a)) set r
  concept_put set f r z fa first = adds_more (word_term f ∷ []) [] (args (word_atom a)) set r r (simp fa (concept_args z)) first
      (adds_none r)

  pub role_put : (set f g r s : ℕ) → (k ≡ 0 → ⊥) → f ≡ word_first a → g ≡ word_second a → AddsVariables (word_term f ∷ []) set r
      → AddsVariables (word_term g ∷ []) r s → AddsVariables (args (word_atom a)) set s
  role_put set f g r s z fa ga = adds_more (word_term f ∷ []) (word_term g ∷ []) (args (word_atom a)) set r s (simp (fa, ga) (role_args z))

-- ---- the words of a query

places_append : (as' bs : List (Atom Term)) → places (as' ++ bs) ≡ places as' ++ places bs
places_append [] bs = refl
places_append (a ∷ as') bs = ap (λ l. args a ++ l) (places_append as' bs) ∙ sym (append_assoc (args a) (places as') (places bs))

-- the first i answer terms, and the places of the first i atoms
abbrev pub first_answers : ℕ → List ℕ → List Term
first_answers i answers = map word_term (take i answers)

abbrev pub first_places : ℕ → List ℕ → List Term
first_places i atoms = places (map word_atom (take i atoms))

-- none at first, one more in each turn, all at the end
module _ (start set r i : ℕ) (words : List ℕ) where
  pub no_answer_put : AddsVariables (first_answers 0 words) set set
  no_answer_put = adds_none set

  pub answer_put : (n : ℕ) → length words ≡ 4 → i < n → n ≤ 4 → AddsVariables (first_answers i words) start set
      → AddsVariables (word_term (get_or words i 0) ∷ []) set r → AddsVariables (first_answers (i + 1) words) start r
  answer_put n l h g =
      adds_more (first_answers i words) (word_term (get_or words i 0) ∷ []) (first_answers (i + 1) words) start set r
      (sym (first_more word_term words i (omega arith)))

  pub no_atom_put : AddsVariables (first_places 0 words) set set
  no_atom_put = adds_none set

  pub atom_put : (n : ℕ) → length words ≡ 8 → i < n → n ≤ 8 → AddsVariables (first_places i words) start set
      → AddsVariables (args (word_atom (get_or words i 0))) set r → AddsVariables (first_places (i + 1) words) start r
  atom_put n l h g =
      adds_more (first_places i words) (args (word_atom (get_or words i 0))) (first_places (i + 1) words) start set r
      (sym (ap places (first_more word_atom words i (omega arith))
      ∙ places_append (map word_atom (take i words)) (word_atom (get_or words i 0) ∷ [])
      ∙ ap (λ l. first_places i words ++ l) (append-nil (args (word_atom (get_or words i 0))))))

module _ (q : QueryWords) (set r i : ℕ) where
  pub answers_put : i ≤ q.terms → q.terms ≤ i → AddsVariables (first_answers i q.answers) set r
      → AddsVariables (query_of q).answers set r
  unfolding query_of
  answers_put h g put = let e : i ≡ q.terms = omega arith in subst (λ k. AddsVariables (first_answers k q.answers) set r) e put

  pub atoms_put : i ≤ q.size → q.size ≤ i → AddsVariables (first_places i q.atoms) set r
      → AddsVariables (places (query_of q).atoms) set r
  unfolding query_of
  atoms_put h g put = let e : i ≡ q.size = omega arith in subst (λ k. AddsVariables (first_places k q.atoms) set r) e put

module _ (q : QueryWords) (set r : ℕ) where
  pub all_put : AddsVariables (query_of q).answers 0 set → AddsVariables (places (query_of q).atoms) set r → (u : ℕ)
      → holds r u ≡ any (same_term (var u)) (terms (query_of q))
  all_put answers atoms u =
      (adds_more (query_of q).answers (places (query_of q).atoms) (terms (query_of q)) 0 set r refl answers atoms).adds u
      ∙ ap (λ b. any (same_term (var u)) (terms (query_of q)) || b) (holds_none u) ∙ or-false (any (same_term (var u)) (terms (query_of q)))

pub ruleset laws = (
  rules,
  spellings,
  variable_put,
  object_passed,
  second_low,
  concept_put,
  role_put,
  first_low,
  answer_low,
  atom_low,
  no_answer_put,
  answer_put,
  no_atom_put,
  atom_put,
  answers_put,
  atoms_put,
  all_put,
)
