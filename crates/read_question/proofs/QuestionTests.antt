-- Refusals 3 to 5 on a question in words: what the loops over answer terms and atoms find, and the first refusal that applies.
use mathlib.Core.Path.{◌≡◌, refl, sym, ap, ap₂, ◌∙◌, subst}
use Prim.Native.Nat.{ℕ, ◌+◌, ◌-◌, ◌/◌, ◌≤◌, ◌<◌}
use native.Mathlib.Omega.{arith}
use mathlib.Core.Bool.{Bool, true, false, not, ◌||◌}
use mathlib.Core.List.{List, [], ◌∷◌, map}
use lib.Dec.{eqb}
use lib.ListN.{length, get_or, take, drop, length-take, length-drop, drop_of_length-le}
use lib.Seq.{take-length, get_or-take, drop-cons}
use native.Mathlib.Numerals.{add-one}
use Rattle.std.specs.List.{list_any}
use borrow.Author.Rules.{rules}
use borrow.Author.Tests.{eq-eqb, ne_eqb}
use Rattle.theory.specs.Lists.{any, all}
use Rattle.theory.specs.Refusals.{first_refusal}
use Rattle.theory.specs.Syntax.{Term, Atom, args, places, same_term, same_atom}
use Rattle.theory.proofs.Laws.Spellings.{same_atom_exchanged}
use Rattle.theory.specs.Laws.Scans.{some_from, all_from, test_at, scans}
use Rattle.theory.specs.Laws.Scans.{some_record, all_records}
use Rattle.words.specs.Laws.LowVariables.{word_below}
use Rattle.words.specs.Records.{term_of}
use Rattle.words.specs.Words.{query_of, TermWords, word_term, word_atom}
use Rattle.words.specs.Laws.Scans.{any_places}
use Rattle.words.specs.declared.QueryWords.{QueryWords}
use Rattle.words.specs.Limits.{sheet_width, word_object_bound, word_term_bound}
use Rattle.sheets.specs.Format.{question_length}
use Rattle.sheets.specs.Refusals.{number_of, question_refusals}
use Rattle.sheets.specs.Reading.{question_as_read}
use Rattle.sheets.specs.Tests.{covered, repeats, question_sound, refuses3, refuses4, refuses5}
use Rattle.read_question.specs.QuestionWords.{ReadFrom, Judged, QuestionRead}

-- ---- refusal 4

-- whether the term stands in the atom at place k
abbrev pub stands_at : ℕ → List ℕ → ℕ → Bool
stands_at t = test_at (λ a. any (same_term (word_term t)) (args a)) word_atom

pub stands_somewhere : (t : ℕ) (atoms : List ℕ) (b : Bool) → b ≡ some_from (stands_at t atoms) 0 (length atoms)
    → b ≡ any (same_term (word_term t)) (places (map word_atom atoms))
stands_somewhere t atoms b e =
    e ∙ some_record word_atom atoms (length atoms) (omega arith) (λ a. any (same_term (word_term t)) (args a))
    ∙ ap (λ l. any (λ a. any (same_term (word_term t)) (args a)) (map word_atom l)) (take-length atoms)
    ∙ any_places (same_term (word_term t)) (map word_atom atoms)

-- a variable is covered where it stands, an object always
module _ (atoms : List (Atom Term)) (t : ℕ) (v : Bool) (e : v ≡ eqb (t / word_object_bound) 0) where
  pub variable_covered : (b : Bool) → v ≡ true → b ≡ any (same_term (word_term t)) (places atoms) → b ≡ covered atoms (word_term t)
  unfolding covered term_of
  variable_covered b is f = f ∙ rw (← e, is)

  pub object_covered : v ≡ false → true ≡ covered atoms (word_term t)
  unfolding covered term_of
  object_covered is = rw (← e, is)

-- whether the answer term at place k is covered
abbrev pub covered_at : List ℕ → List ℕ → ℕ → Bool
covered_at answers atoms = test_at (covered (map word_atom atoms)) word_term answers

-- the words of answer terms that are there
pub term_below : (words : List ℕ) (n i : ℕ) → TermWords words → i < length (take n words) → get_or (take n words) i 0 < word_term_bound
term_below words n i h l = let k : i < n = omega (arith, length-take n words) in rw (get_or-take n words i 0 k) (h i)

module _ (q : QueryWords) (answers atoms : List ℕ) (a : answers ≡ take q.terms q.answers) (b : atoms ≡ take q.size q.atoms) where
  tested4 : not (all_from (covered_at answers atoms) 0 (length answers)) ≡ refuses4 (query_of q)
  unfolding refuses4 query_of
  tested4 =
      ap not (all_records word_term answers (length answers) (omega arith) (covered (map word_atom atoms))
      ∙ ap (λ ws. all (covered (map word_atom atoms)) (map word_term ws)) (take-length answers)
      ∙ ap₂ (λ ws vs. all (covered (map word_atom vs)) (map word_term ws)) a b)

  pub refused4 : false ≡ all_from (covered_at answers atoms) 0 (length answers) → true ≡ refuses4 (query_of q)
  refused4 e = ap not e ∙ tested4

  pub passed4 : true ≡ all_from (covered_at answers atoms) 0 (length answers) → false ≡ refuses4 (query_of q)
  passed4 e = ap not e ∙ tested4

-- ---- refusal 5

pub among : (a : ℕ) (atoms : List ℕ) → list_any (λ b. same_atom (word_atom a) (word_atom b)) atoms
    ≡ any (same_atom (word_atom a)) (map word_atom atoms)
unfolding any
among a [] = refl
among a (b ∷ atoms) = ap (λ r. same_atom (word_atom a) (word_atom b) || r) (among a atoms)

module _ (atoms : List ℕ) (i : ℕ) (r : Bool) (so_far : repeats (map word_atom (drop i atoms)) ≡ r) where
  next : i < length atoms
      → (any (same_atom (word_atom (get_or atoms i 0))) (map word_atom (drop (i + 1) atoms)) || repeats (map word_atom (drop
      (i + 1) atoms))) ≡ r
  unfolding repeats
  next h = rw add-one (sym (ap (λ l. repeats (map word_atom l)) (drop-cons atoms i 0 h)) ∙ so_far)

  -- the atoms after place i, as a slice of them
  module _ (h : i < length atoms) (b : Bool)
      (e : b ≡ any (same_atom (word_atom (get_or atoms i 0))) (map word_atom (take (length atoms - (i + 1)) (drop (i + 1) atoms)))) where
    found : b ≡ any (same_atom (word_atom (get_or atoms i 0))) (map word_atom (drop (i + 1) atoms))
    found = e ∙ ap (λ l. any (same_atom (word_atom (get_or atoms i 0))) (map word_atom l))
        (ap (λ n. take n (drop (i + 1) atoms)) (sym (length-drop (i + 1) atoms)) ∙ take-length (drop (i + 1) atoms))

    pub stands_again : b ≡ true → true ≡ r
    stands_again t = let n = next h in rw (sym found ∙ t) at n

    pub no_more : b ≡ false → repeats (map word_atom (drop (i + 1) atoms)) ≡ r
    no_more f = let n = next h in rw (sym found ∙ f) at n

  pub none_again : length atoms ≤ i → false ≡ r
  unfolding repeats
  none_again h = sym (ap (λ l. repeats (map word_atom l)) (drop_of_length-le atoms h)) ∙ so_far

pub tested5 : (q : QueryWords) (b : Bool) → b ≡ repeats (map word_atom (take q.size q.atoms)) → b ≡ refuses5 (query_of q)
unfolding refuses5 query_of
tested5 q b e = e

-- ---- the first refusal

-- 4 and 5, of a question that was read
module _ (q r : QueryWords) (n : ℕ) (x : Bool) (e : x ≡ refuses4 (query_of q)) where
  pub meets4 : x ≡ true → n ≡ 4 → Judged q n r
  unfolding number_of first_refusal
  meets4 t f = record { number_is = f ∙ rw (← e, t); same = λ none. absurd (omega arith) }

  module _ (passes : x ≡ false) (y : Bool) (d : y ≡ refuses5 (query_of q)) where
    pub meets5 : y ≡ true → n ≡ 5 → Judged q n r
    unfolding number_of first_refusal
    meets5 t f = record { number_is = f ∙ rw (← e, passes, ← d, t); same = λ none. absurd (omega arith) }

-- neither
pub meets_none : (q : QueryWords) (x y : Bool) → x ≡ refuses4 (query_of q) → x ≡ false → y ≡ refuses5 (query_of q) → y ≡ false
    → Judged q 0 q
unfolding number_of first_refusal
meets_none q x y e f d g = record { number_is = rw (← e, f, ← d, g); same = λ none. refl }

-- 3, and those after it, of a sheet
module _ (p s : List ℕ) (n : ℕ) (q : QueryWords) where
  refused3 : n ≡ 3 → refuses3 sheet_width s ≡ true → QuestionRead p s n q
  unfolding number_of first_refusal question_refusals
  refused3 e f = record { number_is = e ∙ simp f; query = λ none. absurd (omega arith) }

  other_length : n ≡ 3 → (length s ≡ question_length sheet_width s 0 → ⊥) → QuestionRead p s n q
  unfolding refuses3
  other_length e f = refused3 e (simp (ne_eqb (length s) (question_length sheet_width s 0) f))

  pub empty_sheet : n ≡ 3 → length s ≡ 0 → QuestionRead p s n q
  empty_sheet e z = other_length e (λ f. omega arith)

  pub wrong_length_lem : (k : ℕ) → n ≡ 3 → k ≡ question_length sheet_width s 0 → (length s ≡ k → ⊥) → QuestionRead p s n q
  wrong_length_lem k e f g = other_length e (λ z. g (z ∙ sym f))

  module _ (k : ℕ) (f : k ≡ question_length sheet_width s 0) (g : length s ≡ k) (b : Bool) (h : b ≡ question_sound sheet_width s 0) where
    pub unsound : n ≡ 3 → b ≡ false → QuestionRead p s n q
    unfolding refuses3
    unsound e i = refused3 e (simp (eq-eqb (length s) (question_length sheet_width s 0) (g ∙ f), sym h ∙ i))

    pub later_refusals : (r : QueryWords) → b ≡ true → ReadFrom p s 0 r → Judged r n q → QuestionRead p s n q
    unfolding first_refusal question_refusals question_as_read refuses3
    later_refusals r i read judged = record {
      number_is = rw (sym read.query_is, eq-eqb (length s) (question_length sheet_width s 0) (g ∙ f), sym h ∙ i) judged.number_is;
      query = λ none. subst (λ x. ReadFrom p s 0 x) (sym (judged.same none)) read;
    }

pub ruleset laws = (
  rules,
  scans,
  same_atom_exchanged,
  stands_somewhere,
  variable_covered,
  object_covered,
  word_below,
  refused4,
  passed4,
  term_below,
  stands_again,
  no_more,
  none_again,
  tested5,
  meets4,
  meets5,
  meets_none,
  empty_sheet,
  wrong_length_lem,
  unsound,
  later_refusals,
)
