-- A question's records, by the laws for records in a row, and a question in words: what the code computes is what the definitions say.
use mathlib.Core.Path.{◌≡◌, refl, sym, ◌∙◌}
use Prim.Native.Nat.{ℕ, zero, suc, ◌+◌, ◌*◌, ◌≤◌, ◌<◌}
use native.Mathlib.Omega.{arith}
use mathlib.Core.Bool.{Bool, true, false, ◌&&◌, and-false}
use mathlib.Core.List.{List, [], ◌∷◌, ◌++◌, map, map-map}
use lib.Dec.{ltb, leb, lit<}
use lib.ListN.{take, set}
use borrow.Author.Rules.{rules}
use borrow.Author.Tests.{lt-leb, le-leb, ltb-true, leb-true}
use Rattle.theory.specs.Lists.{all}
use Rattle.theory.specs.Syntax.{Atom, Term}
use Rattle.words.specs.Limits.{sheet_width, sheet_term_bound, word_term_bound, most_terms, most_atoms, answer_bytes, record_bytes}
use Rattle.words.specs.Records.{term_of, atom_of}
use Rattle.words.specs.Words.{query_of, TermWords, word_term, word_atom}
use Rattle.sheets.specs.Format.{term_count, atom_count, answer_records, atom_records, query_at}
use Rattle.sheets.specs.Partners.{atom_as_read, query_as_read}
use Rattle.sheets.specs.Tests.{term_sound, answer_sound, atom_sound, question_sound}
use Rattle.sheets.specs.Laws.RecordLoops.{Nth, left}
use Rattle.sheets.proofs.Laws.RecordLoops.{row_laws, each_passes, fill_ends}
use Rattle.read_question.specs.QuestionWords.{answers_from, atoms_from}

-- ---- a sound question

-- by its counts; what the code names is one more than the most
module _ (s : List ℕ) (at : ℕ) where
  pub many_terms : (terms n : ℕ) → terms ≡ term_count s at → n ≤ terms → leb (most_terms + 1) n ≡ true
      → false ≡ question_sound sheet_width s at
  unfolding question_sound
  many_terms terms n e h l = rw (← e, lt-leb terms most_terms (omega (arith, leb-true (most_terms + 1) n l)))

  pub no_atoms : (size : ℕ) → size ≡ atom_count s at → size < 1 → false ≡ question_sound sheet_width s at
  unfolding question_sound
  no_atoms size d h = rw (← d, lt-leb 1 size h, and-false)

  pub many_atoms : (size n : ℕ) → size ≡ atom_count s at → n ≤ size → leb (most_atoms + 1) n ≡ true → false
      ≡ question_sound sheet_width s at
  unfolding question_sound
  many_atoms size n d h l = rw (← d, lt-leb size most_atoms (omega (arith, leb-true (most_atoms + 1) n l)), and-false)

-- and by its records, where the counts are in range
pub records_decide : (s : List ℕ) (at terms size : ℕ) (r : Bool) → terms ≡ term_count s at → size ≡ atom_count s at
    → r ≡ (all (answer_sound sheet_width) (answers_from s (at + 1) terms)
    && all (atom_sound sheet_width) (atoms_from s (at + 1 + answer_bytes sheet_width * terms) size))
    → (n m : ℕ) → terms < n → leb n (most_terms + 1) ≡ true → 1 ≤ size → size < m → leb m (most_atoms + 1) ≡ true
    → r ≡ question_sound sheet_width s at
unfolding question_sound
records_decide s at terms size r e d f n m a l b c k =
    rw (
      ← e,
      le-leb terms most_terms (omega (arith, leb-true n (most_terms + 1) l)),
      ← d,
      le-leb 1 size b,
      le-leb size most_atoms (omega (arith, leb-true m (most_atoms + 1) k)),
    ) f

-- ---- the words of a question

-- what is read of an atom record
abbrev pub atom_read : List ℕ → ℕ → Atom Term
atom_read p x = atom_as_read p (atom_of sheet_width x)

pub atoms_filled : (p s : List ℕ) (from n : ℕ) (words : List ℕ) (i : ℕ) → i ≤ n → n ≤ i
    → map word_atom (take i words) ++ map (atom_read p) (left (record_bytes sheet_width) s from n i)
    ≡ map (atom_read p) (atoms_from s from n)
    → map word_atom (take n words) ≡ map (atom_as_read p) (map (atom_of sheet_width) (atoms_from s from n))
atoms_filled p s from n words i most past so_far =
    fill_ends word_atom (atom_read p) (record_bytes sheet_width) s from n words i (map (atom_read p) (atoms_from s from n)) so_far most past
    ∙ sym (map-map (atom_as_read p) (atom_of sheet_width) (atoms_from s from n))

-- no word is above that of a term, at first and after a store
pub no_words : TermWords (0 ∷ 0 ∷ 0 ∷ 0 ∷ [])
no_words zero = lit< tt
no_words (suc zero) = lit< tt
no_words (suc (suc zero)) = lit< tt
no_words (suc (suc (suc zero))) = lit< tt
no_words (suc (suc (suc (suc k)))) = lit< tt

pub word_stored : (words : List ℕ) (i v : ℕ) → TermWords words → v < word_term_bound → TermWords (set words i v)
word_stored [] i v t h k = t k
word_stored (x ∷ words) zero v t h zero = h
word_stored (x ∷ words) zero v t h (suc k) = t (suc k)
word_stored (x ∷ words) (suc i) v t h zero = t zero
word_stored (x ∷ words) (suc i) v t h (suc k) = word_stored words i v (λ j. t (suc j)) h k

-- ---- what a sound question's counts and records are

and_left : (a b : Bool) → (a && b) ≡ true → a ≡ true
and_left true b e = refl
and_left false b e = e

and_right : (a b : Bool) → (a && b) ≡ true → b ≡ true
and_right true b e = e
and_right false b e = absurd (let z : ◌≡◌ {A = ℕ} 0 1 = cc in omega arith)

-- an answer record fits a term
pub narrow : (s : List ℕ) (from n i x : ℕ) → i < n → all (answer_sound sheet_width) (answers_from s from n) ≡ true
    → Nth (answer_bytes sheet_width) s from i x → x < sheet_term_bound
unfolding answer_sound
narrow s from n i x h e here =
    ltb-true x sheet_term_bound (and_left (ltb x sheet_term_bound) (term_sound sheet_width x)
    (each_passes (answer_sound sheet_width) (answer_bytes sheet_width) s from n i x e h here))

module _ (s : List ℕ) (at : ℕ) (sound : question_sound sheet_width s at ≡ true) where
  counts : Bool
  counts = leb (term_count s at) most_terms && leb 1 (atom_count s at) && leb (atom_count s at) most_atoms

  answers : Bool
  answers = all (answer_sound sheet_width) (answer_records sheet_width s at)

  both : (counts && answers) ≡ true
  unfolding question_sound counts answers
  both = and_left (counts && answers) (all (atom_sound sheet_width) (atom_records sheet_width s at)) sound

  ranges : (leb (term_count s at) most_terms && leb 1 (atom_count s at) && leb (atom_count s at) most_atoms) ≡ true
  unfolding counts
  ranges = and_left counts answers both

  module _ (terms : ℕ) (e : terms ≡ term_count s at) where
    pub few_terms : terms ≤ most_terms
    few_terms =
        rw e (leb-true (term_count s at) most_terms (and_left (leb (term_count s at) most_terms) (leb 1 (atom_count s at))
        (and_left (leb (term_count s at) most_terms && leb 1 (atom_count s at)) (leb (atom_count s at) most_atoms) ranges)))

    pub answers_pass : all (answer_sound sheet_width) (answers_from s (at + 1) terms) ≡ true
    unfolding answers
    answers_pass = rw e (and_right counts answers both)

  module _ (size : ℕ) (d : size ≡ atom_count s at) where
    pub some_atoms : 1 ≤ size
    some_atoms =
        rw d (leb-true 1 (atom_count s at) (and_right (leb (term_count s at) most_terms) (leb 1 (atom_count s at))
        (and_left (leb (term_count s at) most_terms && leb 1 (atom_count s at)) (leb (atom_count s at) most_atoms) ranges)))

    pub few_atoms : size ≤ most_atoms
    few_atoms =
        rw d (leb-true (atom_count s at) most_atoms
        (and_right (leb (term_count s at) most_terms && leb 1 (atom_count s at)) (leb (atom_count s at) most_atoms) ranges))

-- the question that was read
pub query_read : (p s : List ℕ) (at terms size : ℕ) (answers atoms : List ℕ) → terms ≡ term_count s at → size ≡ atom_count s at
    → map word_term (take terms answers) ≡ map (term_of sheet_width) (answers_from s (at + 1) terms)
    → map word_atom (take size atoms)
    ≡ map (atom_as_read p) (map (atom_of sheet_width) (atoms_from s (at + 1 + answer_bytes sheet_width * terms) size))
    → query_of (record { terms = terms; answers = answers; size = size; atoms = atoms }) ≡ query_as_read p (query_at sheet_width s at)
unfolding query_of query_as_read query_at
query_read p s at terms size answers atoms e d f g = rw (f, g, e, d)

pub ruleset laws = (
  rules,
  row_laws,
  many_terms,
  no_atoms,
  many_atoms,
  records_decide,
  atoms_filled,
  no_words,
  word_stored,
  narrow,
  few_terms,
  answers_pass,
  some_atoms,
  few_atoms,
  query_read,
)
