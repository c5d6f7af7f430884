-- What is known of a question that was read into words, and what reading a question's sheet gives.
use Rattle.std.specs.Prelude.{◌≡◌, ℕ, ◌+◌, ◌*◌, ◌≤◌, List, [], ◌∷◌, Result, Ok, Err}
use Rattle.theory.specs.Refusals.{first_refusal}
use Rattle.words.specs.Limits.{sheet_width, most_terms, most_atoms, answer_bytes, record_bytes}
use Rattle.words.specs.Words.{query_of, TermWords}
use Rattle.words.specs.declared.QueryWords.{QueryWords}
use Rattle.words.specs.declared.refusals.Refusal.{Refusal}
use Rattle.sheets.specs.Format.{records_from, term_count, atom_count, query_at}
use Rattle.sheets.specs.Partners.{query_as_read}
use Rattle.sheets.specs.Refusals.{number_of, question_refusals}
use Rattle.sheets.specs.Tests.{refuses4, refuses5}

-- q is the question at byte `at` of the sheet s
pub record ReadFrom (partners s : List ℕ) (at : ℕ) (q : QueryWords) : Type 0 where
  -- as read
  pub query_is : query_of q ≡ query_as_read partners (query_at sheet_width s at)
  -- its counts are the sheet's, and in range
  pub terms_are : q.terms ≡ term_count s at
  pub atoms_are : q.size ≡ atom_count s at
  pub few_terms : q.terms ≤ most_terms
  pub some_atoms : 1 ≤ q.size
  pub few_atoms : q.size ≤ most_atoms
  -- its answer words are terms, those past the count too
  pub answer_words : TermWords q.answers

-- r is the question q, unless it meets 4 or 5
pub record Judged (q : QueryWords) (number : ℕ) (r : QueryWords) : Type 0 where
  pub number_is : number ≡ number_of (first_refusal ((4, refuses4 (query_of q)) ∷ (5, refuses5 (query_of q)) ∷ []))
  pub same : number ≡ 0 → r ≡ q

-- the question in words, on a refusal one without terms and atoms
abbrev pub query_in : Result QueryWords Refusal → QueryWords
query_in (Ok q) = q
query_in (Err refusal) = record {
  terms = 0;
  answers = 0 ∷ 0 ∷ 0 ∷ 0 ∷ [];
  size = 0;
  atoms = 0 ∷ 0 ∷ 0 ∷ 0 ∷ 0 ∷ 0 ∷ 0 ∷ 0 ∷ [];
}

pub record QuestionRead (partners s : List ℕ) (number : ℕ) (q : QueryWords) : Type 0 where
  -- the number is that of the first of 3 to 5 that applies
  pub number_is : number ≡ number_of (first_refusal (question_refusals partners sheet_width s))
  -- where none does, q is the sheet's question
  pub query : number ≡ 0 → ReadFrom partners s 0 q

-- n answer terms, n atoms, from byte `from` on, as numbers
abbrev pub answers_from : List ℕ → ℕ → ℕ → List ℕ
answers_from s from n = records_from (answer_bytes sheet_width) s from n

abbrev pub atoms_from : List ℕ → ℕ → ℕ → List ℕ
atoms_from s from n = records_from (record_bytes sheet_width) s from n

-- the longest that two counts of 4 bits make a question, sound or not
abbrev pub longest_counted : ℕ
longest_counted = 1 + answer_bytes sheet_width * 15 + record_bytes sheet_width * 15
