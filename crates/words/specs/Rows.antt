-- What is known of the table that a union's members stand in, in a row of 16 words each.
use Rattle.std.specs.Prelude.{◌≡◌, ℕ, ◌+◌, ◌*◌, ◌≤◌, ◌<◌, List, ◌++◌, length, get_or, drop}
use Rattle.theory.specs.Lists.{◌∈◌, Unrepeated}
use Rattle.theory.specs.Syntax.{var, terms, Member, UCQ}
use Rattle.words.specs.Words.{member_of, stride}
use Rattle.words.specs.Limits.{word_term_bound, most_terms, most_atoms}

-- the words of a member: the counts are in range, the answer words are terms, the variables are 0 to 31, and no atom stands twice
pub record Row (row : List ℕ) : Type 0 where
  pub few_terms : get_or row 1 0 ≤ 4
  pub few_atoms : get_or row 6 0 ≤ 8
  pub answer_words : (k : ℕ) → k < 4 → get_or row (2 + k) 0 < word_term_bound
  pub variables : (v : ℕ) → var v ∈ terms (member_of row).query → v < 32
  pub distinct : Unrepeated (member_of row).query.atoms

-- the table from the row of member j on
abbrev pub row_at : List ℕ → ℕ → List ℕ
row_at table j = drop (stride * j) table

-- member j of a table
abbrev pub member_in : List ℕ → ℕ → Member
member_in table j = member_of (row_at table j)

-- the table has n members
pub record Rows (table : List ℕ) (n : ℕ) : Type 0 where
  pub long : stride * n ≤ length table
  pub each : (j : ℕ) → j < n → Row (row_at table j)

-- every member has so many answer terms: 01 refuses any other union
pub record Arity (union : UCQ) (terms : ℕ) : Type 0 where
  pub each : (m : Member) → m ∈ union → length m.query.answers ≡ terms

-- ---- rows that are made

-- a row's counts are in range, and its answer words are terms
pub record NarrowRow (row : List ℕ) : Type 0 where
  pub few_terms : get_or row 1 0 ≤ most_terms
  pub few_atoms : get_or row 6 0 ≤ most_atoms
  pub answer_words : (k : ℕ) → k < most_terms → get_or row (2 + k) 0 < word_term_bound

-- the first n rows of a table are narrow
pub record NarrowRows (table : List ℕ) (n : ℕ) : Type 0 where
  pub each : (j : ℕ) → j < n → NarrowRow (drop (stride * j) table)

-- a row is a member's, whatever stands after it in a table
pub record RowOf (m : Member) (row : List ℕ) : Type 0 where
  pub full : length row ≡ stride
  pub holds : (rest : List ℕ) → member_of (row ++ rest) ≡ m
  pub narrow : NarrowRow row
