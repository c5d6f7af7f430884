-- What the words hold that the code works on: the records of Records at the words' width. A term has 25 bits, an atom and a fact 64.
use Rattle.std.specs.Prelude.{ℕ, ◌*◌, ◌≤◌, ◌<◌, ◌≡◌, List, map, get_or, take, drop}
use Rattle.theory.specs.Lists.{◌∈◌, numbers}
use Rattle.theory.specs.Syntax.{Term, var, Atom, Query, args, terms, Member, UCQ, Rule, Fact}
use Rattle.words.specs.Records.{rule_in, term_of, atom_kind, atom_name, atom_first, atom_second, atom_of, fact_of, step_of}
use Rattle.words.specs.declared.QueryWords.{QueryWords}
use Rattle.words.specs.Limits.{word_width, word_term_bound, most_terms, most_atoms, most_members}

-- the term, the atom, the fact in a word
abbrev pub word_term : ℕ → Term
word_term = term_of word_width

abbrev pub word_atom : ℕ → Atom Term
word_atom = atom_of word_width

abbrev pub word_fact : ℕ → Fact
word_fact = fact_of word_width

-- the fields of an atom's word
abbrev pub word_kind : ℕ → ℕ
word_kind = atom_kind word_width

abbrev pub word_name : ℕ → ℕ
word_name = atom_name word_width

abbrev pub word_first : ℕ → ℕ
word_first = atom_first word_width

abbrev pub word_second : ℕ → ℕ
word_second = atom_second word_width

-- each word is that of a term
abbrev pub TermWords : List ℕ → Type 0
TermWords words = (k : ℕ) → get_or words k 0 < word_term_bound

-- the query in a struct: so many answer terms, so many atoms
unfoldable pub query_of : QueryWords → Query
unfolding term_of atom_of
query_of q = record { answers = map word_term (take q.terms q.answers); atoms = map word_atom (take q.size q.atoms) }

-- what is known of every query that was read: the counts are in range, the answer words are terms, the variables are 0 to 31
pub record Small (q : QueryWords) : Type 0 where
  pub few_terms : q.terms ≤ most_terms
  pub few_atoms : q.size ≤ most_atoms
  pub answer_words : TermWords q.answers
  pub variables : (v : ℕ) → var v ∈ terms (query_of q) → v < 32

-- 01: "Variables are 0 to 31": the word's term is no variable from 32 on
abbrev pub LowTerm : ℕ → Type 0
LowTerm t = (v : ℕ) → var v ≡ word_term t → v < 32

-- nor is any term of the word's atom
abbrev pub LowAtom : ℕ → Type 0
LowAtom a = (v : ℕ) → var v ∈ args (word_atom a) → v < 32

-- the terms in an atom's first and second place
abbrev pub first_of : ℕ → Term
first_of a = word_term (word_first a)

abbrev pub second_of : ℕ → Term
second_of a = word_term (word_second a)

-- the rules in the first n words of a table, the facts likewise
unfoldable pub rules_in : List ℕ → ℕ → List Rule
unfolding rule_in
rules_in table n = map rule_in (take n table)

unfoldable pub facts_in : List ℕ → ℕ → List Fact
unfolding fact_of
facts_in table n = map word_fact (take n table)

-- The members in a table of 16 words each: the step, the number of answer terms, four answer terms, the number of atoms, a word
-- that is not used, eight atoms.
abbrev pub stride : ℕ
stride = 16

-- the words of a table with room for every member
abbrev pub table_words : ℕ
table_words = stride * most_members

-- the member in a row of 16 words
unfoldable pub member_of : List ℕ → Member
unfolding step_of term_of atom_of
member_of row = record {
  step = step_of (get_or row 0 0);
  query = record {
    answers = map word_term (take (get_or row 1 0) (drop 2 row));
    atoms = map word_atom
        (take (get_or row 6 0) (drop 8 row));
  };
}

unfoldable pub union_in : List ℕ → ℕ → UCQ
unfolding member_of numbers
union_in table n = map (λ j. member_of (drop (stride * j) table)) (numbers 0 n)
