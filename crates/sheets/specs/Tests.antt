-- 01, "What the desk turns back", and 02: refusals 1 to 6, 12, 13 and 17, as tests on the sheets (7 to 11 are in the crate `theory`, Union,
-- and 18 is in Qualified).
use Rattle.std.specs.Prelude.{ℕ, ◌+◌, ◌/◌, ◌%◌, ◌^◌, Bool, true, false, not, ◌&&◌, ◌||◌, List, [], ◌∷◌, eqb, leb, ltb, length}
use Rattle.theory.specs.Lists.{pick, any, all, numbers}
use Rattle.theory.specs.Syntax.{Term, var, const, Atom, Query, places, same_term, same_atom}
use Rattle.words.specs.Limits.{variable_bound, most_rules, most_terms, most_atoms, most_members, rule_bytes, record_bytes, most_rule_bytes}
use Rattle.words.specs.Limits.{most_fact_bytes}
use Rattle.words.specs.Records.{
  rule_kind,
  is_rule,
  is_paired,
  pair_forms,
  atom_kind,
  atom_zero,
  atom_first,
  atom_second,
  fact_kind,
  fact_zeros,
}
use Rattle.words.specs.Records.{fact_second}
use Rattle.sheets.specs.Bits.{number_at}
use Rattle.sheets.specs.Format.{records_from, rule_records, fact_records, term_count, atom_count, question_length, answer_records}
use Rattle.sheets.specs.Format.{atom_records, query_at, member_count, member_start, question_start}
use Rattle.sheets.specs.Partners.{query_as_read}
use Rattle.sheets.specs.Reading.{rules_as_read}

-- ---- 1, 2 and 17: rules

-- 1: "The rule sheet's length is no multiple of 4 or exceeds 2,048 bytes."
unfoldable pub refuses1 : List ℕ → Bool
refuses1 s = not (eqb (length s % rule_bytes) 0) || ltb most_rule_bytes (length s)

-- 2: "A rule has a kind or form not named above"; of kinds 3 and 4, "2 doesn't judge these kinds"
unfoldable pub passes2 : ℕ → Bool
unfolding is_paired is_rule
passes2 x = is_paired x || is_rule x

unfoldable pub refuses2 : List ℕ → Bool
unfolding all passes2 records_from
refuses2 s = not (all passes2 (rule_records s))

-- a record is of kind 4 exactly where one waits for it, the one before it being of kind 3; and its forms are as said
unfoldable pub follows : Bool → ℕ → Bool
unfolding pair_forms
follows waits x = pick waits (eqb (rule_kind x) 4) (not (eqb (rule_kind x) 4)) && pair_forms x

unfoldable pub pairs_sound : Bool → List ℕ → Bool
unfolding follows
pairs_sound waits [] = not waits
pairs_sound waits (x ∷ rest) = follows waits x && pairs_sound (eqb (rule_kind x) 3) rest

-- 17: "a kind 3 without its kind 4, a kind 4 by itself, a form or zero field in either that isn't as said (2 doesn't judge these kinds),
-- or over 512 rules as read"
unfoldable pub refuses17 : List ℕ → ℕ → List ℕ → Bool
unfolding pairs_sound rules_as_read records_from
refuses17 partners w s = not (pairs_sound false (rule_records s)) || ltb most_rules (length (rules_as_read partners w s))

-- ---- 3 to 5: a question

-- "Variables are 0 to 31"
unfoldable pub term_sound : ℕ → ℕ → Bool
term_sound w t = not (eqb (t / 2 ^ w) 0) || ltb (t % 2 ^ w) variable_bound

-- "Answer term: 7 zero bits, then a term."
unfoldable pub answer_sound : ℕ → ℕ → Bool
unfolding term_sound
answer_sound w x = ltb x (2 ^ (w + 1)) && term_sound w x

-- "1 zero bit"; "A concept atom's second term is all zero bits."
unfoldable pub atom_sound : ℕ → ℕ → Bool
unfolding term_sound
atom_sound w x =
    eqb (atom_zero w x) 0 && term_sound w (atom_first w x)
    && pick (eqb (atom_kind w x) 0) (eqb (atom_second w x) 0) (term_sound w (atom_second w x))

-- the question at byte `at` has counts in range, zero bits where they must be, and no variable above 31
unfoldable pub question_sound : ℕ → List ℕ → ℕ → Bool
unfolding all answer_sound atom_sound records_from
question_sound w s at =
    leb (term_count s at) most_terms && leb 1 (atom_count s at) && leb (atom_count s at) most_atoms
    && all (answer_sound w) (answer_records w s at) && all (atom_sound w) (atom_records w s at)

-- 3: "The question has a count out of range, a set bit that must be zero, a variable above 31, or a wrong length."
unfoldable pub refuses3 : ℕ → List ℕ → Bool
unfolding question_sound
refuses3 w s = not (eqb (length s) (question_length w s 0)) || not (question_sound w s 0)

-- the term is an object or stands in an atom
unfoldable pub covered : List (Atom Term) → Term → Bool
unfolding any same_term
covered atoms (var v) = any (same_term (var v)) (places atoms)
covered atoms (const c) = true

-- 4: "An answer variable stands in no atom of the question."
unfoldable pub refuses4 : Query → Bool
unfolding all covered
refuses4 q = not (all (covered q.atoms) q.answers)

-- some atom stands again later
unfoldable pub repeats : List (Atom Term) → Bool
unfolding any same_atom
repeats [] = false
repeats (a ∷ rest) = any (same_atom a) rest || repeats rest

-- 5: "The question, as read, has one atom twice."
unfoldable pub refuses5 : Query → Bool
unfolding repeats
refuses5 q = repeats q.atoms

-- ---- 6: a union

-- the member whose question begins at byte `at` "would meet 3, 4 or 5, or a member's answer-term count differs from the question's":
-- none of these
unfoldable pub member_sound_at : List ℕ → ℕ → ℕ → List ℕ → ℕ → Bool
unfolding question_sound refuses4 refuses5 query_as_read query_at
member_sound_at partners w arity s at =
    question_sound w s at && not (refuses4 (query_as_read partners (query_at w s at)))
    && not (refuses5 (query_as_read partners (query_at w s at)))
    && eqb (term_count s at) arity

unfoldable pub member_sound : List ℕ → ℕ → ℕ → List ℕ → ℕ → Bool
unfolding member_sound_at member_start
member_sound partners w arity s j = member_sound_at partners w arity s (question_start w s j)

-- 6: "The union's count is out of range, its bytes end early or run on, a member would meet 3, 4 or 5, or a member's answer-term
-- count differs from the question's."
unfoldable pub refuses6 : List ℕ → ℕ → ℕ → List ℕ → Bool
unfolding member_sound member_start all numbers number_at
refuses6 partners w arity s =
    not (leb 1 (member_count s) && leb (member_count s) most_members)
    || not (eqb (member_start w s (member_count s)) (length s))
    || not (all (member_sound partners w arity s) (numbers 0 (member_count s)))

-- ---- 12 and 13: facts

-- 12: "The fact sheet's length is no multiple of 6 or exceeds 60,000 bytes."
unfoldable pub refuses12 : ℕ → List ℕ → Bool
refuses12 w s = not (eqb (length s % record_bytes w) 0) || ltb (most_fact_bytes w) (length s)

unfoldable pub fact_sound : ℕ → ℕ → Bool
fact_sound w x = eqb (fact_zeros w x) 0 && pick (eqb (fact_kind w x) 0) (eqb (fact_second w x) 0) true

-- 13: "A fact has a set bit that must be zero."
unfoldable pub refuses13 : ℕ → List ℕ → Bool
unfolding all fact_sound records_from
refuses13 w s = not (all (fact_sound w) (fact_records w s))
