-- 01, "What the desk turns back", and 02: the conditions of refusals 1 to 6, 12, 13 and 17, in the papers' words (those of 7 to 11 are in
-- the crate `theory`, Union, that of 18 in Qualified). Beside each stands its test, in Tests; Laws/ has that the test passes exactly where
-- the condition holds. `at` is the byte at which a question begins, w the width of an object's number.
use Rattle.std.specs.Prelude.{◌≡◌, ◌⊎◌, ℕ, suc, ◌+◌, ◌%◌, ◌^◌, ◌≤◌, ◌<◌, List, length}
use Rattle.theory.specs.Lists.{◌∈◌, At}
use Rattle.theory.specs.Syntax.{Term, var, Atom, Query, places, terms}
use Rattle.words.specs.Limits.{variable_bound, most_rules, most_terms, most_atoms, most_members, rule_bytes, record_bytes, most_rule_bytes}
use Rattle.words.specs.Limits.{most_fact_bytes}
use Rattle.words.specs.Records.{
  rule_kind,
  left_form,
  right_form,
  right_name,
  atom_kind,
  atom_zero,
  atom_second,
  fact_kind,
  fact_zeros,
  fact_second,
}
use Rattle.sheets.specs.Format.{rule_records, fact_records, term_count, atom_count, question_length, answer_records, atom_records, query_at}
use Rattle.sheets.specs.Format.{member_count, member_start, question_start}
use Rattle.sheets.specs.Partners.{query_as_read}
use Rattle.sheets.specs.Reading.{rules_as_read}

-- ---- rules

-- 1: "The rule sheet's length is no multiple of 4 or exceeds 2,048 bytes."
abbrev pub Meets1 : List ℕ → Type 0
Meets1 s = (¬ (length s % rule_bytes ≡ 0)) ⊎ (most_rule_bytes < length s)

-- Kind 1 has forms 0, 1 and 2. Kind 2: "The left form is 0. The right form is 0 for the same direction, 1 for arguments exchanged."
abbrev pub Named : ℕ → Type 0
Named x = ((rule_kind x ≡ 1) × (left_form x ≤ 2) × (right_form x ≤ 2)) ⊎ ((rule_kind x ≡ 2) × (left_form x ≡ 0) × (right_form x ≤ 1))

-- kinds 3 and 4, of which 02, T-04, says that "2 doesn't judge these kinds"
abbrev pub Paired : ℕ → Type 0
Paired x = (rule_kind x ≡ 3) ⊎ (rule_kind x ≡ 4)

-- 2: "A rule has a kind or form not named above."
abbrev pub Meets2 : List ℕ → Type 0
Meets2 s = (x : ℕ) × (x ∈ rule_records s) × (¬ Paired x) × (¬ Named x)

-- "a kind 3 without its kind 4": no record of kind 4 stands right after it
abbrev pub Lone3 : List ℕ → Type 0
Lone3 records = (i x : ℕ) × At records i x × (rule_kind x ≡ 3) × (¬ ((y : ℕ) × At records (suc i) y × (rule_kind y ≡ 4)))

-- "a kind 4 by itself": no record of kind 3 stands right before it
abbrev pub Lone4 : List ℕ → Type 0
Lone4 records = (i y : ℕ) × At records i y × (rule_kind y ≡ 4) × (¬ ((j x : ℕ) × (i ≡ suc j) × At records j x × (rule_kind x ≡ 3)))

-- "a form or zero field in either that isn't as said": kind 3 has "kind 1's left side, and as right side a role form 1 or 2", kind 4 "left
-- form 0, the filler concept as left number and zeros on the right"
abbrev pub NotAsSaid : ℕ → Type 0
NotAsSaid x =
    ((rule_kind x ≡ 3) × (¬ ((left_form x ≤ 2) × ((right_form x ≡ 1) ⊎ (right_form x ≡ 2)))))
    ⊎ ((rule_kind x ≡ 4) × (¬ ((left_form x ≡ 0) × (right_form x ≡ 0) × (right_name x ≡ 0))))

-- 17: all of these, "or over 512 rules as read"
abbrev pub Meets17 : List ℕ → ℕ → List ℕ → Type 0
Meets17 partners w s =
    (Lone3 (rule_records s) ⊎ Lone4 (rule_records s) ⊎ ((x : ℕ) × (x ∈ rule_records s) × NotAsSaid x))
    ⊎ (most_rules < length (rules_as_read partners w s))

-- ---- a question

-- a count out of range: answer terms are "0 to 4", atoms "1 to 8"
abbrev pub CountOut : List ℕ → ℕ → Type 0
CountOut s at = (most_terms < term_count s at) ⊎ (atom_count s at ≡ 0) ⊎ (most_atoms < atom_count s at)

-- an atom's "1 zero bit" is set, or a concept atom's second term is not "all zero bits"
abbrev pub AtomBitSet : ℕ → ℕ → Type 0
AtomBitSet w x = (¬ (atom_zero w x ≡ 0)) ⊎ ((atom_kind w x ≡ 0) × (¬ (atom_second w x ≡ 0)))

-- a set bit that must be zero, in an answer term or in an atom
abbrev pub BitSet : ℕ → List ℕ → ℕ → Type 0
BitSet w s at =
    ((x : ℕ) × (x ∈ answer_records w s at) × (2 ^ (w + 1) ≤ x))
    ⊎ ((x : ℕ) × (x ∈ atom_records w s at) × AtomBitSet w x)

-- a variable above 31, in an answer term or in an atom
abbrev pub VariableOut : ℕ → List ℕ → ℕ → Type 0
VariableOut w s at = (v : ℕ) × (var v ∈ terms (query_at w s at)) × (variable_bound ≤ v)

-- a count out of range, a set bit that must be zero, or a variable above 31
abbrev pub Malformed : ℕ → List ℕ → ℕ → Type 0
Malformed w s at = CountOut s at ⊎ BitSet w s at ⊎ VariableOut w s at

-- 3: "The question has a count out of range, a set bit that must be zero, a variable above 31, or a wrong length."
abbrev pub Meets3 : ℕ → List ℕ → Type 0
Meets3 w s = CountOut s 0 ⊎ BitSet w s 0 ⊎ VariableOut w s 0 ⊎ (¬ (length s ≡ question_length w s 0))

-- 4: "An answer variable stands in no atom of the question."
abbrev pub Meets4 : Query → Type 0
Meets4 q = (v : ℕ) × (var v ∈ q.answers) × (¬ (var v ∈ places q.atoms))

-- one atom at two places
abbrev pub Twice : List (Atom Term) → Type 0
Twice atoms = (i j : ℕ) × (a : Atom Term) × (i < j) × At atoms i a × At atoms j a

-- 5: "The question, as read, has one atom twice."
abbrev pub Meets5 : Query → Type 0
Meets5 q = Twice q.atoms

-- ---- a union

-- the question of member j, as read
abbrev pub member_question : List ℕ → ℕ → List ℕ → ℕ → Query
member_question partners w s j = query_as_read partners (query_at w s (question_start w s j))

-- "a member would meet 3, 4 or 5, or a member's answer-term count differs from the question's", which is the arity. A member's
-- question is as long as its counts say, so that it has no wrong length of its own.
abbrev pub MemberUnsound : List ℕ → ℕ → ℕ → List ℕ → ℕ → Type 0
MemberUnsound partners w arity s j =
    Malformed w s (question_start w s j)
    ⊎ Meets4 (member_question partners w s j)
    ⊎ Meets5 (member_question partners w s j)
    ⊎ (¬ (term_count s (question_start w s j) ≡ arity))

-- 6: "The union's count is out of range, its bytes end early or run on, a member would meet 3, 4 or 5, or a member's answer-term
-- count differs from the question's."
abbrev pub Meets6 : List ℕ → ℕ → ℕ → List ℕ → Type 0
Meets6 partners w arity s =
    ((member_count s ≡ 0) ⊎ (most_members < member_count s))
    ⊎ (¬ (member_start w s (member_count s) ≡ length s))
    ⊎ ((j : ℕ) × (j < member_count s) × MemberUnsound partners w arity s j)

-- ---- facts

-- 12: "The fact sheet's length is no multiple of 6 or exceeds 60,000 bytes."
abbrev pub Meets12 : ℕ → List ℕ → Type 0
Meets12 w s = (¬ (length s % record_bytes w ≡ 0)) ⊎ (most_fact_bytes w < length s)

-- one of the "3 zero bits" is set, or "a concept's second object" is not zero
abbrev pub FactBitSet : ℕ → ℕ → Type 0
FactBitSet w x = (¬ (fact_zeros w x ≡ 0)) ⊎ ((fact_kind w x ≡ 0) × (¬ (fact_second w x ≡ 0)))

-- 13: "A fact has a set bit that must be zero."
abbrev pub Meets13 : ℕ → List ℕ → Type 0
Meets13 w s = (x : ℕ) × (x ∈ fact_records w s) × FactBitSet w x
