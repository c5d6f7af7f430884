-- 01's sheets taken apart into records, before reciprocal names are read; what a record says is in the crate `words`
-- (specs/Records.antt). w is the width of an object's number.
use Rattle.std.specs.Prelude.{ℕ, zero, suc, ◌+◌, ◌*◌, ◌/◌, ◌%◌, ◌&&◌, List, [], ◌∷◌, ◌++◌, map, eqb, length, get_or}
use Rattle.theory.specs.Lists.{pick, count, to_list, numbers}
use Rattle.theory.specs.Syntax.{Query, Member, UCQ, Fact}
use Rattle.theory.specs.Qualified.{WrittenRule, plain}
use Rattle.words.specs.Limits.{rule_bytes, step_bytes, count_bytes, answer_bytes, record_bytes}
use Rattle.words.specs.Records.{rule_kind, rule_of, qualified_in, term_of, atom_of, fact_of, step_of}
use Rattle.sheets.specs.Bits.{number_at}

-- ---- records of one size, as numbers

-- n of them, one after another from byte `from` on
unfoldable pub records_from : ℕ → List ℕ → ℕ → ℕ → List ℕ
unfolding numbers number_at
records_from size s from n = map (λ i. number_at s (from + size * i) size) (numbers 0 n)

-- a whole sheet of them
abbrev pub sheet_records : ℕ → List ℕ → List ℕ
sheet_records size s = records_from size s 0 (length s / size)

-- ---- rules

abbrev pub rule_records : List ℕ → List ℕ
rule_records s = sheet_records rule_bytes s

-- a record of kind 1 or 2 says a rule by itself
unfoldable pub said_alone : ℕ → List WrittenRule
unfolding rule_of to_list
said_alone x = map plain (to_list (rule_of x))

-- one of kind 3 does with the kind 4 right after it (02, T-04), which says nothing more; `rest` are the records after x
unfoldable pub said_by : ℕ → List ℕ → List WrittenRule
unfolding said_alone qualified_in
said_by x [] = said_alone x
said_by x (y ∷ rest) = pick (eqb (rule_kind x) 3 && eqb (rule_kind y) 4) (qualified_in x y ∷ []) (said_alone x)

-- what records say, in order; one that is no rule says nothing, and 2 or 17 refuses the sheet
unfoldable pub written_in : List ℕ → List WrittenRule
unfolding said_by
written_in [] = []
written_in (x ∷ rest) = said_by x rest ++ written_in rest

unfoldable pub written_of : List ℕ → List WrittenRule
unfolding written_in records_from
written_of s = written_in (rule_records s)

-- how many pairs there are, where each kind 3 has its kind 4
unfoldable pub pairs_in : List ℕ → ℕ
unfolding count
pairs_in records = count (λ x. eqb (rule_kind x) 3) records

-- ---- facts

abbrev pub fact_records : ℕ → List ℕ → List ℕ
fact_records w s = sheet_records (record_bytes w) s

unfoldable pub facts_of : ℕ → List ℕ → List Fact
unfolding fact_of records_from
facts_of w s = map (fact_of w) (fact_records w s)

-- ---- questions: "answer-term count 4 bits (0 to 4), atom count 4 bits (1 to 8), then answer terms of 24 bits and atoms of 48
-- bits", here of the question that begins at byte `at` of a sheet

abbrev pub term_count : List ℕ → ℕ → ℕ
term_count s at = get_or s at 0 / 16

abbrev pub atom_count : List ℕ → ℕ → ℕ
atom_count s at = get_or s at 0 % 16

abbrev pub question_length : ℕ → List ℕ → ℕ → ℕ
question_length w s at = 1 + answer_bytes w * term_count s at + record_bytes w * atom_count s at

abbrev pub answer_records : ℕ → List ℕ → ℕ → List ℕ
answer_records w s at = records_from (answer_bytes w) s (at + 1) (term_count s at)

abbrev pub atom_records : ℕ → List ℕ → ℕ → List ℕ
atom_records w s at = records_from (record_bytes w) s (at + 1 + answer_bytes w * term_count s at) (atom_count s at)

unfoldable pub query_at : ℕ → List ℕ → ℕ → Query
unfolding term_of atom_of records_from
query_at w s at = record { answers = map (term_of w) (answer_records w s at); atoms = map (atom_of w) (atom_records w s at) }

-- ---- unions: "member count 16 bits (1 to 512). Each member is a step of 32 bits, then a question."

abbrev pub member_count : List ℕ → ℕ
member_count s = number_at s 0 count_bytes

-- where member j begins, each member being as long as its question's counts say
unfoldable pub member_start : ℕ → List ℕ → ℕ → ℕ
member_start w s zero = count_bytes
member_start w s (suc j) = member_start w s j + step_bytes + question_length w s (member_start w s j + step_bytes)

-- where its question begins, behind the step; member 0's is the first
abbrev pub question_start : ℕ → List ℕ → ℕ → ℕ
question_start w s j = member_start w s j + step_bytes

abbrev pub first_question : ℕ
first_question = count_bytes + step_bytes

unfoldable pub member_at : ℕ → List ℕ → ℕ → Member
unfolding step_of query_at member_start
member_at w s j = record { step = step_of (number_at s (member_start w s j) step_bytes); query = query_at w s (question_start w s j) }

unfoldable pub union_of : ℕ → List ℕ → UCQ
unfolding member_at numbers number_at
union_of w s = map (member_at w s) (numbers 0 (member_count s))
