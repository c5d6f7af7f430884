-- The widths, bounds and limits of 01, each named once; `limits.rt` has those that the code needs.
use Rattle.std.specs.Prelude.{ℕ, ◌+◌, ◌-◌, ◌*◌, ◌/◌, ◌^◌}

-- ---- widths

-- "then a 16-bit number": the width of an object's number on the sheets
abbrev pub sheet_width : ℕ
sheet_width = 16

-- the same in the words that the code works on, which have room for more
abbrev pub word_width : ℕ
word_width = 24

-- ---- bounds: what is meant is below them

-- "objects 0 to 65,535"
abbrev pub object_bound : ℕ
object_bound = 2 ^ sheet_width

-- "Variables are 0 to 31"
abbrev pub variable_bound : ℕ
variable_bound = 32

-- the number of a concept or a role has 12 bits
abbrev pub name_bound : ℕ
name_bound = 4096

-- a term on a sheet; an atom or a fact there; a rule or a step
abbrev pub sheet_term_bound : ℕ
sheet_term_bound = 2 ^ (sheet_width + 1)

abbrev pub sheet_record_bound : ℕ
sheet_record_bound = 2 ^ (2 * sheet_width + 16)

abbrev pub rule_bound : ℕ
rule_bound = 2 ^ 32

-- an object, and a term, in a word
abbrev pub word_object_bound : ℕ
word_object_bound = 2 ^ word_width

abbrev pub word_term_bound : ℕ
word_term_bound = 2 ^ (word_width + 1)

-- ---- how many

-- "A sheet has 0 to 512 rules."
abbrev pub most_rules : ℕ
most_rules = 512

-- "answer-term count 4 bits (0 to 4), atom count 4 bits (1 to 8)"
abbrev pub most_terms : ℕ
most_terms = 4

abbrev pub most_atoms : ℕ
most_atoms = 8

-- "member count 16 bits (1 to 512)"
abbrev pub most_members : ℕ
most_members = 512

-- how many steps there may be behind an answer (02, T-06): each parent is an earlier member
abbrev pub most_steps : ℕ
most_steps = most_members - 1

-- "A sheet has 0 to 10,000 facts"
abbrev pub most_facts : ℕ
most_facts = 10000

-- ---- bytes, where an object's number has w bits

-- "Rule, 32 bits"; "a step of 32 bits"; "member count 16 bits"
abbrev pub rule_bytes : ℕ
rule_bytes = 4

abbrev pub step_bytes : ℕ
step_bytes = 4

abbrev pub count_bytes : ℕ
count_bytes = 2

-- an answer term, "7 zero bits, then a term"
abbrev pub answer_bytes : ℕ → ℕ
answer_bytes w = (w + 8) / 8

-- an atom or a fact
abbrev pub record_bytes : ℕ → ℕ
record_bytes w = (2 * w + 16) / 8

-- an object in an answer list: "Answers are 16-bit objects"
abbrev pub object_bytes : ℕ
object_bytes = sheet_width / 8

-- and the longest tuple there
abbrev pub most_tuple_bytes : ℕ
most_tuple_bytes = object_bytes * most_terms

-- a place in a list of steps (02, T-06): 8 bytes for member and step, and a byte for each of 32 targets
abbrev pub place_size : ℕ
place_size = 8 + variable_bound

-- ---- the longest sheets: "2,048, 61, 33,282 and 60,000 bytes in that order"

abbrev pub most_rule_bytes : ℕ
most_rule_bytes = rule_bytes * most_rules

abbrev pub most_question_bytes : ℕ → ℕ
most_question_bytes w = 1 + answer_bytes w * most_terms + record_bytes w * most_atoms

abbrev pub most_union_bytes : ℕ → ℕ
most_union_bytes w = count_bytes + most_members * (step_bytes + most_question_bytes w)

abbrev pub most_fact_bytes : ℕ → ℕ
most_fact_bytes w = record_bytes w * most_facts
