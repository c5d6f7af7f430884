-- Packing: the bytes of a sheet from the values that it says, and which values a sheet can say. Format takes apart what is put
-- together here; w is the width of an object's number, as there.
use Rattle.std.specs.Prelude.{◌≡◌, ℕ, zero, suc, ◌+◌, ◌-◌, ◌*◌, ◌/◌, ◌%◌, ◌^◌, ◌≤◌, ◌<◌, Bool, length, replicate}
use mathlib.Core.List.{List, [], ◌∷◌, ◌++◌, map, flat_map}
use Rattle.theory.specs.Lists.{◌∈◌, pick}
use Rattle.theory.specs.Syntax.{
  Term,
  var,
  const,
  Atom,
  concept,
  role,
  Basic,
  named,
  has,
  has_inverse,
  Rule,
  concept_inclusion,
  role_inclusion,
}
use Rattle.theory.specs.Syntax.{Query, Step, Member, UCQ, Fact}
use Rattle.theory.specs.Qualified.{WrittenRule, plain, qualified, rules_read}
use Rattle.words.specs.Limits.{
  variable_bound,
  name_bound,
  most_rules,
  most_terms,
  most_atoms,
  most_members,
  most_facts,
  step_bytes,
  count_bytes,
}
use Rattle.words.specs.Limits.{answer_bytes, record_bytes}

-- ---- bytes and bits: "packed with the most significant bit first"

-- so many bytes of a number, the most significant first
unfoldable pub bytes_of : ℕ → ℕ → List ℕ
bytes_of zero n = []
bytes_of (suc size) n = bytes_of size (n / 256) ++ (n % 256 ∷ [])

-- records of one size, one after another
unfoldable pub pack_records : ℕ → List ℕ → List ℕ
unfolding bytes_of flat_map
pack_records size xs = flat_map (bytes_of size) xs

-- the bits of a number, and then those of the fields, each a width and a value
unfoldable pub bits_after : ℕ → List (ℕ × ℕ) → ℕ
bits_after above [] = above
bits_after above (f ∷ fs) = bits_after (above * 2 ^ f.0 + f.1) fs

-- the number with these fields and nothing above them
unfoldable pub fields_number : List (ℕ × ℕ) → ℕ
unfolding bits_after
fields_number fs = bits_after 0 fs

-- ---- rules: "Rule, 32 bits: kind 4, left form 2, left number 12, right form 2, right number 12."

abbrev pub form_of : Basic → ℕ
form_of (named A) = 0
form_of (has P) = 1
form_of (has_inverse P) = 2

abbrev pub name_of : Basic → ℕ
name_of (named A) = A
name_of (has P) = P
name_of (has_inverse P) = P

abbrev pub rule_fields : Rule → List (ℕ × ℕ)
rule_fields (concept_inclusion left right) = (4, 1) ∷ (2, form_of left) ∷ (12, name_of left) ∷ (2, form_of right) ∷ (12, name_of right) ∷ []
rule_fields (role_inclusion P exchanged Q) = (4, 2) ∷ (2, 0) ∷ (12, P) ∷ (2, pick exchanged 1 0) ∷ (12, Q) ∷ []

abbrev pub rule_number : Rule → ℕ
rule_number r = fields_number (rule_fields r)

-- 02, T-04: "A rule of kind 3 has kind 1's left side, and as right side a role form 1 or 2": 2, "something has the role to it", where
-- exchanged
abbrev pub qualified_fields : Basic → Bool → ℕ → List (ℕ × ℕ)
qualified_fields left exchanged P = (4, 3) ∷ (2, form_of left) ∷ (12, name_of left) ∷ (2, pick exchanged 2 1) ∷ (12, P) ∷ []

-- "a record of kind 4 with left form 0, the filler concept as left number and zeros on the right"
abbrev pub filler_fields : ℕ → List (ℕ × ℕ)
filler_fields filler = (4, 4) ∷ (2, 0) ∷ (12, filler) ∷ (2, 0) ∷ (12, 0) ∷ []

-- the records of a rule as written: one for a rule of 01's, or a kind 3 and right after it its kind 4
abbrev pub written_numbers : WrittenRule → List ℕ
written_numbers (plain rule) = rule_number rule ∷ []
written_numbers (qualified left exchanged P filler) =
    fields_number (qualified_fields left exchanged P) ∷ fields_number (filler_fields filler) ∷ []

-- the sheet: the records of each rule, in order
unfoldable pub pack_rules : List WrittenRule → List ℕ
unfolding pack_records fields_number flat_map
pack_rules ws = pack_records 4 (flat_map written_numbers ws)

-- ---- terms, atoms and facts

-- "Term, 17 bits: 0 for variable or 1 for object, then a 16-bit number."
abbrev pub term_fields : ℕ → Term → List (ℕ × ℕ)
term_fields w (var v) = (1, 0) ∷ (w, v) ∷ []
term_fields w (const c) = (1, 1) ∷ (w, c) ∷ []

abbrev pub term_number : ℕ → Term → ℕ
term_number w t = fields_number (term_fields w t)

-- Atoms and facts: "1 bit (0 concept, 1 role)", so many zero bits, "number 12", and two arguments of one width; a concept's
-- second argument is all zero bits.
abbrev pub atom_fields_by : {X : Type 0} → ℕ → ℕ → (X → ℕ) → Atom X → List (ℕ × ℕ)
atom_fields_by zeros width number (concept A x) = (1, 0) ∷ (zeros, 0) ∷ (12, A) ∷ (width, number x) ∷ (width, 0) ∷ []
atom_fields_by zeros width number (role P x y) = (1, 1) ∷ (zeros, 0) ∷ (12, P) ∷ (width, number x) ∷ (width, number y) ∷ []

-- "Atom: 1 bit (0 concept, 1 role), 1 zero bit, number 12, two terms."
abbrev pub atom_fields : ℕ → Atom Term → List (ℕ × ℕ)
atom_fields w = atom_fields_by 1 (w + 1) (term_number w)

abbrev pub atom_number : ℕ → Atom Term → ℕ
atom_number w a = fields_number (atom_fields w a)

-- "Fact, 48 bits: 1 bit (0 concept, 1 role), 3 zero bits, number 12, two objects of 16"
abbrev pub fact_fields : ℕ → Fact → List (ℕ × ℕ)
fact_fields w = atom_fields_by 3 w (λ o. o)

abbrev pub fact_number : ℕ → Fact → ℕ
fact_number w f = fields_number (fact_fields w f)

unfoldable pub pack_facts : ℕ → List Fact → List ℕ
unfolding pack_records fields_number
pack_facts w facts = pack_records (record_bytes w) (map (fact_number w) facts)

-- ---- questions: "answer-term count 4 bits (0 to 4), atom count 4 bits (1 to 8), then answer terms of 24 bits and atoms of 48
-- bits"; "Answer term: 7 zero bits, then a term."

unfoldable pub pack_query : ℕ → Query → List ℕ
unfolding bytes_of fields_number pack_records
pack_query w q =
    bytes_of 1 (fields_number ((4, length q.answers) ∷ (4, length q.atoms) ∷ []))
    ++ (pack_records (answer_bytes w) (map (term_number w) q.answers) ++ pack_records (record_bytes w) (map (atom_number w) q.atoms))

-- ---- unions: "member count 16 bits (1 to 512). Each member is a step of 32 bits, then a question."

-- "Step: kind 2, parent 10, atom 4, other 16."
abbrev pub step_fields : Step → List (ℕ × ℕ)
step_fields s = (2, s.kind) ∷ (10, s.parent) ∷ (4, s.atom) ∷ (16, s.other) ∷ []

abbrev pub step_number : Step → ℕ
step_number s = fields_number (step_fields s)

unfoldable pub pack_member : ℕ → Member → List ℕ
unfolding bytes_of fields_number pack_query
pack_member w m = bytes_of step_bytes (step_number m.step) ++ pack_query w m.query

unfoldable pub pack_union : ℕ → UCQ → List ℕ
unfolding bytes_of pack_member flat_map
pack_union w union = bytes_of count_bytes (length union) ++ flat_map (pack_member w) union

-- a union at the beginning of a lent sheet of `room` bytes; 02, T-02: "the lent sheet is zero after them"
unfoldable pub union_sheet : ℕ → ℕ → UCQ → List ℕ
unfolding pack_union
union_sheet w room union = pack_union w union ++ replicate (room - length (pack_union w union)) 0

-- ---- which values a sheet can say

-- all elements of a list are in range
abbrev pub All : {X : Type 0} → (X → Type 0) → List X → Type 0
All {X} P xs = (x : X) → x ∈ xs → P x

-- a byte; a concept's or a role's number, 12 bits
abbrev pub IsByte : ℕ → Type 0
IsByte b = b < 256

abbrev pub IsName : ℕ → Type 0
IsName n = n < name_bound

abbrev pub RuleInRange : Rule → Type 0
RuleInRange (concept_inclusion left right) = IsName (name_of left) × IsName (name_of right)
RuleInRange (role_inclusion P exchanged Q) = IsName P × IsName Q

abbrev pub WrittenInRange : WrittenRule → Type 0
WrittenInRange (plain rule) = RuleInRange rule
WrittenInRange (qualified left exchanged P filler) = IsName (name_of left) × IsName P × IsName filler

-- "A sheet has 0 to 512 rules."
abbrev pub RulesInRange : List Rule → Type 0
RulesInRange rules = (length rules ≤ most_rules) × All RuleInRange rules

-- 02, T-04: "The limit of 512 and the rule indices count rules as read." There are no more records than these: a pair is two records and
-- is read as three rules.
abbrev pub WrittenRulesInRange : List WrittenRule → Type 0
WrittenRulesInRange ws = (length (rules_read ws) ≤ most_rules) × All WrittenInRange ws

-- "Variables are 0 to 31, objects 0 to 65,535."
abbrev pub TermInRange : ℕ → Term → Type 0
TermInRange w (var v) = v < variable_bound
TermInRange w (const c) = c < 2 ^ w

-- an atom's number and its arguments are in range
abbrev pub AtomOver : {X : Type 0} → (X → Type 0) → Atom X → Type 0
AtomOver InRange (concept A x) = IsName A × InRange x
AtomOver InRange (role P x y) = IsName P × InRange x × InRange y

abbrev pub AtomInRange : ℕ → Atom Term → Type 0
AtomInRange w = AtomOver (TermInRange w)

pub record QueryInRange (w : ℕ) (q : Query) : Type 0 where
  pub few_answers : length q.answers ≤ most_terms
  pub some_atom : 1 ≤ length q.atoms
  pub few_atoms : length q.atoms ≤ most_atoms
  pub answers_in : All (TermInRange w) q.answers
  pub atoms_in : All (AtomInRange w) q.atoms

abbrev pub StepInRange : Step → Type 0
StepInRange s = (s.kind < 4) × (s.parent < 1024) × (s.atom < 16) × (s.other < 65536)

abbrev pub MemberInRange : ℕ → Member → Type 0
MemberInRange w m = StepInRange m.step × QueryInRange w m.query

abbrev pub UnionInRange : ℕ → UCQ → Type 0
UnionInRange w union = (1 ≤ length union) × (length union ≤ most_members) × All (MemberInRange w) union

abbrev pub FactInRange : ℕ → Fact → Type 0
FactInRange w = AtomOver (λ o. o < 2 ^ w)

-- "A sheet has 0 to 10,000 facts"
abbrev pub FactsInRange : ℕ → List Fact → Type 0
FactsInRange w facts = (length facts ≤ most_facts) × All (FactInRange w) facts

-- an object's number fills whole bytes, at least one, as at the widths 16 and 24
abbrev pub WholeBytes : ℕ → Type 0
WholeBytes w = (k : ℕ) × (w ≡ 8 * suc k)
