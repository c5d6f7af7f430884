-- The records of 01's sheets as numbers taken apart, before reciprocal names are read. w is the width of an object's number: that of the
-- sheets, or that of the words that the code works on (Limits).
use Rattle.std.specs.Prelude.{ℕ, ◌+◌, ◌*◌, ◌/◌, ◌%◌, ◌^◌, Bool, true, ◌&&◌, ◌||◌, eqb, ltb}
use Rattle.std.proofs.Math.Option.{Option}
use Rattle.theory.specs.Lists.{pick, guard}
use Rattle.theory.specs.Syntax.{
  Term,
  var,
  const,
  Atom,
  concept,
  role,
  Basic,
  named,
  has,
  has_inverse,
  Rule,
  concept_inclusion,
  role_inclusion,
}
use Rattle.theory.specs.Syntax.{Step, Fact}
use Rattle.theory.specs.Qualified.{WrittenRule, qualified}

-- the `width` bits of x that have `below` bits after them; 01: "packed with the most significant bit first"
abbrev pub field : ℕ → ℕ → ℕ → ℕ
field below width x = x / 2 ^ below % 2 ^ width

-- ---- rules: "Rule, 32 bits: kind 4, left form 2, left number 12, right form 2, right number 12."

abbrev pub rule_kind : ℕ → ℕ
rule_kind x = field 28 4 x

abbrev pub left_form : ℕ → ℕ
left_form x = field 26 2 x

abbrev pub left_name : ℕ → ℕ
left_name x = field 14 12 x

abbrev pub right_form : ℕ → ℕ
right_form x = field 12 2 x

abbrev pub right_name : ℕ → ℕ
right_name x = field 0 12 x

-- a kind and forms that 01 names: kind 1 with forms 0 to 2, kind 2 with left form 0 and right form 0 or 1
unfoldable pub is_rule : ℕ → Bool
is_rule x =
    pick (eqb (rule_kind x) 1)
    (ltb (left_form x) 3 && ltb (right_form x) 3)
    (eqb (rule_kind x) 2 && eqb (left_form x) 0 && ltb (right_form x) 2)

-- "Form 0 is a concept name, form 1 'has the role to something', form 2 'something has the role to it'."
unfoldable pub basic_of : ℕ → ℕ → Basic
basic_of form n = pick (eqb form 0) (named n) (pick (eqb form 1) (has n) (has_inverse n))

-- The rule in a number of kind 1 or 2; the right form of kind 2 is "0 for the same direction, 1 for arguments exchanged".
unfoldable pub rule_in : ℕ → Rule
unfolding basic_of
rule_in x =
    pick (eqb (rule_kind x) 1)
    (concept_inclusion (basic_of (left_form x) (left_name x)) (basic_of (right_form x) (right_name x)))
    (role_inclusion (left_name x) (eqb (right_form x) 1) (right_name x))

-- the rule of a record, if its kind and forms are named
unfoldable pub rule_of : ℕ → Option Rule
unfolding is_rule rule_in
rule_of x = guard (is_rule x) (rule_in x)

-- ---- kinds 3 and 4 (02, T-04), which stand in pairs

unfoldable pub is_paired : ℕ → Bool
is_paired x = eqb (rule_kind x) 3 || eqb (rule_kind x) 4

-- "A rule of kind 3 has kind 1's left side, and as right side a role form 1 or 2."
unfoldable pub kind3_forms : ℕ → Bool
kind3_forms x = ltb (left_form x) 3 && ltb 0 (right_form x) && ltb (right_form x) 3

-- "a record of kind 4 with left form 0, the filler concept as left number and zeros on the right"
unfoldable pub kind4_forms : ℕ → Bool
kind4_forms x = eqb (left_form x) 0 && eqb (right_form x) 0 && eqb (right_name x) 0

-- the forms and zero fields of these kinds are as said; other kinds are not judged
unfoldable pub pair_forms : ℕ → Bool
unfolding kind3_forms kind4_forms
pair_forms x = pick (eqb (rule_kind x) 3) (kind3_forms x) (pick (eqb (rule_kind x) 4) (kind4_forms x) true)

-- the rule in a kind 3 and the kind 4 after it; right form 2 is "something has the role to it"
unfoldable pub qualified_in : ℕ → ℕ → WrittenRule
unfolding basic_of
qualified_in x y = qualified (basic_of (left_form x) (left_name x)) (eqb (right_form x) 2) (right_name x) (left_name y)

-- ---- terms: "Term, 17 bits: 0 for variable or 1 for object, then a 16-bit number."

unfoldable pub term_of : ℕ → ℕ → Term
term_of w t = pick (eqb (t / 2 ^ w) 0) (var (t % 2 ^ w)) (const (t % 2 ^ w))

-- ---- atoms: "1 bit (0 concept, 1 role), 1 zero bit, number 12, two terms."

abbrev pub atom_kind : ℕ → ℕ → ℕ
atom_kind w x = field (2 * w + 15) 1 x

abbrev pub atom_zero : ℕ → ℕ → ℕ
atom_zero w x = field (2 * w + 14) 1 x

abbrev pub atom_name : ℕ → ℕ → ℕ
atom_name w x = field (2 * w + 2) 12 x

abbrev pub atom_first : ℕ → ℕ → ℕ
atom_first w x = field (w + 1) (w + 1) x

abbrev pub atom_second : ℕ → ℕ → ℕ
atom_second w x = field 0 (w + 1) x

-- The second term of a concept atom is no term.
unfoldable pub atom_of : ℕ → ℕ → Atom Term
unfolding term_of
atom_of w x =
    pick (eqb (atom_kind w x) 0)
    (concept (atom_name w x) (term_of w (atom_first w x)))
    (role (atom_name w x) (term_of w (atom_first w x)) (term_of w (atom_second w x)))

-- ---- facts: "1 bit (0 concept, 1 role), 3 zero bits, number 12, two objects of 16; a concept's second object is zero."

abbrev pub fact_kind : ℕ → ℕ → ℕ
fact_kind w x = field (2 * w + 15) 1 x

abbrev pub fact_zeros : ℕ → ℕ → ℕ
fact_zeros w x = field (2 * w + 12) 3 x

abbrev pub fact_name : ℕ → ℕ → ℕ
fact_name w x = field (2 * w) 12 x

abbrev pub fact_first : ℕ → ℕ → ℕ
fact_first w x = field w w x

abbrev pub fact_second : ℕ → ℕ → ℕ
fact_second w x = field 0 w x

unfoldable pub fact_of : ℕ → ℕ → Fact
fact_of w x =
    pick (eqb (fact_kind w x) 0)
    (concept (fact_name w x) (fact_first w x))
    (role (fact_name w x) (fact_first w x) (fact_second w x))

-- ---- steps: "Step: kind 2, parent 10, atom 4, other 16."

abbrev pub step_kind : ℕ → ℕ
step_kind x = field 30 2 x

abbrev pub step_parent : ℕ → ℕ
step_parent x = field 20 10 x

abbrev pub step_atom : ℕ → ℕ
step_atom x = field 16 4 x

abbrev pub step_other : ℕ → ℕ
step_other x = field 0 16 x

unfoldable pub step_of : ℕ → Step
step_of x = record { kind = step_kind x; parent = step_parent x; atom = step_atom x; other = step_other x }
