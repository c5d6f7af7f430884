-- 01, "Reciprocal names": "On reading, the higher of two partners becomes the lower with its arguments exchanged: in a rule,
-- forms 1 and 2 change places, and in kind 2 each higher role flips the right form." A role at or above the table's length has no
-- partner. The table is a parameter; `partners01` is 01's.
use Rattle.std.specs.Prelude.{ℕ, Bool, ltb, get_or}
use Rattle.std.proofs.Math.Bool.{xor}
use mathlib.Core.List.{List, [], ◌∷◌, map}
use Rattle.theory.specs.Lists.{pick}
use Rattle.theory.specs.Syntax.{Atom, concept, role, Basic, named, has, has_inverse, Rule, concept_inclusion, role_inclusion, Query, Member}
use Rattle.theory.specs.Syntax.{oriented}
use Rattle.theory.specs.Qualified.{WrittenRule, plain, qualified}

-- "A constant table of 16 role partners: 0 and 1 (drives, driven by), 2 and 3 (feeds, fed by), 4 and 5 (part of, has part), 6 and 7
-- (opens, opened by); 8 to 15 are entered as their own"
unfoldable pub partners01 : List ℕ
partners01 = 1 ∷ 0 ∷ 3 ∷ 2 ∷ 5 ∷ 4 ∷ 7 ∷ 6 ∷ 8 ∷ 9 ∷ 10 ∷ 11 ∷ 12 ∷ 13 ∷ 14 ∷ 15 ∷ []

module _ (partners : List ℕ) where
  -- the partner is the lower of the two
  unfoldable pub is_higher : ℕ → Bool
  is_higher P = ltb (get_or partners P P) P

  unfoldable pub lower : ℕ → ℕ
  unfolding is_higher
  lower P = pick (is_higher P) (get_or partners P P) P

  -- an atom, a description, a rule, a question, a member as read
  unfoldable pub atom_as_read : {X : Type 0} → Atom X → Atom X
  unfolding is_higher lower
  atom_as_read (concept A x) = concept A x
  atom_as_read (role P x y) = oriented (is_higher P) (lower P) x y

  unfoldable pub basic_as_read : Basic → Basic
  unfolding is_higher lower
  basic_as_read (named A) = named A
  basic_as_read (has P) = pick (is_higher P) (has_inverse (lower P)) (has (lower P))
  basic_as_read (has_inverse P) = pick (is_higher P) (has (lower P)) (has_inverse (lower P))

  unfoldable pub rule_as_read : Rule → Rule
  unfolding basic_as_read xor
  rule_as_read (concept_inclusion left right) = concept_inclusion (basic_as_read left) (basic_as_read right)
  rule_as_read (role_inclusion P exchanged Q) = role_inclusion (lower P) (xor exchanged (xor (is_higher P) (is_higher Q))) (lower Q)

  -- 02, T-04: "its role's partner read first", which may turn the direction
  unfoldable pub written_as_read : WrittenRule → WrittenRule
  unfolding rule_as_read basic_as_read xor
  written_as_read (plain rule) = plain (rule_as_read rule)
  written_as_read (qualified left exchanged P filler) = qualified (basic_as_read left) (xor exchanged (is_higher P)) (lower P) filler

  unfoldable pub query_as_read : Query → Query
  unfolding atom_as_read
  query_as_read q = record { answers = q.answers; atoms = map atom_as_read q.atoms }

  unfoldable pub member_as_read : Member → Member
  unfolding query_as_read
  member_as_read m = record { step = m.step; query = query_as_read m.query }
