-- 02, T-04, "Each pump has a motor that is a drive": rules as written, a syntax above rules as read; as which of 01's rules each of them is
-- read, over helper roles; and where a helper may not stand. All of it speaks of rules whose reciprocal names are read.
use Rattle.std.specs.Prelude.{ℕ, ◌+◌, ◌-◌, Bool, true, false, not, eqb, length}
use mathlib.Core.List.{List, [], ◌∷◌, ◌++◌, flat_map}
use Rattle.theory.specs.Lists.{◌∈◌, any}
use Rattle.theory.specs.Syntax.{Atom, concept, role, Basic, named, has, has_inverse, Rule, concept_inclusion, role_inclusion}

-- A rule as written: one of 01's, or a kind 3 with its kind 4: each bearer of the left description has the role to something that bears
-- the filler, a concept. Where the Boolean is true, something that bears the filler has the role to it.
pub data WrittenRule : Type 0 where
  plain : Rule → WrittenRule
  qualified : Basic → Bool → ℕ → ℕ → WrittenRule

-- "has the role to something", or, exchanged, "something has the role to it"
abbrev pub some_role : Bool → ℕ → Basic
some_role false P = has P
some_role true P = has_inverse P

-- ---- as which rules it is read

-- "The pair [..] is read as three rules over a helper role: the left side has the helper in the direction given, the helper implies the
-- role in the same direction, and its far end bears the filler." H is the helper.
abbrev pub read_as : ℕ → WrittenRule → List Rule
read_as H (plain rule) = rule ∷ []
read_as H (qualified left exchanged P filler) =
    concept_inclusion left (some_role exchanged H)
    ∷ role_inclusion H false P
    ∷ concept_inclusion (some_role (not exchanged) H) (named filler)
    ∷ []

-- the helper that it uses
abbrev pub helper_in : ℕ → WrittenRule → List ℕ
helper_in H (plain rule) = []
helper_in H (qualified left exchanged P filler) = H ∷ []

-- "Helpers are numbered from 4,095 down in sheet order."
abbrev pub first_helper : ℕ
first_helper = 4095

-- a written rule in its sheet: the index of its first rule as read, and the helper for it if it needs one
pub record PlacedRule : Type 0 where
  pub index : ℕ
  pub helper : ℕ
  pub rule : WrittenRule

-- index and helper for the rule after it
abbrev pub next_index : ℕ → ℕ → WrittenRule → ℕ
next_index i H w = i + length (read_as H w)

abbrev pub next_helper : ℕ → WrittenRule → ℕ
next_helper H w = H - length (helper_in H w)

-- the rules of a sheet from some index and helper on
unfoldable pub placed_from : ℕ → ℕ → List WrittenRule → List PlacedRule
placed_from i H [] = []
placed_from i H (w ∷ ws) = record { index = i; helper = H; rule = w } ∷ placed_from (next_index i H w) (next_helper H w) ws

abbrev pub placed_rules : List WrittenRule → List PlacedRule
placed_rules ws = placed_from 0 first_helper ws

-- the rules as read: "The limit of 512 and the rule indices count rules as read."
unfoldable pub rules_read : List WrittenRule → List Rule
unfolding placed_from flat_map
rules_read ws = flat_map (λ p. read_as p.helper p.rule) (placed_rules ws)

-- the helpers in use
unfoldable pub helpers_of : List WrittenRule → List ℕ
unfolding placed_from flat_map
helpers_of ws = flat_map (λ p. helper_in p.helper p.rule) (placed_rules ws)

-- ---- where roles stand

abbrev pub roles_of_basic : Basic → List ℕ
roles_of_basic (named A) = []
roles_of_basic (has P) = P ∷ []
roles_of_basic (has_inverse P) = P ∷ []

abbrev pub roles_of_rule : Rule → List ℕ
roles_of_rule (concept_inclusion left right) = roles_of_basic left ++ roles_of_basic right
roles_of_rule (role_inclusion P exchanged Q) = P ∷ Q ∷ []

-- the filler is a concept, and so no role
abbrev pub roles_of_written : WrittenRule → List ℕ
roles_of_written (plain rule) = roles_of_rule rule
roles_of_written (qualified left exchanged P filler) = roles_of_basic left ++ (P ∷ [])

abbrev pub roles_of_atom : {X : Type 0} → Atom X → List ℕ
roles_of_atom (concept A x) = []
roles_of_atom (role P x y) = P ∷ []

unfoldable pub roles_of_rules : List WrittenRule → List ℕ
unfolding flat_map
roles_of_rules ws = flat_map roles_of_written ws

unfoldable pub roles_of_atoms : {X : Type 0} → List (Atom X) → List ℕ
unfolding flat_map
roles_of_atoms atoms = flat_map roles_of_atom atoms

-- 18: "a helper number as a role in a written rule, the question or a fact", given the roles that stand there
abbrev pub Meets18 : List WrittenRule → List ℕ → Type 0
Meets18 ws roles = (H : ℕ) × (H ∈ helpers_of ws) × (H ∈ roles)

unfoldable pub refuses18 : List WrittenRule → List ℕ → Bool
unfolding any helpers_of
refuses18 ws roles = any (λ P. any (eqb P) (helpers_of ws)) roles
