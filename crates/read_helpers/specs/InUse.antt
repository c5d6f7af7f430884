-- Which roles are helpers in use, where so many are: the numbers from 4,095 down (02, T-04); and the roles in a record of a rule sheet.
use Rattle.std.specs.Prelude.{ℕ, ◌+◌, Bool, ◌&&◌, List, [], ◌∷◌, ◌++◌, eqb, ltb}
use Rattle.theory.specs.Lists.{pick, any}
use Rattle.theory.specs.Qualified.{first_helper, roles_of_basic}
use Rattle.words.specs.Limits.{name_bound}
use Rattle.words.specs.Records.{rule_kind, left_form, left_name, right_form, right_name, basic_of}
use Rattle.sheets.specs.Partners.{lower, basic_as_read}

unfoldable pub is_helper : ℕ → ℕ → Bool
is_helper helpers P = ltb first_helper (P + helpers) && ltb P name_bound

-- one of these roles is
unfoldable pub clashing : ℕ → List ℕ → Bool
unfolding is_helper any
clashing helpers roles = any (is_helper helpers) roles

-- the roles in a record of a sheet that meets neither 2 nor 17, as read: of two roles in kind 2, of two descriptions in kinds 1 and 3; the
-- filler in kind 4 is a concept
unfoldable pub record_roles : List ℕ → ℕ → List ℕ
unfolding lower basic_as_read basic_of
record_roles partners x =
    pick (eqb (rule_kind x) 2)
    (lower partners (left_name x) ∷ lower partners (right_name x) ∷ [])
    (pick (eqb (rule_kind x) 4) []
    (roles_of_basic (basic_as_read partners (basic_of (left_form x) (left_name x)))
    ++ roles_of_basic (basic_as_read partners (basic_of (right_form x) (right_name x)))))
