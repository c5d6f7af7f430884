-- A table with the three rules of a pair in it.
use Rattle.std.specs.Prelude.{◌≡◌, ℕ, ◌+◌, List, ◌++◌, map, take}
use Rattle.theory.specs.Qualified.{read_as}
use Rattle.words.specs.Records.{rule_in, qualified_in}
use Rattle.sheets.specs.Partners.{written_as_read}

-- after what the table held up to place `at` come the rules that the kind 3 in x and the kind 4 in y are read as, over this helper
pub record PairPut (partners : List ℕ) (x y helper at : ℕ) (before after : List ℕ) : Type 0 where
  pub put : map rule_in (take (at + 3) after) ≡ map rule_in (take at before) ++ read_as helper (written_as_read partners (qualified_in x y))
