-- A table that is being filled with the rules of a sheet, rule by rule: one record for one place, or a pair of records for three.
use Rattle.std.specs.Prelude.{◌≡◌, ℕ, ◌+◌, ◌/◌, ◌≤◌, true, false, length, take}
use mathlib.Core.List.{List, ◌++◌, map, flat_map}
use Rattle.theory.specs.Lists.{all}
use Rattle.theory.specs.Syntax.{Rule}
use Rattle.theory.specs.Qualified.{read_as, first_helper, placed_from}
use Rattle.words.specs.Limits.{sheet_width, rule_bytes, most_rules}
use Rattle.words.specs.Records.{rule_in}
use Rattle.sheets.specs.Format.{written_in}
use Rattle.sheets.specs.Partners.{written_as_read}
use Rattle.sheets.specs.Reading.{rules_as_read}
use Rattle.sheets.specs.Tests.{passes2, pairs_sound}
use Rattle.sheets.specs.Laws.RecordLoops.{left}

-- the sheet is read as no more rules than are allowed
pub record FewRules (p s : List ℕ) : Type 0 where
  pub few : length (rules_as_read p sheet_width s) ≤ most_rules

-- the records from the i-th on
abbrev pub rest : List ℕ → ℕ → List ℕ
rest s i = left rule_bytes s 0 (length s / rule_bytes) i

-- the rules that records are read as, from some index and helper on
abbrev pub rules_of_rest : List ℕ → List ℕ → ℕ → ℕ → List Rule
rules_of_rest p records count helper =
    flat_map (λ q. read_as q.helper q.rule) (placed_from count helper (map (written_as_read p) (written_in records)))

-- the first `count` places hold the rules of the records before the i-th; what is left meets neither 2 nor 17, and has room
pub record FillingRules (p s table : List ℕ) (i count helper : ℕ) : Type 0 where
  pub filled : map rule_in (take count table) ++ rules_of_rest p (rest s i) count helper ≡ rules_as_read p sheet_width s
  pub named : all passes2 (rest s i) ≡ true
  pub sound : pairs_sound false (rest s i) ≡ true
  pub few : length (rules_as_read p sheet_width s) ≤ most_rules
  pub most : count ≤ most_rules
  pub room : most_rules ≤ length table
  pub within : i ≤ length s / rule_bytes
  -- each helper takes three places, so there is always a next one
  pub highest : helper ≤ first_helper
  pub lowest : first_helper ≤ helper + count
