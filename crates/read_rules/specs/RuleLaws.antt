-- The rules that were read are no more than are allowed, and stand within their table.
use Rattle.std.specs.Prelude.{◌≡◌, ℕ, ◌≤◌, Bool, List}
use Rattle.std.proofs.Common.{arith}
use Rattle.std.proofs.Math.ListN.{length}
use Rattle.theory.specs.Qualified.{rules_read, roles_of_rules, refuses18}
use Rattle.words.specs.Limits.{sheet_width, most_rules}
use Rattle.sheets.specs.Reading.{rules_as_written, rules_as_read}
use Rattle.read_helpers.specs.InUse.{clashing}
use Rattle.read_helpers.specs.InUseLaws.{clash_is}
use Rattle.read_rules.specs.RuleWords.{RulesRead, HelpersRead}

module _ (p s table : List ℕ) (number count : ℕ) (read : RulesRead p s table number count) where
  pub rules_few : count ≤ most_rules
  rules_few = read.few

  pub rules_within : length table ≡ most_rules → count ≤ length table
  rules_within h = let l : count ≤ most_rules = read.few in omega arith

-- ---- helpers

module _ (p s : List ℕ) (number helpers : ℕ) (clash : Bool) (read : HelpersRead p s number helpers clash) where
  pub helpers_within : helpers ≤ most_rules
  helpers_within = read.helpers_few

-- 18 by rules and question, where none of 1, 2 and 17 applies and the question was read
module _ (p s table : List ℕ) (number count helpers : ℕ) (clash : Bool) (read : RulesRead p s table number count)
    (in_use : HelpersRead p s number helpers clash) (zero : number ≡ 0) where
  -- the roles that a clash is looked for in are compared with the helpers in use
  pub clash_with : (roles : List ℕ) → clashing helpers roles ≡ refuses18 (rules_as_written p sheet_width s) roles
  unfolding rules_as_read
  clash_with roles =
      let many : count ≡ length (rules_read (rules_as_written p sheet_width s)) = read.counted zero in
      let few : count ≤ most_rules = read.few in
      clash_is (rules_as_written p sheet_width s) (omega arith) helpers (in_use.helpers_are zero) roles

  pub clash_of_rules : clash ≡ refuses18 (rules_as_written p sheet_width s) (roles_of_rules (rules_as_written p sheet_width s))
  clash_of_rules = in_use.clash_is zero
