-- What reading a rule sheet gives.
use Rattle.std.specs.Prelude.{◌≡◌, ℕ, ◌≤◌, Bool, false, List, ltb, length, Result, Ok, Err}
use Rattle.theory.specs.Lists.{pick}
use Rattle.theory.specs.Refusals.{first_refusal}
use Rattle.theory.specs.Qualified.{helpers_of, roles_of_rules, refuses18}
use Rattle.words.specs.Limits.{sheet_width, most_rules}
use Rattle.words.specs.Words.{rules_in}
use Rattle.words.specs.declared.refusals.Refusal.{Refusal}
use Rattle.sheets.specs.Reading.{rules_as_written, rules_as_read}
use Rattle.sheets.specs.Refusals.{number_of, rule_refusals}
use Rattle.read_records.specs.ReadInto.{ReadInto}
use Rattle.read_rules.specs.declared.RuleSheet.{RuleSheet}

-- how many rules a sheet is read as, how many helpers they use, and whether one stands in a rule as written; none on a refusal
abbrev pub rule_count : Result RuleSheet Refusal → ℕ
rule_count (Ok sheet) = sheet.count
rule_count (Err refusal) = 0

abbrev pub helper_count : Result RuleSheet Refusal → ℕ
helper_count (Ok sheet) = sheet.helpers
helper_count (Err refusal) = 0

abbrev pub clash_in : Result RuleSheet Refusal → Bool
clash_in (Ok sheet) = sheet.clash
clash_in (Err refusal) = false

-- the number is that of the first of 1, 2 and 17 that applies; where none does, the table's first `count` words are the sheet's rules as
-- read, and the count is their number
abbrev pub RulesRead : List ℕ → List ℕ → List ℕ → ℕ → ℕ → Type 0
RulesRead partners s table number count =
    ReadInto (number_of (first_refusal (rule_refusals partners sheet_width s))) (rules_as_read partners sheet_width s)
    (rules_in table) most_rules
    number count

-- so many helpers are in use, the numbers from 4,095 down, and the flag is 18's test on the rules as written
pub record HelpersRead (partners s : List ℕ) (number helpers : ℕ) (clash : Bool) : Type 0 where
  pub helpers_are : number ≡ 0 → helpers ≡ length (helpers_of (rules_as_written partners sheet_width s))
  pub helpers_few : helpers ≤ most_rules
  pub clash_is : number ≡ 0
      → clash ≡ refuses18 (rules_as_written partners sheet_width s) (roles_of_rules (rules_as_written partners sheet_width s))

-- a sheet that meets neither 1 nor 2, with every pair whole: 17 where it is read as more than 512 rules
pub record PairedRead (partners s table : List ℕ) (number count helpers : ℕ) (clash : Bool) : Type 0 where
  pub number_is : number ≡ pick (ltb most_rules (length (rules_as_read partners sheet_width s))) 17 0
  pub read : number ≡ 0 → rules_in table count ≡ rules_as_read partners sheet_width s
  pub counted : number ≡ 0 → count ≡ length (rules_as_read partners sheet_width s)
  pub none : (number ≡ 0 → ⊥) → count ≡ 0
  pub few : count ≤ most_rules
  pub in_use : HelpersRead partners s number helpers clash
