-- The refusals of a rule sheet, 1, 2 and 17, and the sheet read where none applies.
use mathlib.Core.Path.{◌≡◌, refl, sym, ap, ◌∙◌, subst}
use Prim.Native.Nat.{ℕ, ◌+◌, ◌/◌, ◌%◌, ◌≤◌, ◌<◌}
use native.Mathlib.Omega.{arith}
use mathlib.Core.Bool.{Bool, true, false}
use mathlib.Core.Option.{none, some}
use mathlib.Core.List.{List}
use lib.Dec.{T, ltb, leb}
use lib.ListN.{length}
use borrow.Author.Rules.{rules}
use borrow.Author.Tests.{eq-eqb, ne_eqb, lt-ltb, le-ltb, leb-true}
use Rattle.theory.specs.Lists.{pick, all}
use Rattle.theory.specs.Refusals.{first_refusal}
use Rattle.words.specs.Limits.{sheet_width, rule_bytes, most_rules, most_rule_bytes}
use Rattle.words.specs.Words.{rules_in}
use Rattle.sheets.specs.Format.{rule_records, pairs_in}
use Rattle.sheets.specs.Refusals.{rule_refusals, number_of}
use Rattle.sheets.specs.Reading.{rules_as_written, rules_as_read}
use Rattle.sheets.specs.Tests.{refuses1, passes2, refuses2, pairs_sound, refuses17}
use Rattle.sheets.proofs.Laws.RecordLoops.{row_length, row_laws}
use Rattle.sheets.proofs.Laws.RuleSheets.{rules_counted as as_many_rules, helpers_counted}
use Rattle.theory.specs.Qualified.{helpers_of, roles_of_rules}
use Rattle.read_helpers.specs.InUse.{clashing}
use Rattle.read_helpers.specs.InUseLaws.{clash_is}
use Rattle.read_records.specs.ReadIntoLaws.{sheet_refused}
use Rattle.read_rules.specs.Filling.{FewRules}
use Rattle.read_rules.specs.RuleWords.{RulesRead, HelpersRead, PairedRead}

-- on a refusal there are none
pub helpers_none : (p s : List ℕ) (k : ℕ) → leb 1 k ≡ true → HelpersRead p s k 0 false
helpers_none p s k l = record {
  helpers_are = λ z. absurd (let m : 1 ≤ k = leb-true 1 k l in omega arith);
  helpers_few = omega arith;
  clash_is = λ z. absurd (let m : 1 ≤ k = leb-true 1 k l in omega arith);
}

module _ (p s : List ℕ) where
  -- the number of the first that applies
  abbrev the_number : ℕ
  the_number = number_of (first_refusal (rule_refusals p sheet_width s))

  pub rules_refused : (table : List ℕ) (k : ℕ) → leb 1 k ≡ true → k ≡ the_number → RulesRead p s table k 0
  rules_refused table k one is =
      sheet_refused the_number (rules_as_read p sheet_width s) (rules_in table) most_rules k 0 k refl one is refl

  -- as many rules as records and pairs
  module _ (named : all passes2 (rule_records s) ≡ true) (paired : pairs_sound false (rule_records s) ≡ true) (pairs : ℕ)
      (are : pairs ≡ pairs_in (rule_records s)) where
    many : length (rules_as_read p sheet_width s) ≡ length s / rule_bytes + pairs
    many =
        as_many_rules p sheet_width s (subst T (sym named) tt) (subst T (sym paired) tt)
        ∙ ap (λ k. k + pairs_in (rule_records s)) (row_length rule_bytes s 0 (length s / rule_bytes))
        ∙ ap (λ k. length s / rule_bytes + k) (sym are)

    pub paired_many : (most : ℕ) → leb most_rules most ≡ true → most < length s / rule_bytes + pairs → (table : List ℕ)
        → PairedRead p s table 17 0 0 false
    paired_many most g h table =
        let over : most_rules < length (rules_as_read p sheet_width s) = let m = many in omega (arith, leb-true most_rules most g) in
        record {
          number_is = rw (lt-ltb most_rules (length (rules_as_read p sheet_width s)) over);
          read = λ none. absurd (omega arith);
          counted = λ none. absurd (omega arith);
          none = λ f. refl;
          few = omega arith;
          in_use = helpers_none p s 17 refl;
        }

    module _ (most : ℕ) (g : leb most most_rules ≡ true) (h : length s / rule_bytes + pairs ≤ most) where
      few : length (rules_as_read p sheet_width s) ≤ most_rules
      few = let e = many in omega (arith, leb-true most most_rules g)

      in_number : pairs ≡ length (helpers_of (rules_as_written p sheet_width s))
      in_number = are ∙ sym (helpers_counted p sheet_width s (subst T (sym named) tt) (subst T (sym paired) tt))

      pub few_rules : FewRules p s
      few_rules = record { few = few }

      pub paired_read : (table : List ℕ) → rules_in table (length (rules_as_read p sheet_width s)) ≡ rules_as_read p sheet_width s
          → (clash : Bool) → clash ≡ clashing pairs (roles_of_rules (rules_as_written p sheet_width s))
          → PairedRead p s table 0 (length s / rule_bytes + pairs) pairs clash
      unfolding rules_as_read
      paired_read table read clash tested = record {
        number_is = rw (le-ltb most_rules (length (rules_as_read p sheet_width s)) few);
        read = λ z. ap (rules_in table) (sym many) ∙ read;
        counted = λ z. sym many;
        none = λ f. absurd (f refl);
        few = omega (arith, leb-true most most_rules g);
        in_use = record {
          helpers_are = λ z. in_number;
          helpers_few = omega (arith, leb-true most most_rules g);
          clash_is = λ z. tested ∙ clash_is (rules_as_written p sheet_width s) few pairs in_number
              (roles_of_rules (rules_as_written p sheet_width s));
        };
      }

  pub rules_odd : (length s % rule_bytes ≡ 0 → ⊥) → 1 ≡ the_number
  unfolding rule_refusals refuses1 number_of first_refusal
  rules_odd odd = rw (ne_eqb (length s % rule_bytes) 0 odd)

  -- the limit that the code names is `limit`
  module _ (even : length s % rule_bytes ≡ 0) (limit : ℕ) where
    pub rules_long : limit < length s → leb most_rule_bytes limit ≡ true → 1 ≡ the_number
    unfolding rule_refusals refuses1 number_of first_refusal
    rules_long long l =
        rw (eq-eqb (length s % rule_bytes) 0 even, lt-ltb most_rule_bytes (length s) (omega (arith, leb-true most_rule_bytes limit l)))

    module _ (short : length s ≤ limit) (l : leb limit most_rule_bytes ≡ true) where
      no_longer : length s ≤ most_rule_bytes
      no_longer = omega (arith, leb-true limit most_rule_bytes l)

      pub rules_unnamed : (b : Bool) → b ≡ all passes2 (rule_records s) → b ≡ false → 2 ≡ the_number
      unfolding rule_refusals refuses1 refuses2 number_of first_refusal
      rules_unnamed b e f =
          rw (eq-eqb (length s % rule_bytes) 0 even, le-ltb most_rule_bytes (length s) no_longer, ← e, f)

      module _ (named : all passes2 (rule_records s) ≡ true) where
        pub rules_unpaired : (b : Bool) → b ≡ pairs_sound false (rule_records s) → b ≡ false → 17 ≡ the_number
        unfolding rule_refusals refuses1 refuses2 refuses17 number_of first_refusal
        rules_unpaired b e f =
            rw (eq-eqb (length s % rule_bytes) 0 even, le-ltb most_rule_bytes (length s) no_longer, named, ← e, f)

        module _ (paired : pairs_sound false (rule_records s) ≡ true) (table : List ℕ) (number count helpers : ℕ)
            (clash : Bool) (read : PairedRead p s table number count helpers clash) where
          last_is : number ≡ the_number
          unfolding rule_refusals refuses1 refuses2 refuses17 number_of first_refusal
          last_is =
              read.number_is
              ∙ rw (eq-eqb (length s % rule_bytes) 0 even, le-ltb most_rule_bytes (length s) no_longer, named, paired)
              (seventeen (ltb most_rules (length (rules_as_read p sheet_width s))))
            where
              seventeen : (b : Bool) → pick b 17 0 ≡ number_of (pick b (some 17) none)
              seventeen true = refl
              seventeen false = refl

          pub rules_there : RulesRead p s table number count
          rules_there = record {
            number_is = last_is;
            read = read.read;
            counted = read.counted;
            none = read.none;
            few = read.few;
          }

          pub helpers_there : HelpersRead p s number helpers clash
          helpers_there = read.in_use

-- a test of the code, as it came out
pub as_tested : (b c : Bool) → b ≡ c → b ≡ true → c ≡ true
as_tested b c e t = sym e ∙ t

pub ruleset refusal_laws = (
  rules,
  row_laws,
  rules_refused,
  helpers_none,
  as_tested,
  rules_odd,
  rules_long,
  rules_unnamed,
  rules_unpaired,
  rules_there,
  helpers_there,
)

pub ruleset paired_laws = (rules, paired_many, few_rules, paired_read)
