-- The numbers that the readers give, one after the other, come to the first refusal of the list.
use mathlib.Core.Path.{◌≡◌, refl, sym, ap, ap₂, ◌∙◌}
use Prim.Native.Nat.{ℕ}
use mathlib.Core.Bool.{Bool, true, false, ◌||◌}
use mathlib.Core.List.{List, [], ◌∷◌}
use lib.ListN.{length, take}
use borrow.Author.Rules.{rules}
use borrow.Author.Tests.{eq-eqb, ne_eqb}
use Rattle.theory.specs.Lists.{pick}
use Rattle.theory.specs.Refusals.{first_refusal, otherwise}
use Rattle.theory.specs.Syntax.{Query}
use Rattle.theory.specs.Qualified.{roles_of_rules, roles_of_atoms, refuses18}
use Rattle.words.specs.Refusals.{code}
use Rattle.words.specs.Words.{rules_in, query_of}
use Rattle.words.specs.declared.refusals.Refusal.{Refusal}
use Rattle.words.specs.declared.QueryWords.{QueryWords}
use Rattle.words.specs.Limits.{sheet_width}
use Rattle.sheets.specs.Format.{term_count}
use Rattle.sheets.specs.Partners.{partners01}
use Rattle.sheets.specs.Refusals.{Sheets, rule_refusals, question_refusals, number_of}
use Rattle.sheets.specs.Reading.{rules_as_written, rules_as_read, question_as_read}
use Rattle.sheets.proofs.Laws.OneList.{clash_refusals}
use Rattle.promises.proofs.Laws.Checking.{unclashed_number, rules_stop, question_stops, question_passes, checking_number}
use Rattle.promises.specs.Checking.{sheets_of, check_number, Checked}
use Rattle.promises.proofs.Laws.CheckPromises.{zero_means}
use Rattle.read_helpers.specs.InUse.{clashing}
use Rattle.read_rules.specs.RuleWords.{RulesRead, HelpersRead}
use Rattle.read_rules.specs.RuleLaws.{rules_within, helpers_within, clash_with, clash_of_rules}
use Rattle.read_question.specs.QuestionWords.{QuestionRead}
use Rattle.read_question.specs.QuestionLaws.{question_small}
use Rattle.check_sheet.specs.Members.{union_number}
use Rattle.answer_draw.specs.EntryLaws.{numbered, rules_lent}

-- ---- numbers, one after the other

pub otherwise_stops : (a b : ℕ) → (a ≡ 0 → ⊥) → otherwise a b ≡ a
unfolding otherwise
otherwise_stops a b h = rw (ne_eqb a 0 h)

pub otherwise_goes_on : (a b : ℕ) → a ≡ 0 → otherwise a b ≡ b
unfolding otherwise
otherwise_goes_on a b e = rw (eq-eqb a 0 e)

-- two tests of one number
pub either_number : (n : ℕ) (a b : Bool) → number_of (first_refusal ((n, a) ∷ (n, b) ∷ [])) ≡ pick (a || b) n 0
unfolding number_of first_refusal
either_number n true b = refl
either_number n false true = refl
either_number n false false = refl

-- ---- what comes before the clashes, and the clashes of rules and question

module _ (rules question union facts : List ℕ) (p table : List ℕ) (first count : ℕ) (read : RulesRead p rules table first count) where
  abbrev sheets : Sheets
  sheets = record { rules = rules; question = question; union = union; facts = facts }

  abbrev pub before : ℕ
  before = unclashed_number partners01 sheet_width sheets

  module _ (table01 : p ≡ partners01) where
    first_is : first ≡ number_of (first_refusal (rule_refusals partners01 sheet_width rules))
    first_is = read.number_is ∙ ap (λ t. number_of (first_refusal (rule_refusals t sheet_width rules))) table01

    pub rules_stopped : (first ≡ 0 → ⊥) → first ≡ before
    rules_stopped h = first_is ∙ sym (rules_stop partners01 sheet_width sheets (λ z. h (first_is ∙ z)))

    module _ (zero : first ≡ 0) (second : ℕ) (q : QueryWords) (asked : QuestionRead p question second q) where
      second_is : second ≡ number_of (first_refusal (question_refusals partners01 sheet_width question))
      second_is = asked.number_is ∙ ap (λ t. number_of (first_refusal (question_refusals t sheet_width question))) table01

      pub question_stopped : (second ≡ 0 → ⊥) → second ≡ before
      question_stopped h =
          second_is ∙ sym (question_stops partners01 sheet_width sheets (sym first_is ∙ zero) (λ z. h (second_is ∙ z)))

      module _ (zero' : second ≡ 0) where
        question_is : query_of q ≡ question_as_read partners01 sheet_width question
        unfolding question_as_read
        question_is = (asked.query zero').query_is ∙ ap (λ t. question_as_read t sheet_width question) table01

        pub union_checked : union_number p (rules_in table count) (query_of q) q.terms union ≡ before
        union_checked =
            let a : rules_in table count ≡ rules_as_read partners01 sheet_width rules = read.read zero
            ∙ ap (λ t. rules_as_read t sheet_width rules) table01 in
            let b = question_is in
            let d : q.terms ≡ term_count question 0 = (asked.query zero').terms_are in
            rw (a, b, d, table01) (sym (question_passes partners01 sheet_width sheets (sym first_is ∙ zero) (sym second_is ∙ zero')))

        -- c is what the code found
        pub clashes_are : (helpers : ℕ) (clash : Bool) → HelpersRead p rules first helpers clash → (c : Bool)
            → c ≡ (clash || clashing helpers (roles_of_atoms (query_of q).atoms))
            → number_of (first_refusal (clash_refusals partners01 sheet_width sheets)) ≡ pick c 18 0
        clashes_are helpers clash in_use c e =
            either_number 18 _ _
            ∙ ap (λ b. pick b 18 0)
            (sym (e ∙ ap₂ ◌||◌
            (clash_of_rules p rules table first count helpers clash read in_use zero
            ∙ ap (λ t. refuses18 (rules_as_written t sheet_width rules) (roles_of_rules (rules_as_written t sheet_width rules))) table01)
            (clash_with p rules table first count helpers clash read in_use zero (roles_of_atoms (query_of q).atoms)
            ∙ ap₂ (λ t (asks : Query). refuses18 (rules_as_written t sheet_width rules) (roles_of_atoms asks.atoms)) table01 question_is)))

-- ---- a check

module _ (rules question union : List ℕ) (p table : List ℕ) (table01 : p ≡ partners01) where
  abbrev clashes : ℕ
  clashes = number_of (first_refusal (clash_refusals partners01 sheet_width (sheets_of rules question union)))

  abbrev so_far : ℕ
  so_far = unclashed_number partners01 sheet_width (sheets_of rules question union)

  stops : (n : ℕ) → (n ≡ 0 → ⊥) → n ≡ so_far → n ≡ check_number rules question union
  stops n h e =
      sym (checking_number partners01 sheet_width (sheets_of rules question union) ∙ ap (λ m. otherwise m clashes) (sym e)
      ∙ otherwise_stops n clashes h)

  pub rules_refused : (refusal : Refusal) (count : ℕ) → RulesRead p rules table (code refusal) count
      → code refusal ≡ check_number rules question union
  rules_refused refusal count read =
      stops (code refusal) (numbered refusal)
      (rules_stopped rules question union [] p table (code refusal) count read table01 (numbered refusal))

  module _ (count : ℕ) (read : RulesRead p rules table 0 count) where
    pub question_refused : (refusal : Refusal) (q : QueryWords) → QuestionRead p question (code refusal) q
        → code refusal ≡ check_number rules question union
    question_refused refusal q asked =
        stops (code refusal) (numbered refusal)
        (question_stopped rules question union [] p table 0 count read table01 refl (code refusal) q asked (numbered refusal))

    module _ (q : QueryWords) (asked : QuestionRead p question 0 q) where
      checked : (r : ℕ) → r ≡ union_number p (rules_in (take count table) (length (take count table))) (query_of q) q.terms union
          → r ≡ so_far
      checked r g =
          g ∙ ap (λ rs. union_number p rs (query_of q) q.terms union) (rules_lent table count)
          ∙ union_checked rules question union [] p table 0 count read table01 refl 0 q asked refl

      pub union_refused : (refusal : Refusal)
          → code refusal ≡ union_number p (rules_in (take count table) (length (take count table))) (query_of q) q.terms union
          → code refusal ≡ check_number rules question union
      union_refused refusal g = stops (code refusal) (numbered refusal) (checked (code refusal) g)

      module _ (g : 0 ≡ union_number p (rules_in (take count table) (length (take count table))) (query_of q) q.terms union)
          (helpers : ℕ) (clash : Bool) (in_use : HelpersRead p rules 0 helpers clash) (c : Bool)
          (e : c ≡ (clash || clashing helpers (roles_of_atoms (query_of q).atoms))) where
        last_is : check_number rules question union ≡ pick c 18 0
        last_is =
            checking_number partners01 sheet_width (sheets_of rules question union)
            ∙ otherwise_goes_on so_far clashes (sym (checked 0 g))
            ∙ clashes_are rules question union [] p table 0 count read table01 refl 0 q asked refl helpers clash in_use c e

        pub clash_refused : c ≡ true → 18 ≡ check_number rules question union
        clash_refused t = sym (last_is ∙ ap (λ b. pick b 18 0) t)

        pub all_checked : c ≡ false → 0 ≡ check_number rules question union
        all_checked f = sym (last_is ∙ ap (λ b. pick b 18 0) f)

-- the pledge, of the number that a check gives
pub with_meaning : (rules question union : List ℕ) (r : ℕ) → r ≡ check_number rules question union → Checked rules question union r
with_meaning rules question union r e =
    let means = zero_means rules question union in
    record { first_refusal_is = e; accepted = (λ z. means.0 (sym e ∙ z), λ ok. e ∙ means.1 ok) }

pub ruleset laws = (
  rules,
  rules_within,
  helpers_within,
  question_small,
  rules_refused,
  question_refused,
  union_refused,
  clash_refused,
  all_checked,
)
