-- What the stages of `write` give is the outcome that its contract names.
use mathlib.Core.Path.{◌≡◌, refl, sym, ap, ap₂, ◌∙◌, subst}
use mathlib.Core.Logic.{◌≢◌}
use Prim.Native.Nat.{ℕ, ◌≤◌}
use mathlib.Core.Option.{Option, none, some, or_else}
use mathlib.Core.Bool.{Bool, true, false, ◌||◌}
use mathlib.Core.List.{List, [], ◌∷◌}
use lib.Dec.{ltb}
use native.Mathlib.Omega.{arith}
use lib.ListN.{length, take, replicate, length-take}
use borrow.Author.Rules.{rules}
use Rattle.theory.specs.Lists.{guard, all}
use Rattle.theory.specs.Refusals.{first_refusal}
use Rattle.theory.specs.Syntax.{Query}
use Rattle.theory.specs.Qualified.{roles_of_rules, roles_of_atoms, refuses18}
use Rattle.theory.specs.Writing.{written_union}
use Rattle.std.specs.Prelude.{Result, Err}
use Rattle.words.specs.Limits.{sheet_width, most_members, most_rules}
use Rattle.words.specs.Refusals.{code, number_in}
use Rattle.words.specs.Words.{query_of, rules_in}
use Rattle.words.specs.declared.refusals.Refusal.{Refusal}
use Rattle.words.specs.declared.refusals.Refusal.TheVariants.{HelperAsRole}
use Rattle.words.specs.declared.QueryWords.{QueryWords}
use Rattle.sheets.specs.Partners.{partners01}
use Rattle.sheets.specs.Reading.{rules_as_written, rules_as_read, question_as_read}
use Rattle.sheets.specs.Refusals.{number_of, writing, rule_refusals, question_refusals}
use Rattle.sheets.proofs.Laws.OneList.{first_positive, clash_refusals, writing_first}
use Rattle.promises.specs.TheSheets.{the_question, the_refusal}
use Rattle.promises.specs.Writing.{write_outcome_by, two_sheets, the_written, union_bytes, refusal_to_write, write_outcome, UnionWritten}
use Rattle.promises.proofs.Laws.WritePromises.{pledge}
use Rattle.read_helpers.specs.InUse.{clashing}
use Rattle.read_rules.specs.RuleWords.{RulesRead, HelpersRead}
use Rattle.read_rules.specs.RuleLaws.{rules_few, rules_within, helpers_within, clash_with, clash_of_rules}
use Rattle.read_question.specs.QuestionWords.{QuestionRead}
use Rattle.read_question.specs.QuestionLaws.{question_small, question_distinct}
use Rattle.write_stage.specs.declared.Written.{Written}
use Rattle.write_stage.specs.Counted.{count_written, size_written}
use Rattle.write_stage.specs.Stage.{GivesOutcome, refusal_of_union, GivesUnion}
use Rattle.answer_draw.specs.EntryLaws.{numbered, rules_lent}
use Rattle.write_stage.specs.StageLaws.{gives_refusal}

-- ---- rules and question, as they were read

pub lent_few : (table : List ℕ) (n : ℕ) → n ≤ most_rules → length (take n table) ≤ most_rules
lent_few table n h = simp length-take (omega arith)

is_refused : (o : Option ℕ) → number_of o ≢ 0 → o ≡ some (number_of o)
unfolding number_of
is_refused none h = absurd (h refl)
is_refused (some n) h = refl

module _ (rules question : List ℕ) (room : ℕ) where
  abbrev R : Option ℕ
  R = first_refusal (rule_refusals partners01 sheet_width rules)

  abbrev Q : Option ℕ
  Q = first_refusal (question_refusals partners01 sheet_width question)

  abbrev K : Option ℕ
  K = first_refusal (clash_refusals partners01 sheet_width (two_sheets rules question))

  -- the refusal of the call, where that of the sheets is this
  abbrev from_sheets : Option ℕ → Option ℕ
  from_sheets o =
      or_else (or_else o (guard (ltb most_members (length (the_written rules question))) 15))
      (guard (ltb room (union_bytes rules question)) 16)

  own_refusal : (o : Option ℕ) → or_else R (or_else Q K) ≡ o → the_refusal writing (two_sheets rules question) ≡ o
  own_refusal o e = writing_first partners01 sheet_width (two_sheets rules question) ∙ e

  outcome_refused : (refusal : Refusal) → or_else R (or_else Q K) ≡ some (code refusal) → (r : Result Written Refusal) (sheet : List ℕ)
      → (r ≡ Err refusal) × (sheet ≡ replicate room 0) → GivesOutcome (write_outcome rules question room) r sheet
  unfolding write_outcome or_else
  outcome_refused refusal e r sheet g =
      gives_refusal (the_written rules question) room (refusal_to_write rules question room) sheet refusal r
      (ap from_sheets (own_refusal (some (code refusal)) e)) g.0 g.1

  module _ (p table : List ℕ) (table01 : p ≡ partners01) where
    first_is : (first count : ℕ) → RulesRead p rules table first count → first ≡ number_of R
    first_is first count read = read.number_is ∙ ap (λ t. number_of (first_refusal (rule_refusals t sheet_width rules))) table01

    pub rules_turned_back : (refusal : Refusal) (count : ℕ) → RulesRead p rules table (code refusal) count
        → (r : Result Written Refusal) (sheet : List ℕ) → (r ≡ Err refusal) × (sheet ≡ replicate room 0)
        → GivesOutcome (write_outcome rules question room) r sheet
    unfolding or_else
    rules_turned_back refusal count read r sheet =
        let is = first_is (code refusal) count read in
        outcome_refused refusal
        (ap (λ o. or_else o (or_else Q K)) (is_refused R (λ z. numbered refusal (is ∙ z)) ∙ ap some (sym is))) r sheet

    module _ (count : ℕ) (read : RulesRead p rules table 0 count) where
      rules_pass : R ≡ none
      unfolding rule_refusals all
      rules_pass = (first_positive (rule_refusals partners01 sheet_width rules) tt).0 (sym (first_is 0 count read))

      second_is : (second : ℕ) (q : QueryWords) → QuestionRead p question second q → second ≡ number_of Q
      second_is second q asked =
          asked.number_is ∙ ap (λ t. number_of (first_refusal (question_refusals t sheet_width question))) table01

      pub question_turned_back : (refusal : Refusal) (q : QueryWords) → QuestionRead p question (code refusal) q
          → (r : Result Written Refusal) (sheet : List ℕ) → (r ≡ Err refusal) × (sheet ≡ replicate room 0)
          → GivesOutcome (write_outcome rules question room) r sheet
      unfolding or_else
      question_turned_back refusal q asked r sheet =
          let is = second_is (code refusal) q asked in
          outcome_refused refusal
          (ap (λ o. or_else o (or_else Q K)) rules_pass
          ∙ ap (λ o. or_else o K) (is_refused Q (λ z. numbered refusal (is ∙ z)) ∙ ap some (sym is))) r sheet

      module _ (q : QueryWords) (asked : QuestionRead p question 0 q) where
        question_passes : Q ≡ none
        unfolding question_refusals all
        question_passes = (first_positive (question_refusals partners01 sheet_width question) tt).0 (sym (second_is 0 q asked))

        read_is : query_of q ≡ the_question question
        unfolding question_as_read
        read_is = (asked.query refl).query_is ∙ ap (λ t. question_as_read t sheet_width question) table01

        union_is : written_union most_members (rules_in (take count table) (length (take count table))) (query_of q)
            ≡ the_written rules question
        union_is =
            ap₂ (written_union most_members)
            (rules_lent table count ∙ read.read refl ∙ ap (λ t. rules_as_read t sheet_width rules) table01) read_is

        -- c is what the code found of clashes
        module _ (helpers : ℕ) (clash : Bool) (in_use : HelpersRead p rules 0 helpers clash) (c : Bool)
            (e : c ≡ (clash || clashing helpers (roles_of_atoms (query_of q).atoms))) where
          sheets_are : or_else R (or_else Q K) ≡ guard c 18
          unfolding or_else first_refusal
          sheets_are =
              ap₂ (λ o o'. or_else o (or_else o' K)) rules_pass question_passes
              ∙ either_guard (refuses18 (rules_as_written partners01 sheet_width rules)
              (roles_of_rules (rules_as_written partners01 sheet_width rules)))
              (refuses18 (rules_as_written partners01 sheet_width rules) (roles_of_atoms (the_question question).atoms))
              ∙ ap (λ b. guard b 18)
              (sym (e ∙ ap₂ ◌||◌
              (clash_of_rules p rules table 0 count helpers clash read in_use refl
              ∙ ap (λ t. refuses18 (rules_as_written t sheet_width rules) (roles_of_rules (rules_as_written t sheet_width rules))) table01)
              (clash_with p rules table 0 count helpers clash read in_use refl (roles_of_atoms (query_of q).atoms)
              ∙ ap₂ (λ t (asks : Query). refuses18 (rules_as_written t sheet_width rules) (roles_of_atoms asks.atoms)) table01 read_is)))
            where
              either_guard : (a b : Bool) → first_refusal ((18, a) ∷ (18, b) ∷ []) ≡ guard (a || b) 18
              either_guard true b = refl
              either_guard false true = refl
              either_guard false false = refl

          pub clash_turned_back : c ≡ true → (r : Result Written Refusal) (sheet : List ℕ)
              → (r ≡ Err HelperAsRole) × (sheet ≡ replicate room 0) → GivesOutcome (write_outcome rules question room) r sheet
          clash_turned_back t r sheet = outcome_refused HelperAsRole (sheets_are ∙ ap (λ b. guard b 18) t) r sheet

          pub all_read : c ≡ false → (r : Result Written Refusal) (sheet : List ℕ)
              → GivesUnion (written_union most_members (rules_in (take count table) (length (take count table))) (query_of q)) room r sheet
              → GivesOutcome (write_outcome rules question room) r sheet
          unfolding write_outcome or_else
          all_read f r sheet g =
              subst (λ o. GivesOutcome o r sheet)
              (ap (λ u. write_outcome_by room u (refusal_of_union u room)) union_is
              ∙ ap (write_outcome_by room (the_written rules question))
              (sym (ap from_sheets (own_refusal none (sheets_are ∙ ap (λ b. guard b 18) f)))))
              g

-- ---- the pledge

pub with_outcome : (rules question : List ℕ) (room : ℕ) (r : Result Written Refusal) (sheet : List ℕ)
    → GivesOutcome (write_outcome rules question room) r sheet
    → UnionWritten rules question room (number_in r) (count_written r) (size_written r) sheet
with_outcome rules question room r sheet g =
    rw (g.number_is, g.count_is, g.size_is, g.sheet_is) (pledge rules question room)

pub ruleset laws = (
  rules,
  rules_within,
  rules_few,
  question_small,
  rules_turned_back,
  question_turned_back,
  question_distinct,
  helpers_within,
  clash_turned_back,
  all_read,
  lent_few,
)
