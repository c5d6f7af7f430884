-- What the stages of `explain` give is what its pledge says: their numbers, one after the other, are that of drawing's list of refusals.
use mathlib.Core.Path.{◌≡◌, refl, sym, ap, ap₂, ◌∙◌, subst}
use Prim.Native.Nat.{ℕ}
use native.Mathlib.Decide.{ℕ_discrete}
use mathlib.Core.Bool.{Bool, ◌||◌}
use mathlib.Core.List.{List}
use lib.ListN.{length, take, replicate}
use borrow.Author.Rules.{rules}
use Rattle.theory.specs.Lists.{pick}
use Rattle.theory.specs.Refusals.{first_refusal, otherwise}
use Rattle.theory.specs.Syntax.{Rule, UCQ, Fact}
use Rattle.theory.specs.Qualified.{roles_of_rules, roles_of_atoms, refuses18}
use Rattle.std.specs.Prelude.{Result, Err}
use Rattle.words.specs.Limits.{sheet_width}
use Rattle.words.specs.Refusals.{code, number_in, count_in}
use Rattle.words.specs.declared.refusals.Refusal.{Refusal}
use Rattle.answer_draw.specs.EntryLaws.{numbered, rules_lent}
use Rattle.words.specs.Words.{rules_in}
use Rattle.sheets.specs.Format.{term_count}
use Rattle.sheets.specs.Partners.{partners01}
use Rattle.sheets.specs.Reading.{rules_as_written}
use Rattle.sheets.specs.Refusals.{Sheets, rule_refusals, number_of}
use Rattle.sheets.proofs.Laws.QuestionRefusals.{question_arity}
use Rattle.promises.specs.TheSheets.{the_rules, the_question, the_union, the_facts}
use Rattle.promises.specs.Drawing.{terms_of}
use Rattle.promises.specs.Explaining.{four_sheets, Explained}
use Rattle.promises.proofs.Laws.Checking.{rules_stop, question_stops, question_passes, drawing_number}
use Rattle.promises.proofs.Laws.ExplainPromises.{pledge}
use Rattle.promises.specs.Laws.Telling.{TellsBehind}
use Rattle.read_helpers.specs.InUse.{clashing}
use Rattle.read_rules.specs.RuleWords.{RulesRead, HelpersRead}
use Rattle.read_rules.specs.RuleLaws.{helpers_within, clash_with, clash_of_rules}
use Rattle.check_sheet.specs.Members.{union_number}
use Rattle.answer_stages.specs.Stages.{facts_number, clash_number}
use Rattle.answering.proofs.CheckLaws.{otherwise_stops, otherwise_goes_on, either_number}
use Rattle.answering.proofs.EntryLaws.{unclashed, clashes, otherwise_assoc, both_clashes}
use Rattle.explain_stages.specs.Stages.{question_number, from_facts, TellsFromQuestion}
use Rattle.explain_stages.specs.StageLaws.{tells_refused}

module _ (rules question union facts : List ℕ) (room : ℕ) where
  -- what comes before the facts, and the facts with the clashes
  abbrev before : ℕ
  before = unclashed rules question union facts room

  abbrev after : ℕ
  after = otherwise (facts_number facts) (clashes rules question union facts room)

  module _ (tuple : List ℕ) where
    -- what a call must give
    abbrev pub Staged : ℕ → ℕ → List ℕ → Type 0
    Staged number count list =
        TellsBehind (the_rules rules) (the_facts facts) (the_union union) (terms_of question) tuple room (otherwise before after) number
        count list

    -- the pledge
    pub with_pledge : (number count : ℕ) (list : List ℕ) → Staged number count list
        → Explained rules question union facts tuple room number count list
    with_pledge number count list t =
        pledge rules question union facts tuple room number count list
        (subst (λ n. TellsBehind (the_rules rules) (the_facts facts) (the_union union) (terms_of question) tuple room n number count
        list) (sym (drawing_number partners01 sheet_width (four_sheets rules question union facts tuple))) t)

-- the same, said of other rules, facts, members, terms and numbers
tells_along : {rules rules' : List Rule} {facts facts' : List Fact} {union union' : UCQ} {terms terms' first first' : ℕ} (tuple : List ℕ)
    (room number count : ℕ) (list : List ℕ) → rules ≡ rules' → facts ≡ facts' → union ≡ union' → terms ≡ terms' → first ≡ first'
    → TellsBehind rules facts union terms tuple room first number count list
    → TellsBehind rules' facts' union' terms' tuple room first' number count list
tells_along {rules' = rules'} {facts} {facts'} {union} {union'} {terms} {terms'} {first} {first'} tuple room number count list a b c d e t =
    subst (λ x. TellsBehind rules' facts' union' terms' tuple room x number count list) e
    (subst (λ x. TellsBehind rules' facts' union' x tuple room first number count list) d
    (subst (λ x. TellsBehind rules' facts' x terms tuple room first number count list) c
    (subst (λ x. TellsBehind rules' x union terms tuple room first number count list) b
    (subst (λ x. TellsBehind x facts union terms tuple room first number count list) a t))))

-- ---- the rules, as they were read by 01's table of partners

module _ (rules question union facts : List ℕ) (room : ℕ) (table : List ℕ) (first count : ℕ)
    (read : RulesRead partners01 rules table first count) where
  abbrev sheets : Sheets
  sheets = record { rules = rules; question = question; union = union; facts = facts }

  rules_stopped : (first ≡ 0 → ⊥) → first ≡ before rules question union facts room
  rules_stopped h = read.number_is ∙ sym (rules_stop partners01 sheet_width sheets (λ z. h (read.number_is ∙ z)))

  module _ (zero : first ≡ 0) (helpers : ℕ) (clash : Bool) (in_use : HelpersRead partners01 rules first helpers clash) where
    abbrev checked : ℕ
    checked = union_number partners01 (the_rules rules) (the_question question) (term_count question 0) union

    none_first : number_of (first_refusal (rule_refusals partners01 sheet_width rules)) ≡ 0
    none_first = sym read.number_is ∙ zero

    -- question and union, one after the other
    question_first_lem : before rules question union facts room ≡ otherwise (question_number partners01 question) checked
    question_first_lem = elim (ℕ_discrete (question_number partners01 question) 0) [
      | yes e ↦ question_passes partners01 sheet_width sheets none_first e
          ∙ sym (otherwise_goes_on (question_number partners01 question) checked e)
      | no h ↦ question_stops partners01 sheet_width sheets none_first h
          ∙ sym (otherwise_stops (question_number partners01 question) checked h)
    ]

    -- the clashes that the code looks for are those of the list
    clashes_found : clashes rules question union facts room
        ≡ clash_number (clash || clashing helpers (roles_of_atoms (the_question question).atoms)) helpers (the_facts facts)
    clashes_found =
        let by = clash_with partners01 rules table first count helpers clash read in_use zero in
        let own = clash_of_rules partners01 rules table first count helpers clash read in_use zero in
        let meets : List ℕ → Bool = refuses18 (rules_as_written partners01 sheet_width rules) in
        let asked : List ℕ = roles_of_atoms (the_question question).atoms in
        let ruled : Bool = meets (roles_of_rules (rules_as_written partners01 sheet_width rules)) in
        ap₂ otherwise (either_number 18 ruled (meets asked)) refl
        ∙ both_clashes (ruled || meets asked) (meets (roles_of_atoms (the_facts facts))) clash
        ∙ ap₂ (λ a b. pick (a || b) 18 0) (sym (ap₂ ◌||◌ own (by asked))) (sym (by (roles_of_atoms (the_facts facts))))

    -- all stages, one after the other
    stages_are : otherwise (question_number partners01 question)
        (otherwise checked (from_facts partners01 facts helpers (clash || clashing helpers (roles_of_atoms (the_question question).atoms))))
        ≡ otherwise (before rules question union facts room) (after rules question union facts room)
    stages_are =
        sym (otherwise_assoc (question_number partners01 question) checked _)
        ∙ ap₂ otherwise (sym question_first_lem) (ap (otherwise (facts_number facts)) (sym clashes_found))

  -- ---- what the call gives

  module _ (tuple : List ℕ) (list : List ℕ) where
    rules_refused : (refusal : Refusal) (r : Result ℕ Refusal) → first ≡ code refusal → (r ≡ Err refusal) × (list ≡ replicate room 0)
        → Staged rules question union facts room tuple (number_in r) (count_in r) list
    rules_refused refusal r e g =
        tells_refused (the_rules rules) (the_facts facts) (the_union union) (terms_of question) tuple room
        (before rules question union facts room) _ refusal r list
        (sym e ∙ rules_stopped (λ z. numbered refusal (sym e ∙ z))) g

    rules_passed : (zero : first ≡ 0) (helpers : ℕ) (clash : Bool) → HelpersRead partners01 rules first helpers clash
        → (number told : ℕ) → TellsFromQuestion partners01 (rules_in table count) question union facts helpers clash tuple room number
        told list
        → Staged rules question union facts room tuple number told list
    rules_passed zero helpers clash in_use number told g =
        tells_along tuple room number told list (read.read zero) refl refl (sym (question_arity partners01 sheet_width question))
        (ap (λ rs. otherwise (question_number partners01 question)
        (otherwise (union_number partners01 rs (the_question question) (term_count question 0) union)
        (from_facts partners01 facts helpers (clash || clashing helpers (roles_of_atoms (the_question question).atoms))))) (read.read zero)
        ∙ stages_are zero helpers clash in_use)
        g.told

-- the same of the partners that were lent, which are 01's, and of the rules that are lent
module _ (rules question union facts : List ℕ) (room : ℕ) (p table : List ℕ) (table01 : p ≡ partners01) (tuple : List ℕ)
    (list : List ℕ) where
  pub rules_final : (refusal : Refusal) (count : ℕ) → RulesRead p rules table (code refusal) count → (r : Result ℕ Refusal)
      → (r ≡ Err refusal) × (list ≡ replicate room 0)
      → Staged rules question union facts room tuple (number_in r) (count_in r) list
  rules_final refusal count read r =
      rules_refused rules question union facts room table (code refusal) count
      (subst (λ t. RulesRead t rules table (code refusal) count) table01 read) tuple list refusal r refl

  pub all_told : (count : ℕ) → RulesRead p rules table 0 count → (helpers : ℕ) (clash : Bool) → HelpersRead p rules 0 helpers clash
      → (number told : ℕ)
      → TellsFromQuestion p (rules_in (take count table) (length (take count table))) question union facts helpers clash tuple room number
      told list
      → Staged rules question union facts room tuple number told list
  all_told count read helpers clash in_use number told g =
      rules_passed rules question union facts room table 0 count (subst (λ t. RulesRead t rules table 0 count) table01 read) tuple
      list refl helpers clash
      (subst (λ t. HelpersRead t rules 0 helpers clash) table01 in_use) number told
      (subst (λ t. TellsFromQuestion t (rules_in table count) question union facts helpers clash tuple room number told list) table01
      (subst (λ rs. TellsFromQuestion p rs question union facts helpers clash tuple room number told list) (rules_lent table count) g))

pub ruleset laws = (rules, helpers_within, rules_final, all_told)
