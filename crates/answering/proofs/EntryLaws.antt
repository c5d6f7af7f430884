-- What the stages of `answer` give is the outcome that the contract names, and the outcome has the meaning that the contract says.
use mathlib.Core.Path.{◌≡◌, refl, sym, ap, ap₂, ◌∙◌, subst}
use Prim.Native.Nat.{ℕ}
use mathlib.Core.Bool.{Bool, true, false, ◌||◌}
use mathlib.Core.List.{List, [], ◌∷◌}
use lib.Dec.{T, eqb, ltb}
use lib.ListN.{length, take, replicate}
use borrow.Author.Rules.{rules}
use Rattle.theory.specs.Lists.{pick, guard}
use Rattle.theory.specs.Refusals.{first_refusal, otherwise}
use Rattle.theory.specs.Evaluation.{answers_of}
use Rattle.theory.specs.Qualified.{roles_of_atoms, refuses18}
use Rattle.theory.specs.Laws.Options.{T_eqb}
use Rattle.std.specs.Prelude.{Result, Err}
use Rattle.words.specs.Refusals.{code, number_in, count_in}
use Rattle.words.specs.Words.{rules_in, query_of}
use Rattle.words.specs.declared.refusals.Refusal.{Refusal}
use Rattle.words.specs.declared.QueryWords.{QueryWords}
use Rattle.words.specs.Limits.{sheet_width}
use Rattle.sheets.specs.Partners.{partners01}
use Rattle.sheets.specs.Refusals.{Sheets, drawing, refusal_of, number_of}
use Rattle.sheets.specs.Reading.{rules_as_written, union_as_read, facts_as_read}
use Rattle.sheets.proofs.Laws.QuestionRefusals.{question_arity}
use Rattle.sheets.proofs.Laws.OneList.{number_zero, clash_refusals, fact_clash}
use Rattle.promises.proofs.Laws.Checking.{number_else, unclashed_number, drawing_number}
use Rattle.promises.specs.Drawing.{the_answers, terms_of, bytes_needed, outcome, Drawn}
use Rattle.promises.proofs.Laws.DrawPromises.{number_is, zero_means, fourteen_means, refused_means, count_means, list_means}
use Rattle.promises.proofs.Laws.DrawPromises.{both_readers, ascending, rest_zero}
use Rattle.promises.proofs.Laws.Drawing.{four}
use Rattle.read_helpers.specs.InUse.{clashing}
use Rattle.read_rules.specs.RuleWords.{RulesRead, HelpersRead}
use Rattle.read_rules.specs.RuleLaws.{helpers_within, clash_with}
use Rattle.read_question.specs.QuestionLaws.{question_small}
use Rattle.read_question.specs.QuestionWords.{QuestionRead}
use Rattle.answer_draw.specs.Gives.{room_number, Gives}
use Rattle.answer_draw.specs.EntryLaws.{numbered, rules_lent}
use Rattle.answer_draw.specs.GivesLaws.{gives_refused, gives_along}
use Rattle.answer_stages.specs.Stages.{facts_number, clash_number, GivesFromUnion}
use Rattle.answering.proofs.CheckLaws.{rules_stopped, question_stopped, union_checked, clashes_are}

-- a test on a number, as it was made
eqb_zero : (n : ℕ) → true ≡ eqb n 0 → n ≡ 0
eqb_zero n e = (T_eqb n 0).0 (subst T e tt)

eqb_other : (n : ℕ) → false ≡ eqb n 0 → n ≡ 0 → ⊥
eqb_other n e z = subst T (sym e) ((T_eqb n 0).1 z)

fourteen_number : (b : Bool) → number_of (guard b 14) ≡ pick b 14 0
unfolding number_of
fourteen_number true = refl
fourteen_number false = refl

pub otherwise_assoc : (a b c : ℕ) → otherwise (otherwise a b) c ≡ otherwise a (otherwise b c)
unfolding otherwise
otherwise_assoc a b c = go (eqb a 0) refl
  where
    go : (t : Bool) → t ≡ eqb a 0 → pick (eqb (pick t b a) 0) c (pick t b a) ≡ pick t (pick (eqb b 0) c b) a
    go true e = refl
    go false e = rw (← e)

module _ (rules question union facts : List ℕ) (room : ℕ) where
  abbrev needed : ℕ
  needed = bytes_needed question union facts

  abbrev sheets : Sheets
  sheets = four rules question union facts

  -- what comes before the facts, and the clashes after them
  abbrev pub unclashed : ℕ
  unclashed = unclashed_number partners01 sheet_width sheets

  abbrev pub clashes : ℕ
  clashes =
      otherwise (number_of (first_refusal (clash_refusals partners01 sheet_width sheets)))
      (number_of (first_refusal (fact_clash partners01 sheet_width sheets)))

  -- the number of the call, stage by stage
  abbrev staged : ℕ
  staged =
      otherwise unclashed
      (otherwise (facts_number facts) (otherwise clashes (room_number room (terms_of question) (the_answers union facts))))

  staged_is : (outcome rules question union facts room).number ≡ staged
  staged_is =
      let last = room_number room (terms_of question) (the_answers union facts) in
      number_is rules question union facts room
      ∙ number_else (refusal_of partners01 sheet_width drawing sheets) (guard (ltb room needed) 14)
      (number_zero partners01 sheet_width sheets drawing)
      ∙ ap₂ otherwise (drawing_number partners01 sheet_width sheets) (fourteen_number (ltb room needed))
      ∙ otherwise_assoc unclashed (otherwise (facts_number facts) clashes) last
      ∙ ap (otherwise unclashed) (otherwise_assoc (facts_number facts) clashes last)

  -- what a call must give
  abbrev pub Staged : ℕ → ℕ → List ℕ → Type 0
  Staged number count list = Gives room (the_answers union facts) staged number count list

  -- ---- the meaning of the outcome, of what a call gives

  module _ (number count : ℕ) (list : List ℕ) (g : Staged number count list) where
    same_number : number ≡ (outcome rules question union facts room).number
    same_number = g.number_is ∙ sym staged_is

    to_zero : number ≡ 0 → (outcome rules question union facts room).number ≡ 0
    to_zero z = sym same_number ∙ z

    same_both : (count ≡ (outcome rules question union facts room).count) × (list ≡ (outcome rules question union facts room).list)
    same_both = go (eqb number 0) refl
      where
        go : (t : Bool) → t ≡ eqb number 0 → (count ≡ (outcome rules question union facts room).count)
            × (list ≡ (outcome rules question union facts room).list)
        go true e =
            let z : number ≡ 0 = eqb_zero number e in
            let d = g.drawn (sym g.number_is ∙ z) in (
              d.0 ∙ sym (count_means rules question union facts room (to_zero z)),
              d.1
                  ∙ sym (list_means rules question union facts room (to_zero z)),
            )
        go false e =
            let z : number ≡ 0 → ⊥ = eqb_other number e in
            let d = g.refused (λ k. z (g.number_is ∙ k)) in
            let m = refused_means rules question union facts room (λ k. z (same_number ∙ k)) in
            (d.0 ∙ sym m.0, d.1 ∙ sym m.1)

    -- the pledge
    pub with_outcome : Drawn rules question union facts room number count list
    with_outcome =
        let (c, l) = same_both in
        let means = zero_means rules question union facts room in
        let short = fourteen_means rules question union facts room in
        record {
          number_is = same_number;
          count_is = c;
          list_is = l;
          zero = (λ z. means.0 (to_zero z), λ ok. same_number ∙ means.1 ok);
          short = (λ e. short.0 (sym same_number ∙ e), λ ok. same_number ∙ short.1 ok);
          readers = λ z tuple registered. rw (l, c) (both_readers rules question union facts room (to_zero z) tuple registered);
          ascending = λ z j k t u. rw (l, c) (ascending rules question union facts room (to_zero z) j k t u);
          rest = λ z. rw (l, c) (rest_zero rules question union facts room (to_zero z));
          refused = λ h. let m = refused_means rules question union facts room (λ k. h (same_number ∙ k)) in (c ∙ m.0, l ∙ m.1);
        }

-- ---- the stages of a call

-- two clashes of one number
pub both_clashes : (a b c : Bool) → otherwise (pick a 18 0) (number_of (first_refusal ((18, b) ∷ []))) ≡ pick (a || b) 18 0
unfolding otherwise number_of first_refusal
both_clashes true b c = refl
both_clashes false true c = refl
both_clashes false false c = refl

module _ (rules question union facts : List ℕ) (p table : List ℕ) (table01 : p ≡ partners01) (room : ℕ) where
  pub rules_final : (refusal : Refusal) (count : ℕ) → RulesRead p rules table (code refusal) count
      → (r : Result ℕ Refusal) (list : List ℕ) → (r ≡ Err refusal) × (list ≡ replicate room 0)
      → Staged rules question union facts room (number_in r) (count_in r) list
  rules_final refusal count read r list g =
      gives_refused room (the_answers union facts) (unclashed rules question union facts room) _ refusal r list
      (rules_stopped rules question union facts p table (code refusal) count read table01 (numbered refusal)) g

  module _ (count : ℕ) (read : RulesRead p rules table 0 count) where
    pub question_final : (refusal : Refusal) (q : QueryWords) → QuestionRead p question (code refusal) q
        → (r : Result ℕ Refusal) (list : List ℕ) → (r ≡ Err refusal) × (list ≡ replicate room 0)
        → Staged rules question union facts room (number_in r) (count_in r) list
    question_final refusal q asked r list g =
        gives_refused room (the_answers union facts) (unclashed rules question union facts room) _ refusal r list
        (question_stopped rules question union facts p table 0 count read table01 refl (code refusal) q asked (numbered refusal)) g

    module _ (q : QueryWords) (asked : QuestionRead p question 0 q) (helpers : ℕ) (clash : Bool)
        (in_use : HelpersRead p rules 0 helpers clash) (c : Bool)
        (e : c ≡ (clash || clashing helpers (roles_of_atoms (query_of q).atoms))) where
      clashes_there : clash_number c helpers (facts_as_read p sheet_width facts) ≡ clashes rules question union facts room
      clashes_there =
          let fact = clash_with p rules table 0 count helpers clash read in_use refl
          (roles_of_atoms (facts_as_read p sheet_width facts)) in
          sym (ap₂ otherwise
          (clashes_are rules question union facts p table 0 count read table01 refl 0 q asked refl helpers clash in_use c e)
          refl
          ∙ both_clashes c _ c
          ∙ ap (λ b. pick (c || b) 18 0) (sym (fact
          ∙ ap (λ t. refuses18 (rules_as_written t sheet_width rules) (roles_of_atoms (facts_as_read t sheet_width facts))) table01)))

      pub all_drawn : (number given : ℕ) (list : List ℕ)
          → GivesFromUnion p (rules_in (take count table) (length (take count table))) (query_of q) q.terms union facts helpers c room
          number given list
          → Staged rules question union facts room number given list
      all_drawn number given list g =
          let answers : answers_of (facts_as_read p sheet_width facts) (union_as_read p sheet_width union) ≡ the_answers union facts
          = ap (λ t. answers_of (facts_as_read t sheet_width facts) (union_as_read t sheet_width union)) table01 in
          let terms : q.terms ≡ terms_of question = (asked.query refl).terms_are ∙ sym (question_arity partners01 sheet_width question) in
          let before = union_checked rules question union facts p table 0 count read table01 refl 0 q asked refl in
          gives_along room (answers_of (facts_as_read p sheet_width facts) (union_as_read p sheet_width union))
          (the_answers union facts) _ _ number given list answers
          (ap₂ otherwise before (ap (otherwise (facts_number facts))
          (ap₂ otherwise clashes_there (ap₂ (room_number room) terms answers))))
          (subst (λ rs. GivesFromUnion p rs (query_of q) q.terms union facts helpers c room number given list) (rules_lent table count) g)

pub ruleset laws = (rules, helpers_within, question_small, rules_final, question_final, all_drawn)
