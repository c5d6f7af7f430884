-- The number that a check gives: what 0 means, what any other number means, and how it comes from the sheets one after the other.
use Rattle.std.specs.Prelude.{◌≡◌, refl, ◌↔◌, ◌≢◌, Bool, true, false, List, [], ◌∷◌}
use Rattle.std.proofs.Common.{sym, ◌∙◌, arith, ne_eqb}
use Rattle.std.proofs.Math.Path.{ap}
use Rattle.std.proofs.Math.Logic.Iff
use Prim.Native.Nat.{ℕ, ◌<◌}
use Rattle.std.proofs.Math.Option.{Option, none, some, or_else}
use Rattle.theory.specs.Lists.{pick, all}
use Rattle.theory.specs.Refusals.{first_refusal, otherwise, First}
use Rattle.theory.specs.Union.{Accepted, check}
use Rattle.theory.specs.Laws.Options.{none≢some, some_inj}
use Rattle.theory.proofs.Laws.Union.{check_accepts}
use Rattle.sheets.specs.Format.{term_count}
use Rattle.sheets.specs.Refusals.{Sheets, rules_and_question, question_and_union, checking, drawing, refusal_of, Sound, number_of, refusals}
use Rattle.sheets.specs.Refusals.{conditions_for, rule_refusals, question_refusals, fact_refusals, read_rules, read_question, read_union}
use Rattle.sheets.specs.Tests.{refuses6}
use Rattle.sheets.proofs.Laws.OneList.{
  or_else_none,
  first_positive,
  number_stops,
  number_goes_on,
  union_refusals,
  clash_refusals,
  fact_clash,
}
use Rattle.sheets.proofs.Laws.OneList.{unclashed_first, checking_first, drawing_first, writing_first, question_and_union_lem, number_zero}
use Rattle.sheets.proofs.Laws.OneList.{unclashed_none, unclashed_positive, checked, refused_iff}

-- a number other than 0 is that of a refusal
pub numbered : (o : Option ℕ) (n : ℕ) → 0 < n → (number_of o ≡ n) ↔ (o ≡ some n)
unfolding number_of
numbered none n l = (λ e. absurd (omega arith), λ e. absurd (none≢some e))
numbered (some m) n l = (ap some, some_inj)

-- numbers, one after the other
pub number_else : (o o' : Option ℕ) → ((number_of o ≡ 0) ↔ (o ≡ none)) → number_of (or_else o o') ≡ otherwise (number_of o) (number_of o')
unfolding or_else number_of otherwise
number_else none o' h = refl
number_else (some n) o' h = rw (ne_eqb n 0 (λ z. absurd (none≢some (sym (h.0 z)))))

-- one test, and then something else
tested : (n : ℕ) (b : Bool) (o : Option ℕ) → number_of (or_else (first_refusal ((n, b) ∷ [])) o) ≡ pick b n (number_of o)
unfolding first_refusal or_else number_of
tested n true o = refl
tested n false o = refl

module _ (partners : List ℕ) (w : ℕ) (sheets : Sheets) where
  -- the first refusal of each sheet, of the check, and of the clashes
  abbrev rules_first : Option ℕ
  rules_first = first_refusal (rule_refusals partners w sheets.rules)

  abbrev question_first : Option ℕ
  question_first = first_refusal (question_refusals partners w sheets.question)

  abbrev union_first : Option ℕ
  union_first = first_refusal (union_refusals partners w sheets)

  abbrev check_first : Option ℕ
  check_first = check (read_rules partners w sheets) (read_question partners w sheets) (read_union partners w sheets)

  abbrev clash_first : Option ℕ
  clash_first = first_refusal (clash_refusals partners w sheets)

  -- ---- what the number means

  pub zero_iff : (number_of (refusal_of partners w checking sheets) ≡ 0)
      ↔ (Sound partners w rules_and_question sheets × Sound partners w question_and_union sheets
      × Accepted (read_rules partners w sheets) (read_question partners w sheets) (read_union partners w sheets))
  zero_iff =
      let first = writing_first partners w sheets in
      let middle = question_and_union_lem partners w sheets in
      let accepts = check_accepts (read_rules partners w sheets) (read_question partners w sheets) (read_union partners w sheets) in
      Iff.trans (number_zero partners w sheets checking) (
        λ e. let (before, clash) = (checked partners w sheets).0 e in
            let ok = (unclashed_none partners w sheets).0 before in (
              first ∙ (or_else_none rules_first (or_else question_first clash_first)).1
                  (ok.0, (or_else_none question_first clash_first).1 (ok.1, clash)),
              middle ∙ (or_else_none question_first union_first).1 (ok.1, ok.2),
              accepts.0 ok.3,
            ),
        λ ok. let (rules, later) = (or_else_none rules_first (or_else question_first clash_first)).0 (sym first ∙ ok.0) in
            let (question, clash) = (or_else_none question_first clash_first).0 later in
            let union = ((or_else_none question_first union_first).0 (sym middle ∙ ok.1)).1 in
            (checked partners w sheets).1 ((unclashed_none partners w sheets).1 (rules, question, union, accepts.1 ok.2), clash),
      )

  pub positive_iff : (n : ℕ) → 0 < n → (number_of (refusal_of partners w checking sheets) ≡ n)
      ↔ First (conditions_for partners w checking sheets (refusals partners w)) n
  positive_iff n l = Iff.trans (numbered (refusal_of partners w checking sheets) n l) (refused_iff partners w sheets checking n)

  -- ---- sheet by sheet: what comes before the clashes, where a refusal is final

  -- the number of 1, 2, 17 and 3 to 11
  abbrev pub unclashed_number : ℕ
  unclashed_number = number_of (unclashed_first partners w sheets)

  pub rules_stop : number_of rules_first ≢ 0 → unclashed_number ≡ number_of rules_first
  rules_stop h = number_stops rules_first (or_else question_first (or_else union_first check_first)) h

  rules_pass : number_of rules_first ≡ 0 → unclashed_number ≡ number_of (or_else question_first (or_else union_first check_first))
  unfolding rule_refusals all
  rules_pass e =
      number_goes_on rules_first (or_else question_first (or_else union_first check_first))
      ((first_positive (rule_refusals partners w sheets.rules) tt).0 e)

  pub question_stops : number_of rules_first ≡ 0 → number_of question_first ≢ 0 → unclashed_number ≡ number_of question_first
  question_stops e h = rules_pass e ∙ number_stops question_first (or_else union_first check_first) h

  pub question_passes : number_of rules_first ≡ 0 → number_of question_first ≡ 0
      → unclashed_number ≡ pick (refuses6 partners w (term_count sheets.question 0) sheets.union) 6 (number_of check_first)
  unfolding question_refusals all
  question_passes e f =
      rules_pass e
      ∙ number_goes_on question_first (or_else union_first check_first)
      ((first_positive (question_refusals partners w sheets.question) tt).0 f)
      ∙ tested 6 (refuses6 partners w (term_count sheets.question 0) sheets.union) check_first

  -- ---- and what comes after them

  pub unclashed_zero : (unclashed_number ≡ 0) ↔ (unclashed_first partners w sheets ≡ none)
  unclashed_zero = unclashed_positive partners w sheets

  pub checking_number : number_of (refusal_of partners w checking sheets) ≡ otherwise unclashed_number (number_of clash_first)
  checking_number =
      ap number_of (checking_first partners w sheets) ∙ number_else (unclashed_first partners w sheets) clash_first unclashed_zero

  pub drawing_number : number_of (refusal_of partners w drawing sheets)
      ≡ otherwise unclashed_number (otherwise (number_of (first_refusal (fact_refusals w sheets.facts)))
      (otherwise (number_of clash_first) (number_of (first_refusal (fact_clash partners w sheets)))))
  unfolding fact_refusals all
  drawing_number =
      let F : Option ℕ = first_refusal (fact_refusals w sheets.facts) in
      let K : Option ℕ = first_refusal (fact_clash partners w sheets) in
      ap number_of (drawing_first partners w sheets)
      ∙ number_else (unclashed_first partners w sheets) (or_else F (or_else clash_first K)) unclashed_zero
      ∙ ap (otherwise unclashed_number)
      (number_else F (or_else clash_first K) (first_positive (fact_refusals w sheets.facts) tt)
      ∙ ap (otherwise (number_of F)) (number_else clash_first K (first_positive (clash_refusals partners w sheets) tt)))
