-- A file is read as far as one byte beyond its limit. What is left out changes nothing: a sheet over its limit meets its own first
-- refusal, 1, 3, 6 or 12, whatever its bytes are, and the refusals before that one read other sheets.
use Rattle.std.specs.Prelude.{◌≡◌, ℕ, suc, ◌<◌, Bool, true, false, not, ◌||◌, T, ltb, length, take}
use Rattle.std.proofs.Math.Path.{refl, ap}
use Rattle.std.proofs.Common.{sym, ◌∙◌, subst, inl, inr, arith, take_all, length-take-le, lt-ltb}
use Rattle.std.proofs.Math.Option.{Option, none, some, or_else}
use mathlib.Core.List.{List, [], ◌∷◌}
use Rattle.theory.specs.Lists.{guard}
use Rattle.theory.specs.Refusals.{first_refusal}
use Rattle.theory.specs.Union.{check}
use Rattle.words.specs.Limits.{sheet_width, most_rule_bytes, most_question_bytes, most_union_bytes, most_fact_bytes}
use Rattle.sheets.specs.Format.{term_count}
use Rattle.sheets.specs.Partners.{partners01}
use Rattle.sheets.specs.Refusals.{Sheets, rule_refusals, question_refusals, fact_refusals}
use Rattle.sheets.specs.Tests.{refuses1, refuses3, refuses6, refuses12}
use Rattle.sheets.specs.Reading.{rules_as_read, question_as_read, union_as_read}
use Rattle.sheets.proofs.Laws.Tests.{lt_or_le}
use Rattle.sheets.proofs.Laws.QuestionRefusals.{not3_iff, counts_in_range}
use Rattle.sheets.proofs.Laws.OneList.{clash_refusals, fact_clash, drawing_first}
use Rattle.sheets.proofs.Laws.UnionLengths.{too_long}
use Rattle.promises.specs.Drawing.{Outcome, outcome_by, outcome, the_answers, bytes_needed}
use Rattle.promises.specs.Laws.Cut.{cut_to}

-- ---- over its limit

or_true : (b : Bool) → b || true ≡ true
or_true true = refl
or_true false = refl

pub long_rules : (s : List ℕ) → most_rule_bytes < length s → first_refusal (rule_refusals partners01 sheet_width s) ≡ some 1
unfolding first_refusal rule_refusals refuses1
long_rules s h = rw (lt-ltb most_rule_bytes (length s) h, or_true)

long_facts : (s : List ℕ) → most_fact_bytes sheet_width < length s → first_refusal (fact_refusals sheet_width s) ≡ some 12
unfolding first_refusal fact_refusals refuses12
long_facts s h = rw (lt-ltb (most_fact_bytes sheet_width) (length s) h, or_true)

question_over : (s : List ℕ) → most_question_bytes sheet_width < length s → refuses3 sheet_width s ≡ true
question_over s h = go (refuses3 sheet_width s) refl
  where
    go : (b : Bool) → refuses3 sheet_width s ≡ b → b ≡ true
    go true e = refl
    go false e =
        let (sound, size) = (not3_iff sheet_width s).0 (λ t. subst T e t) in
        let (terms, one, atoms) = counts_in_range sheet_width s 0 sound in
        absurd (omega arith)

pub long_question : (s : List ℕ) → most_question_bytes sheet_width < length s
    → first_refusal (question_refusals partners01 sheet_width s) ≡ some 3
unfolding first_refusal question_refusals
long_question s h = rw (question_over s h)

not_false : (b : Bool) → false ≡ not b → b ≡ true
not_false true e = refl
not_false false e = absurd (let z : ◌≡◌ {A = ℕ} 0 1 = cc in omega arith)

long_union : (arity : ℕ) (s : List ℕ) → most_union_bytes sheet_width < length s
    → first_refusal ((6, refuses6 partners01 sheet_width arity s) ∷ []) ≡ some 6
unfolding first_refusal
long_union arity s h = rw (not_false (refuses6 partners01 sheet_width arity s) (too_long partners01 s arity h))

-- one file read as far as one byte beyond its limit, if that changes nothing where it is longer
pub one_cut : {X : Type 0} (limit : ℕ) (s : List ℕ) (call : List ℕ → X)
    → (limit < length (cut_to limit s) → limit < length s → call (cut_to limit s) ≡ call s) → call (cut_to limit s) ≡ call s
one_cut limit s call same =
    elim (lt_or_le limit (length s)) [
      | inl l ↦ same (let e : length (cut_to limit s) ≡ suc limit = length-take-le (suc limit) s (omega arith) in omega arith) l
      | inr l ↦ ap call (take_all (suc limit) s (omega arith))
    ]

-- ---- a call by its sheets' refusals, one after the other

abbrev of_rules : List ℕ → Option ℕ
of_rules rules = first_refusal (rule_refusals partners01 sheet_width rules)

abbrev of_question : List ℕ → Option ℕ
of_question question = first_refusal (question_refusals partners01 sheet_width question)

abbrev of_bytes : List ℕ → List ℕ → Option ℕ
of_bytes question union = first_refusal ((6, refuses6 partners01 sheet_width (term_count question 0) union) ∷ [])

abbrev of_union : List ℕ → List ℕ → List ℕ → Option ℕ
of_union rules question union =
    check (rules_as_read partners01 sheet_width rules) (question_as_read partners01 sheet_width question)
    (union_as_read partners01 sheet_width union)

abbrev of_facts : List ℕ → Option ℕ
of_facts facts = first_refusal (fact_refusals sheet_width facts)

abbrev of_clash : List ℕ → List ℕ → List ℕ → List ℕ → Option ℕ
of_clash rules question union facts =
    let sheets : Sheets = record { rules = rules; question = question; union = union; facts = facts } in
    or_else (first_refusal (clash_refusals partners01 sheet_width sheets)) (first_refusal (fact_clash partners01 sheet_width sheets))

module _ (room : ℕ) where
  abbrev of_list : List ℕ → List ℕ → List ℕ → Option ℕ
  of_list question union facts = guard (ltb room (bytes_needed question union facts)) 14

  -- by what refuses the rules, the question, the union's bytes, the check of the union and the facts, in this order, and what comes after
  abbrev by_refusals : Option ℕ → Option ℕ → Option ℕ → Option ℕ → Option ℕ → Option ℕ → Option ℕ → List (List ℕ) → Outcome
  by_refusals rules question bytes union facts clash list answers =
      outcome_by room answers (or_else (or_else (or_else rules (or_else question (or_else bytes union))) (or_else facts clash)) list)

  is_by : (r q u f : List ℕ)
      → outcome r q u f room
      ≡ by_refusals (of_rules r) (of_question q) (of_bytes q u) (of_union r q u) (of_facts f) (of_clash r q u f) (of_list q u f)
      (the_answers u f)
  unfolding outcome
  is_by r q u f =
      ap (λ (o : Option ℕ). outcome_by room (the_answers u f) (or_else o (of_list q u f)))
      (drawing_first partners01 sheet_width (record { rules = r; question = q; union = u; facts = f }))

  -- ---- what a sheet over its limit comes to: nothing that is looked at after it counts

  over_rules : (r q u f : List ℕ) → most_rule_bytes < length r → outcome r q u f room ≡ outcome_by room [] (some 1)
  unfolding or_else
  over_rules r q u f h =
      is_by r q u f
      ∙ ap (λ (o : Option ℕ). by_refusals o (of_question q) (of_bytes q u) (of_union r q u) (of_facts f) (of_clash r q u f) (of_list q u f)
      (the_answers u f))
      (long_rules r h)

  over_question : (r q u f : List ℕ) → most_question_bytes sheet_width < length q
      → outcome r q u f room ≡ outcome_by room [] (or_else (of_rules r) (some 3))
  unfolding or_else
  over_question r q u f h =
      is_by r q u f
      ∙ ap (λ (o : Option ℕ). by_refusals (of_rules r) o (of_bytes q u) (of_union r q u) (of_facts f) (of_clash r q u f) (of_list q u f)
      (the_answers u f))
      (long_question q h)
      ∙ stop (of_rules r)
    where
      stop : (o : Option ℕ)
          → by_refusals o (some 3) (of_bytes q u) (of_union r q u) (of_facts f) (of_clash r q u f) (of_list q u f) (the_answers u f)
          ≡ outcome_by room [] (or_else o (some 3))
      stop none = refl
      stop (some n) = refl

  over_union : (r q u f : List ℕ) → most_union_bytes sheet_width < length u
      → outcome r q u f room ≡ outcome_by room [] (or_else (of_rules r) (or_else (of_question q) (some 6)))
  unfolding or_else
  over_union r q u f h =
      is_by r q u f
      ∙ ap (λ (o : Option ℕ). by_refusals (of_rules r) (of_question q) o (of_union r q u) (of_facts f) (of_clash r q u f) (of_list q u f)
      (the_answers u f))
      (long_union (term_count q 0) u h)
      ∙ stop (of_rules r) (of_question q)
    where
      stop : (o p : Option ℕ)
          → by_refusals o p (some 6) (of_union r q u) (of_facts f) (of_clash r q u f) (of_list q u f) (the_answers u f)
          ≡ outcome_by room [] (or_else o (or_else p (some 6)))
      stop none none = refl
      stop none (some n) = refl
      stop (some n) p = refl

  over_facts : (r q u f : List ℕ) → most_fact_bytes sheet_width < length f
      → outcome r q u f room
      ≡ outcome_by room [] (or_else (or_else (of_rules r) (or_else (of_question q) (or_else (of_bytes q u) (of_union r q u)))) (some 12))
  unfolding or_else
  over_facts r q u f h =
      is_by r q u f
      ∙ ap (λ (o : Option ℕ). by_refusals (of_rules r) (of_question q) (of_bytes q u) (of_union r q u) o (of_clash r q u f) (of_list q u f)
      (the_answers u f))
      (long_facts f h)
      ∙ stop (or_else (of_rules r) (or_else (of_question q) (or_else (of_bytes q u) (of_union r q u))))
    where
      stop : (o : Option ℕ)
          → outcome_by room (the_answers u f) (or_else (or_else o (or_else (some 12) (of_clash r q u f))) (of_list q u f))
          ≡ outcome_by room [] (or_else o (some 12))
      stop none = refl
      stop (some n) = refl

  -- ---- what is read of each file

  pub cut_same : (r q u f : List ℕ)
      → outcome (cut_to most_rule_bytes r) (cut_to (most_question_bytes sheet_width) q) (cut_to (most_union_bytes sheet_width) u)
      (cut_to (most_fact_bytes sheet_width) f) room ≡ outcome r q u f room
  cut_same r q u f =
      let q' : List ℕ = cut_to (most_question_bytes sheet_width) q in
      let u' : List ℕ = cut_to (most_union_bytes sheet_width) u in
      let f' : List ℕ = cut_to (most_fact_bytes sheet_width) f in
      one_cut most_rule_bytes r (λ s. outcome s q' u' f' room)
      (λ l' l. over_rules (cut_to most_rule_bytes r) q' u' f' l' ∙ sym (over_rules r q' u' f' l))
      ∙ one_cut (most_question_bytes sheet_width) q (λ s. outcome r s u' f' room) (λ l' l. over_question r q' u' f' l'
      ∙ sym (over_question r q u' f' l))
      ∙ one_cut (most_union_bytes sheet_width) u (λ s. outcome r q s f' room)
      (λ l' l. over_union r q u' f' l' ∙ sym (over_union r q u f' l))
      ∙ one_cut (most_fact_bytes sheet_width) f (λ s. outcome r q u s room) (λ l' l. over_facts r q u f' l' ∙ sym (over_facts r q u f l))
