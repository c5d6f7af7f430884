-- What is promised of comparing (02, T-05), and what the pledge rests on.
use Rattle.std.specs.Prelude.{◌≡◌, refl, ◌↔◌, ℕ, ◌<◌, Bool, true, false, List}
use Rattle.std.proofs.Math.Path.{sym, ap}
use Rattle.std.proofs.Common.{◌∙◌, arith}
use Rattle.std.proofs.Math.Logic.Iff
use Rattle.std.proofs.Math.Decide.{ℕ_discrete}
use Rattle.std.proofs.Math.Option.{Option, none, some, or_else}
use Rattle.theory.specs.Lists.{◌∈◌, is_some}
use Rattle.theory.specs.Refusals.{First, number_of}
use Rattle.theory.specs.Syntax.{var, terms}
use Rattle.theory.specs.Renaming.{Alike, find_renaming}
use Rattle.theory.specs.Targets.{places}
use Rattle.theory.specs.Laws.Options.{none≢some}
use Rattle.theory.proofs.Laws.Targets.{handed_back_unique}
use Rattle.theory.proofs.Laws.SmallestFound.{targets_found, search_hands_back}
use Rattle.words.specs.Limits.{sheet_width}
use Rattle.sheets.specs.Partners.{partners01}
use Rattle.sheets.specs.Refusals.{only_question}
use Rattle.sheets.proofs.Laws.OneList.{question_alone_lem, number_zero, refused_iff, passed_iff}
use Rattle.sheets.proofs.Laws.QuestionRefusals.{not3_iff, variables_in_range}
use Rattle.sheets.proofs.Laws.StepsInRange.{question_unrefused}
use Rattle.sheets.specs.Reading.{question_as_read}
use Rattle.promises.specs.TheSheets.{the_question, the_refusal, the_conditions}
use Rattle.promises.specs.Renaming.{question_alone, SoundQuestion, flagged, refusal_to_rename, rename_conditions, Renamed}
use Rattle.promises.proofs.Laws.Checking.{numbered}
use Rattle.promises.proofs.Laws.Conditions.{with_more}

module _ (first second : List ℕ) where
  abbrev F : Option ℕ
  F = the_refusal only_question (question_alone first)

  abbrev S : Option ℕ
  S = the_refusal only_question (question_alone second)

  number_none : (o o' : Option ℕ) → ((number_of o ≡ 0) ↔ (o ≡ none)) → ((number_of o' ≡ 0) ↔ (o' ≡ none))
      → (number_of (or_else o o') ≡ 0) ↔ ((o ≡ none) × (o' ≡ none))
  unfolding or_else number_of
  number_none none o' h k = (λ e. (refl, k.0 e), λ e. k.1 e.1)
  number_none (some n) o' h k = (λ e. absurd (none≢some (sym (h.0 e))), λ e. absurd (none≢some (sym e.0)))

  pub zero_sound : (number_of (refusal_to_rename first second) ≡ 0) ↔ (SoundQuestion first × SoundQuestion second)
  zero_sound =
      number_none F S (number_zero partners01 sheet_width (question_alone first) only_question)
      (number_zero partners01 sheet_width (question_alone second) only_question)

  -- a number other than 0 is that of the first condition that holds: 3 to 5 of the first sheet, then 3 to 5 of the second
  pub number_means : (number found : ℕ) (targets : List ℕ) → Renamed first second number found targets → (n : ℕ) → 0 < n
      → (number ≡ n) ↔ First (rename_conditions first second) n
  number_means number found targets r n l =
      Iff.trans (λ e. sym r.number_is ∙ e, λ e. r.number_is ∙ e) (Iff.trans (numbered (refusal_to_rename first second) n l)
      (with_more (the_conditions only_question (question_alone first)) (the_conditions only_question (question_alone second)) F S
      (refused_iff partners01 sheet_width (question_alone first) only_question)
      (passed_iff partners01 sheet_width (question_alone first) only_question)
      (refused_iff partners01 sheet_width (question_alone second) only_question) n))

  -- the flag is 1 exactly where the sheets are sound and the questions alike
  pub found_means : (number found : ℕ) (targets : List ℕ) → Renamed first second number found targets
      → (found ≡ 1) ↔ (SoundQuestion first × SoundQuestion second × Alike (the_question first) (the_question second))
  found_means number found targets r = (
    λ e. elim (ℕ_discrete number 0) [
      | yes z ↦ (let (b, d, h) = r.handed_back z in let s = r.zero.0 z in
          (s.0, s.1, (h.smallest (flag_yes b (sym d ∙ e))).fits.renaming))
      | no f ↦ absurd (let d = (r.refused f).0 in let one : found ≡ 1 = e in omega arith)
    ],
    λ (x, y, a). let (b, d, h) = r.handed_back (r.zero.1 (x, y)) in d ∙ yes_flag b (λ n. h.none_fits n a),
  )
    where
      flag_yes : (b : Bool) → flagged b ≡ 1 → b ≡ true
      flag_yes true e = refl
      flag_yes false e = absurd (omega arith)

      yes_flag : (b : Bool) → ¬ (b ≡ false) → flagged b ≡ 1
      yes_flag true f = refl
      yes_flag false f = absurd (f refl)

  -- the two sheets fix everything that is returned
  pub one_answer : (number found number' found' : ℕ) (targets targets' : List ℕ) → Renamed first second number found targets
      → Renamed first second number' found' targets' → (number ≡ number') × (found ≡ found') × (targets ≡ targets')
  one_answer number found number' found' targets targets' r r' =
      let same : number ≡ number' = r.number_is ∙ sym r'.number_is in
      elim (ℕ_discrete number 0) [
        | yes z ↦ (let (b, d, h) = r.handed_back z in let (b', d', h') = r'.handed_back (sym same ∙ z) in
            let u = handed_back_unique (the_question first) (the_question second) b b' targets targets' h h' in
            (same, d ∙ ap flagged u.0 ∙ sym d', u.1))
        | no f ↦ (let d = r.refused f in let d' = r'.refused (λ z. f (same ∙ z)) in
            (same, d.0 ∙ sym d'.0, d.1 ∙ sym d'.1))
      ]

  -- what is returned can be computed: it is what the search of `Renaming` finds
  pub found_computed : (number found : ℕ) (targets : List ℕ) → Renamed first second number found targets → number ≡ 0
      → (found ≡ flagged (is_some (find_renaming (the_question first) (the_question second))))
      × (targets ≡ targets_found (find_renaming (the_question first) (the_question second)))
  unfolding question_as_read
  found_computed number found targets r z =
      let (b, d, h) = r.handed_back z in
      let u = handed_back_unique (the_question first) (the_question second) b
      (is_some (find_renaming (the_question first) (the_question second))) targets
      (targets_found (find_renaming (the_question first) (the_question second))) h
      (search_hands_back (the_question first) (the_question second) (low (r.zero.0 z).0)) in
      (d ∙ ap flagged u.0, u.1)
    where
      low : SoundQuestion first → (v : ℕ) → var v ∈ terms (the_question first) → v < places
      low sound =
          let passed = sym (question_alone_lem partners01 sheet_width (question_alone first)) ∙ sound in
          variables_in_range sheet_width first 0
          ((not3_iff sheet_width first).0 (question_unrefused partners01 sheet_width first passed).0).0 partners01
