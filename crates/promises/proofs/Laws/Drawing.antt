-- The number that drawing gives, and the answers that it draws.
use Rattle.std.specs.Prelude.{◌≡◌, refl, ◌↔◌, ℕ, ◌≤◌, ◌<◌, Bool, true, false, not, T, eqb, ltb, length}
use Rattle.std.proofs.Common.{sym, ap, ◌∙◌, inl, inr, arith}
use Rattle.std.proofs.Math.Logic.Iff
use Rattle.std.proofs.Math.Option.{Option, none, some, or_else}
use mathlib.Core.List.{List, [], ◌∷◌, ◌++◌, flat_map}
use Rattle.theory.specs.Lists.{◌∈◌, Unrepeated, pick, guard, all}
use Rattle.theory.specs.Refusals.{first_refusal, First, NoneHolds}
use Rattle.theory.specs.Syntax.{Member, Fact}
use Rattle.theory.specs.Qualified.{refuses18}
use Rattle.theory.specs.QualifiedChase.{SecondReaderAsWritten}
use Rattle.theory.specs.Evaluation.{found, insert_tuple, answers_of, Before}
use Rattle.theory.specs.Laws.Options.{T_and, none≢some, some_inj}
use Rattle.theory.specs.Laws.Lists.{flat_map_found, unrepeated_at}
use Rattle.theory.specs.Laws.Ascending.{inserted_mem}
use Rattle.theory.proofs.Laws.Matches.{found_length}
use Rattle.theory.proofs.Laws.Pigeonhole.{no_longer}
use Rattle.theory.proofs.Laws.Answers.{answers_iff, insert_tuple_inserts}
use Rattle.theory.proofs.Laws.Bounded.{found_bounded}
use Rattle.words.specs.Limits.{sheet_width, object_bound}
use Rattle.sheets.specs.Partners.{partners01}
use Rattle.sheets.specs.Refusals.{Sheets, drawing, refusals, tests_for, refusal_of, number_of, rule_refusals, fact_refusals}
use Rattle.sheets.specs.Refusals.{rule_roles, question_roles, fact_roles}
use Rattle.sheets.proofs.Laws.Tests.{eqb_tells, ltb_tells, lt_or_le}
use Rattle.sheets.proofs.Laws.OneList.{or_else_none, one_none, two_none, number_zero, unclashed_first, unclashed_none, clash_refusals}
use Rattle.sheets.proofs.Laws.OneList.{fact_clash}
use Rattle.sheets.proofs.Laws.OneList.{drawing_first, rules_and_facts_lem, checked, checked_accepted, refused_iff, passed_iff}
use Rattle.sheets.proofs.Laws.ObjectRange.{facts_in_range, constants_in_range}
use Rattle.promises.specs.TheSheets.{the_written_rules, the_question, the_union, the_facts, the_refusal, NotRefused, the_conditions}
use Rattle.promises.specs.TheSheets.{SoundFacts}
use Rattle.promises.specs.Checking.{sheets_of, AcceptedFor, SoundAndAccepted}
use Rattle.promises.proofs.Laws.CheckPromises.{accepted_sound, both_readers_agree}
use Rattle.promises.proofs.Laws.Checking.{numbered}
use Rattle.promises.proofs.Laws.Conditions.{with_last, none_with_last}

-- ---- one more refusal at the end of the list

-- a number other than 0 behind a list whose 0 says that none applies
pub zero_behind : (o : Option ℕ) (b : Bool) (n : ℕ) → 0 < n → ((number_of o ≡ 0) ↔ (o ≡ none)) → (number_of (or_else o (guard b n)) ≡ 0)
    ↔ (or_else o (guard b n) ≡ none)
unfolding number_of or_else
zero_behind (some m) b n l h = h
zero_behind none true n l h = (λ e. absurd (omega arith), λ e. absurd (none≢some (sym e)))
zero_behind none false n l h = (λ e. refl, λ e. refl)

pub both_none : (o : Option ℕ) (b : Bool) (n : ℕ) → (or_else o (guard b n) ≡ none) ↔ ((o ≡ none) × (¬ T b))
unfolding or_else
both_none (some m) b n = (λ e. absurd (none≢some (sym e)), λ h. h.0)
both_none none true n = (λ e. absurd (none≢some (sym e)), λ h. absurd (h.1 tt))
both_none none false n = (λ e. (refl, λ t. t), λ h. refl)

pub only_last : (o : Option ℕ) (b : Bool) (n : ℕ) → ¬ (o ≡ some n) → (or_else o (guard b n) ≡ some n) ↔ ((o ≡ none) × T b)
unfolding or_else
only_last (some m) b n h = (λ e. absurd (h e), λ k. absurd (none≢some (sym k.0)))
only_last none true n h = (λ e. (refl, tt), λ k. refl)
only_last none false n h = (λ e. absurd (none≢some e), λ k. absurd k.1)

-- no test has this number
pub no_such : (n : ℕ) (tests : List (ℕ × Bool)) → T (all (λ e. not (eqb e.0 n)) tests) → ¬ (first_refusal tests ≡ some n)
unfolding all first_refusal
no_such n [] h d = none≢some d
no_such n (e ∷ es) h d =
    let parts = (T_and (not (eqb e.0 n)) (all (λ e. not (eqb e.0 n)) es)).0 h in
    elim e.1 as (λ b. pick b (some e.0) (first_refusal es) ≡ some n → ⊥) [
      | true ↦ (λ k. (eqb_tells e.0 n).fail.0 parts.0 (some_inj k))
      | false ↦ no_such n es parts.1
    ] d

module _ (sheets : Sheets) (room needed : ℕ) where
  -- the list's, and then 14
  abbrev pub refusal : Option ℕ
  refusal = or_else (the_refusal drawing sheets) (guard (ltb room needed) 14)

  pub positive_iff : (n : ℕ) → 0 < n → (number_of refusal ≡ n) ↔ First (the_conditions drawing sheets ++ ((14, room < needed) ∷ [])) n
  positive_iff n l =
      Iff.trans (numbered refusal n l)
      (with_last (the_conditions drawing sheets) (the_refusal drawing sheets) (refused_iff partners01 sheet_width sheets drawing)
      (passed_iff partners01 sheet_width sheets drawing)
      14 (ltb room needed) (room < needed) (λ passed. (ltb_tells room needed).pass) n)

  pub zero_none : (number_of refusal ≡ 0) ↔ (refusal ≡ none)
  zero_none = zero_behind (the_refusal drawing sheets) (ltb room needed) 14 (omega arith)
      (number_zero partners01 sheet_width sheets drawing)

  pub none_iff : (number_of refusal ≡ 0) ↔ NoneHolds (the_conditions drawing sheets ++ ((14, room < needed) ∷ []))
  none_iff =
      Iff.trans zero_none
      (none_with_last (the_conditions drawing sheets) (the_refusal drawing sheets) (refused_iff partners01 sheet_width sheets drawing)
      (passed_iff partners01 sheet_width sheets drawing)
      14 (ltb room needed) (room < needed) (λ passed. (ltb_tells room needed).pass))

  pub fourteen_iff : (number_of refusal ≡ 14) ↔ (NotRefused drawing sheets × (room < needed))
  unfolding refusal_of refusals tests_for all
  fourteen_iff =
      let last = only_last (the_refusal drawing sheets) (ltb room needed) 14
      (no_such 14 (tests_for partners01 sheet_width drawing sheets (refusals partners01 sheet_width)) tt) in
      let c = (ltb_tells room needed).pass in
      Iff.trans (numbered refusal 14 (omega arith)) (Iff.trans last (λ k. (k.0, c.0 k.1), λ k. (k.0, c.1 k.1)))

-- ---- what is drawn

module _ (rules question union facts : List ℕ) where
  abbrev pub four : Sheets
  four = record { rules = rules; question = question; union = union; facts = facts }

  -- rules and facts alone
  abbrev two : Sheets
  two = record { rules = rules; question = []; union = []; facts = facts }

  -- drawing's refusals pass where checking's do and the facts are sound
  pub drawing_sound : NotRefused drawing four ↔ (AcceptedFor rules question union × SoundFacts rules facts)
  drawing_sound =
      let B = unclashed_first partners01 sheet_width four in
      let R = first_refusal (rule_refusals partners01 sheet_width rules) in
      let F = first_refusal (fact_refusals sheet_width facts) in
      let K = first_refusal (clash_refusals partners01 sheet_width four) in
      let J = first_refusal (fact_clash partners01 sheet_width four) in
      let C = first_refusal ((
        18,
        refuses18 (the_written_rules rules)
            (rule_roles partners01 sheet_width two),
      ) ∷ fact_clash partners01 sheet_width two) in
      let drawn = drawing_first partners01 sheet_width four in
      let sound = rules_and_facts_lem partners01 sheet_width two in
      let ok = checked partners01 sheet_width (sheets_of rules question union) in
      let both = two_none 18 18 (refuses18 (the_written_rules rules) (rule_roles partners01 sheet_width four))
      (refuses18 (the_written_rules rules) (question_roles partners01 sheet_width four)) in
      let fact = one_none 18 (refuses18 (the_written_rules rules) (fact_roles partners01 sheet_width four)) in
      let each = two_none 18 18 (refuses18 (the_written_rules rules) (rule_roles partners01 sheet_width two))
      (refuses18 (the_written_rules rules) (fact_roles partners01 sheet_width two)) in (
        λ e. let (before, later) = (or_else_none B (or_else F (or_else K J))).0 (sym drawn ∙ e) in
            let (read, clashes) = (or_else_none F (or_else K J)).0 later in
            let (clash, last) = (or_else_none K J).0 clashes in (
              ok.1 (before, clash),
              sound ∙ (or_else_none R (or_else F C)).1 (
                ((unclashed_none partners01 sheet_width four).0 before).0,
                (or_else_none F C).1 (read, each.1 ((both.0 clash).0, fact.0 last)),
              ),
            ),
        λ w. let (before, clash) = ok.0 w.0 in
            let (read, last) = (or_else_none F C).0 ((or_else_none R (or_else F C)).0 (sym sound ∙ w.1)).1 in
            drawn ∙ (or_else_none B (or_else F (or_else K J))).1
            (before, (or_else_none F (or_else K J)).1 (read, (or_else_none K J).1 (clash, fact.1 (each.0 last).1))),
      )

  -- in the words of demand 2, and of 01 for the facts
  pub all_sound : NotRefused drawing four ↔ (SoundAndAccepted rules question union × SoundFacts rules facts)
  all_sound =
      let s = accepted_sound rules question union in
      Iff.trans drawing_sound (λ k. (s.0 k.0, k.1), λ k. (s.1 k.0, k.1))

  pub zero_sound : (room needed : ℕ) → (number_of (refusal four room needed) ≡ 0)
      ↔ (SoundAndAccepted rules question union × SoundFacts rules facts × (needed ≤ room))
  zero_sound room needed =
      let b = both_none (the_refusal drawing four) (ltb room needed) 14 in
      let c = (ltb_tells room needed).pass in
      Iff.trans (zero_none four room needed) (
        λ e. let k = b.0 e in let d = all_sound.0 k.0 in (d.0, d.1, not_less k.1),
        λ k. b.1 (all_sound.1 (k.0, k.1), λ t. (let l = c.0 t in let m = k.2 in omega arith)),
      )
    where
      not_less : ¬ T (ltb room needed) → needed ≤ room
      not_less h = elim (lt_or_le room needed) [ inl l ↦ absurd (h ((ltb_tells room needed).pass.1 l)) | inr l ↦ l ]

  pub fourteen_sound : (room needed : ℕ) → (number_of (refusal four room needed) ≡ 14)
      ↔ (SoundAndAccepted rules question union × SoundFacts rules facts × (room < needed))
  fourteen_sound room needed =
      Iff.trans (fourteen_iff four room needed) (
        λ k. let d = all_sound.0 k.0 in
            (d.0, d.1, k.1),
        λ k. (all_sound.1 (k.0, k.1), k.2),
      )

  module _ (accepted : AcceptedFor rules question union) where
    -- every answer has objects that 16 bits hold, and as many as the question has answer terms
    pub answers_known : (t : List ℕ) → t ∈ answers_of (the_facts facts) (the_union union)
        → ((o : ℕ) → o ∈ t → o < object_bound) × (length t ≡ length (the_question question).answers)
    unfolding answers_of
    answers_known t m =
        let F : List Fact = the_facts facts in
        let find : Member → List (List ℕ) = λ n. found F n.query in
        let sound = (checked_accepted partners01 sheet_width (sheets_of rules question union) accepted).0 in
        let drawn-by = inserted_mem Before insert_tuple insert_tuple_inserts (flat_map find (the_union union)) m in
        let (n, k, f) = flat_map_found find (the_union union) drawn-by in (
          found_bounded object_bound F n.query (facts_in_range partners01 facts) (constants_in_range partners01 union n k) t f,
          found_length F n.query t f ∙ (sound n k).arity_is,
        )

    -- the answers are the second reader's
    pub answers_second : SoundFacts rules facts → (t : List ℕ) → (t ∈ answers_of (the_facts facts) (the_union union))
        ↔ SecondReaderAsWritten (the_written_rules rules) (the_question question) (the_facts facts) t
    answers_second sound t =
        let ok = checked_accepted partners01 sheet_width (sheets_of rules question union) accepted in
        Iff.trans (answers_iff (the_facts facts) (the_union union) (λ n k. (ok.0 n k).safe) t)
        (both_readers_agree rules question union accepted facts sound t)

-- ---- how many

-- a list without repeats is no longer than one that has all its elements
no_more_than : {X : Type 0} (xs ys : List X) → Unrepeated xs → ((x : X) → x ∈ xs → x ∈ ys) → length xs ≤ length ys
no_more_than xs ys u h =
    no_longer (λ x y. x ≡ y) xs ys (λ x m. (x, h x m, refl))
    (λ i j x z y l a b d e. (let same = unrepeated_at xs u i j (a ∙ ap some (d ∙ sym e)) b in omega arith))

pub same_count : {X : Type 0} (xs ys : List X) → Unrepeated xs → Unrepeated ys → ((x : X) → (x ∈ xs) ↔ (x ∈ ys)) → length xs ≡ length ys
same_count xs ys u v h =
    let a : length xs ≤ length ys = no_more_than xs ys u (λ x. (h x).0) in
    let b : length ys ≤ length xs = no_more_than ys xs v (λ x. (h x).1) in
    omega arith
