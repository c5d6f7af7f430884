-- What is promised of writing (02, T-02), and what the pledge rests on.
use Rattle.std.specs.Prelude.{◌≡◌, ◌⊎◌, ◌↔◌, ◌≢◌, Bool, true, false, T, ltb}
use Rattle.std.proofs.Math.Path.{refl, ap}
use Rattle.std.proofs.Common.{sym, ◌∙◌, subst, inl, inr, arith}
use Rattle.std.proofs.Math.Logic.Iff
use Prim.Native.Nat.{ℕ, ◌-◌, ◌≤◌, ◌<◌, zero-le}
use Rattle.std.proofs.Math.Option.{Option, none, some, or_else}
use mathlib.Core.List.{List, [], ◌∷◌, ◌++◌, append_assoc}
use Rattle.std.proofs.Math.ListN.{length, take, drop, replicate, length-append}
use Rattle.std.proofs.Math.Seq.{take-append_seam, drop-append_seam}
use Rattle.theory.specs.Lists.{◌∈◌, all, guard}
use Rattle.theory.specs.Refusals.{first_refusal, First, NoneHolds}
use Rattle.theory.specs.Chase.{FirstReader}
use Rattle.theory.specs.QualifiedChase.{SecondReaderAsWritten}
use Rattle.theory.specs.Syntax.{Member}
use Rattle.theory.specs.Union.{Accepted, SoundQuery, SoundUnion}
use Rattle.theory.specs.Laws.Options.{some_inj, none≢some}
use Rattle.theory.specs.Laws.WritingGrows.{AlikeIn}
use Rattle.theory.proofs.Laws.Writing.{each_in_other, equally_many, written_accepted, more_than_iff}
use Rattle.words.specs.Limits.{sheet_width, most_members, most_union_bytes}
use Rattle.sheets.specs.Format.{term_count}
use Rattle.sheets.specs.Partners.{partners01}
use Rattle.sheets.specs.Packing.{pack_union, union_sheet, All, RulesInRange, QueryInRange}
use Rattle.sheets.specs.Refusals.{writing, refusals, tests_for, refusal_of, number_of, rule_refusals, question_refusals}
use Rattle.sheets.specs.Tests.{refuses6, refuses17}
use Rattle.sheets.proofs.Laws.Tests.{ltb_tells, lt_or_le}
use Rattle.sheets.proofs.Laws.PartnerLaws.{partners01_involutive}
use Rattle.sheets.proofs.Laws.QuestionRefusals.{question_arity}
use Rattle.sheets.proofs.Laws.OneList.{
  or_else_none,
  one_none,
  number_zero,
  writing_first,
  question_and_union_lem,
  union_refusals,
  clash_refusals,
}
use Rattle.sheets.proofs.Laws.OneList.{checked_accepted, refused_iff, passed_iff}
use Rattle.sheets.proofs.Laws.PackingSheets.{whole_sheet}
use Rattle.sheets.proofs.Laws.StepsInRange.{RuleStands, AtomStands, question_read_in, question_read_stands, question_unrefused}
use Rattle.sheets.proofs.Laws.StepsInRange.{sound_question}
use Rattle.sheets.proofs.Laws.RulesInRange.{rules_read_in, rules_read_stand, helpers_settled, rules_unrefused}
use Rattle.sheets.proofs.Laws.WrittenUnion.{written_in_range, packed_union_length, written_reads, written_passes6}
use Rattle.promises.specs.TheSheets.{the_written_rules, the_rules, the_question, the_union, the_facts, the_refusal, the_conditions}
use Rattle.promises.specs.TheSheets.{SoundFacts}
use Rattle.promises.specs.Checking.{sheets_of, check_number, AcceptedFor, SoundAndAccepted}
use Rattle.promises.specs.Drawing.{bytes_needed, terms_of, Registered, Listed, Drawn}
use Rattle.promises.specs.Writing.{WriteOutcome, write_outcome_by, two_sheets, SoundToWrite, the_written, TooMany, union_bytes}
use Rattle.promises.specs.Writing.{refusal_to_write, write_conditions, write_outcome, UnionWritten}
use Rattle.promises.proofs.Laws.Checking.{numbered}
use Rattle.promises.proofs.Laws.CheckPromises.{zero_accepts, zero_means, both_readers_agree}
use Rattle.promises.proofs.Laws.Conditions.{with_last, none_with_last}
use Rattle.promises.proofs.Laws.Drawing.{zero_behind, both_none, only_last, no_such}

-- ---- sound sheets

module _ (rules question : List ℕ) (sound : SoundToWrite rules question) where
  each_sound : (first_refusal (rule_refusals partners01 sheet_width rules) ≡ none)
      × (first_refusal (question_refusals partners01 sheet_width question) ≡ none)
  each_sound =
      let R = first_refusal (rule_refusals partners01 sheet_width rules) in
      let Q = first_refusal (question_refusals partners01 sheet_width question) in
      let K = first_refusal (clash_refusals partners01 sheet_width (two_sheets rules question)) in
      let (r, later) = (or_else_none R (or_else Q K)).0 (sym (writing_first partners01 sheet_width (two_sheets rules question)) ∙ sound) in
      (r, ((or_else_none Q K).0 later).0)

  not17 : ¬ T (refuses17 partners01 sheet_width rules)
  not17 = (rules_unrefused partners01 sheet_width rules each_sound.0).2

  question_is_sound : SoundQuery (terms_of question) (the_question question)
  question_is_sound =
      let n = question_unrefused partners01 sheet_width question each_sound.1 in sound_question (the_question question) n.1 n.2

  rules_in_range : RulesInRange (the_rules rules)
  rules_in_range = rules_read_in partners01 sheet_width rules not17

  question_in : QueryInRange sheet_width (the_question question)
  question_in = question_read_in partners01 sheet_width question (question_unrefused partners01 sheet_width question each_sound.1).0

  rules_stand : All (RuleStands partners01) (the_rules rules)
  unfolding partners01
  rules_stand =
      rules_read_stand partners01 partners01_involutive sheet_width rules
      (helpers_settled partners01 (omega arith) sheet_width rules not17)

  question_stands : All (AtomStands partners01) (the_question question).atoms
  question_stands = question_read_stands partners01 partners01_involutive sheet_width question

  -- 15's test decides its condition
  pub too_many_iff : T (ltb most_members (length (the_written rules question))) ↔ TooMany rules question
  too_many_iff =
      Iff.trans (ltb_tells most_members (length (the_written rules question))).pass
      (more_than_iff (the_rules rules) (the_question question) most_members question_is_sound.distinct)

  module _ (few : length (the_written rules question) ≤ most_members) where
    abbrev packed : List ℕ
    packed = pack_union sheet_width (the_written rules question)

    -- "its sheet reads as it"
    pub packed_reads : the_union packed ≡ the_written rules question
    packed_reads =
        written_reads partners01 sheet_width (the_rules rules) (the_question question) rules_in_range rules_stand question_in
        question_stands
        question_is_sound whole_sheet few

    packed_passes6 : ¬ T (refuses6 partners01 sheet_width (term_count question 0) packed)
    packed_passes6 =
        subst (λ arity. ¬ T (refuses6 partners01 sheet_width arity packed)) (question_arity partners01 sheet_width question)
        (written_passes6 partners01 sheet_width (the_rules rules)
        (the_question question) rules_in_range rules_stand question_in question_stands
        question_is_sound whole_sheet few)

    -- the longest has 33,282 bytes
    pub packed_length : length packed ≤ most_union_bytes sheet_width
    packed_length =
        packed_union_length (the_written rules question)
        (written_in_range partners01 sheet_width (the_rules rules)
        (the_question question) rules_in_range rules_stand question_in question_stands
        question_is_sound few)

    -- "The written union is one the desk accepts."
    pub packed_accepted : SoundAndAccepted rules question packed
    packed_accepted = (
      writing_first partners01 sheet_width (sheets_of rules question packed)
          ∙ sym (writing_first partners01 sheet_width (two_sheets rules question)) ∙ sound,
      question_and_union_lem partners01 sheet_width (sheets_of rules question packed)
          ∙ (or_else_none (first_refusal (question_refusals partners01 sheet_width question))
          (first_refusal (union_refusals partners01 sheet_width (sheets_of rules question packed)))).1
          (each_sound.1, (one_none 6 (refuses6 partners01 sheet_width (term_count question 0) packed)).1 packed_passes6),
      subst (Accepted (the_rules rules) (the_question question)) (sym packed_reads)
          (written_accepted (the_rules rules) (the_question question) most_members few),
    )

pub longest_union : (rules question : List ℕ) → SoundToWrite rules question → ¬ TooMany rules question
    → union_bytes rules question ≤ most_union_bytes sheet_width
longest_union rules question sound f =
    elim (lt_or_le most_members (length (the_written rules question))) [
      | inl l ↦ absurd (f ((too_many_iff rules question sound).0 ((ltb_tells most_members (length (the_written rules question))).pass.1 l)))
      | inr l ↦ packed_length rules question sound l
    ]

-- ---- the number

-- two more refusals behind a list
two_behind_zero : (o : Option ℕ) (b c : Bool) → ((number_of o ≡ 0) ↔ (o ≡ none))
    → (number_of (or_else (or_else o (guard b 15)) (guard c 16)) ≡ 0) ↔ ((o ≡ none) × (¬ T b) × (¬ T c))
two_behind_zero o b c h =
    Iff.trans (zero_behind (or_else o (guard b 15)) c 16 (omega arith) (zero_behind o b 15 (omega arith) h)) (
      λ e. let x = (both_none (or_else o (guard b 15)) c 16).0 e in let y = (both_none o b 15).0 x.0 in (y.0, y.1, x.1),
      λ w. (both_none (or_else o (guard b 15)) c 16).1 ((both_none o b 15).1 (w.0, w.1), w.2),
    )

two_behind_first : (o : Option ℕ) (b c : Bool) → ¬ (o ≡ some 15)
    → (or_else (or_else o (guard b 15)) (guard c 16) ≡ some 15) ↔ ((o ≡ none) × T b)
unfolding or_else
two_behind_first (some n) b c h = (λ e. absurd (h e), λ w. absurd (none≢some (sym w.0)))
two_behind_first none true c h = (λ e. (refl, tt), λ w. refl)
two_behind_first none false true h = (λ e. absurd (let z : ◌≡◌ {A = ℕ} 16 15 = some_inj e in omega arith), λ w. absurd w.1)
two_behind_first none false false h = (λ e. absurd (none≢some e), λ w. absurd w.1)

no_sixteen : (o : Option ℕ) (b : Bool) → ¬ (o ≡ some 16) → ¬ (or_else o (guard b 15) ≡ some 16)
unfolding or_else
no_sixteen (some n) b h e = h e
no_sixteen none true h e = let z : ◌≡◌ {A = ℕ} 15 16 = some_inj e in omega arith
no_sixteen none false h e = none≢some e

two_behind_last : (o : Option ℕ) (b c : Bool) → ¬ (o ≡ some 16)
    → (or_else (or_else o (guard b 15)) (guard c 16) ≡ some 16) ↔ ((o ≡ none) × (¬ T b) × T c)
two_behind_last o b c h =
    Iff.trans (only_last (or_else o (guard b 15)) c 16 (no_sixteen o b h)) (
      λ w. let y = (both_none o b 15).0 w.0 in (y.0, y.1, w.1),
      λ w. ((both_none o b 15).1 (w.0, w.1), w.2),
    )

module _ (rules question : List ℕ) (room : ℕ) where
  abbrev too_many : Bool
  too_many = ltb most_members (length (the_written rules question))

  abbrev short : Bool
  short = ltb room (union_bytes rules question)

  abbrev refusal : Option ℕ
  refusal = refusal_to_write rules question room

  -- the sheets' own numbers are others
  not_fifteen : ¬ (the_refusal writing (two_sheets rules question) ≡ some 15)
  unfolding refusal_of refusals tests_for all
  not_fifteen = no_such 15 (tests_for partners01 sheet_width writing (two_sheets rules question) (refusals partners01 sheet_width)) tt

  not_sixteen : ¬ (the_refusal writing (two_sheets rules question) ≡ some 16)
  unfolding refusal_of refusals tests_for all
  not_sixteen = no_such 16 (tests_for partners01 sheet_width writing (two_sheets rules question) (refusals partners01 sheet_width)) tt

  fits : (¬ T short) ↔ (union_bytes rules question ≤ room)
  fits = (
    λ f. elim (lt_or_le room (union_bytes rules question)) [
      | inl l ↦ absurd (f ((ltb_tells room (union_bytes rules question)).pass.1 l))
      | inr l ↦ l
    ],
    λ l t. let k = (ltb_tells room (union_bytes rules question)).pass.0 t in omega arith,
  )

  zero_iff : (number_of refusal ≡ 0) ↔ (SoundToWrite rules question × (¬ TooMany rules question) × (union_bytes rules question ≤ room))
  zero_iff =
      Iff.trans
      (two_behind_zero (the_refusal writing (two_sheets rules question)) too_many short
      (number_zero partners01 sheet_width (two_sheets rules question) writing)) (
        λ w. (w.0, λ m. w.1 ((too_many_iff rules question w.0).1 m), fits.0 w.2),
        λ w. (w.0, λ t. w.1 ((too_many_iff rules question w.0).0 t), fits.1 w.2),
      )

  fifteen_iff : (number_of refusal ≡ 15) ↔ (SoundToWrite rules question × TooMany rules question)
  fifteen_iff =
      Iff.trans (numbered refusal 15 (omega arith))
      (Iff.trans (two_behind_first (the_refusal writing (two_sheets rules question)) too_many short not_fifteen) (
        λ w. (w.0, (too_many_iff rules question w.0).0 w.1),
        λ w. (w.0, (too_many_iff rules question w.0).1 w.1),
      ))

  sixteen_iff : (number_of refusal ≡ 16)
      ↔ (SoundToWrite rules question × (¬ TooMany rules question) × (room < union_bytes rules question))
  sixteen_iff =
      let c = (ltb_tells room (union_bytes rules question)).pass in
      Iff.trans (numbered refusal 16 (omega arith))
      (Iff.trans (two_behind_last (the_refusal writing (two_sheets rules question)) too_many short not_sixteen) (
        λ w. (w.0, λ m. w.1 ((too_many_iff rules question w.0).1 m), c.0 w.2),
        λ w. (w.0, λ t. w.1 ((too_many_iff rules question w.0).0 t), c.1 w.2),
      ))

  -- ---- the outcome

  abbrev outcome : WriteOutcome
  outcome = write_outcome rules question room

  -- the number is that of the refusal
  number_along : outcome.number ≡ number_of refusal
  unfolding write_outcome number_of
  number_along = by_cases refusal
    where
      by_cases : (o : Option ℕ) → (write_outcome_by room (the_written rules question) o).number ≡ number_of o
      by_cases none = refl
      by_cases (some n) = refl

  along : (n : ℕ) → (outcome.number ≡ n) ↔ (number_of refusal ≡ n)
  along n = (λ e. sym number_along ∙ e, λ e. number_along ∙ e)

  -- a call that is refused: "zeros in all that was lent for writing"
  refused_means : outcome.number ≢ 0 → (outcome.count ≡ 0) × (outcome.size ≡ 0) × (outcome.sheet ≡ replicate room 0)
  unfolding write_outcome
  refused_means h = by_cases refusal h
    where
      by_cases : (o : Option ℕ) → (write_outcome_by room (the_written rules question) o).number ≢ 0
          → ((write_outcome_by room (the_written rules question) o).count ≡ 0)
          × ((write_outcome_by room (the_written rules question) o).size ≡ 0)
          × ((write_outcome_by room (the_written rules question) o).sheet ≡ replicate room 0)
      by_cases none h = absurd (h refl)
      by_cases (some n) h = (refl, refl, refl)

  -- a call that is not
  module _ (zero : outcome.number ≡ 0) where
    is_written : outcome ≡ write_outcome_by room (the_written rules question) none
    unfolding write_outcome
    is_written =
        ap (write_outcome_by room (the_written rules question))
        ((zero_behind (or_else (the_refusal writing (two_sheets rules question)) (guard too_many 15)) short 16 (omega arith)
        (zero_behind (the_refusal writing (two_sheets rules question)) too_many 15 (omega arith)
        (number_zero partners01 sheet_width (two_sheets rules question) writing))).0 ((along 0).0 zero))

    few : length (the_written rules question) ≤ most_members
    few =
        let w = zero_iff.0 ((along 0).0 zero) in
        elim (lt_or_le most_members (length (the_written rules question))) [
          | inl l ↦ absurd (w.1 ((too_many_iff rules question w.0).0
              ((ltb_tells most_members (length (the_written rules question))).pass.1 l)))
          | inr l ↦ l
        ]

    sound : SoundToWrite rules question
    sound = (zero_iff.0 ((along 0).0 zero)).0

    -- the bytes written are the union's packing
    pub written_bytes : take outcome.size outcome.sheet ≡ pack_union sheet_width (the_written rules question)
    unfolding union_sheet
    written_bytes =
        ap (λ (o : WriteOutcome). take o.size o.sheet) is_written
        ∙ take-append_seam (pack_union sheet_width (the_written rules question)) (replicate (room - union_bytes rules question) 0)

    rest_zero : drop outcome.size outcome.sheet ≡ replicate (room - outcome.size) 0
    unfolding union_sheet
    rest_zero =
        ap (λ (o : WriteOutcome). drop o.size o.sheet) is_written
        ∙ drop-append_seam (pack_union sheet_width (the_written rules question)) (replicate (room - union_bytes rules question) 0)
        ∙ ap (λ (o : WriteOutcome). replicate (room - o.size) 0) (sym is_written)

    written_accepted_bytes : SoundAndAccepted rules question (take outcome.size outcome.sheet)
    written_accepted_bytes = subst (SoundAndAccepted rules question) (sym written_bytes) (packed_accepted rules question sound few)

    written_read : the_union (take outcome.size outcome.sheet) ≡ the_written rules question
    written_read = ap the_union written_bytes ∙ packed_reads rules question sound few

    written_count : outcome.count ≡ length (the_union (take outcome.size outcome.sheet))
    written_count = ap (λ (o : WriteOutcome). o.count) is_written ∙ ap length (sym written_read)

  -- the union lies within the sheet
  outcome_within : outcome.size ≤ length outcome.sheet
  unfolding write_outcome union_sheet
  outcome_within = by_cases refusal
    where
      by_cases : (o : Option ℕ) → (write_outcome_by room (the_written rules question) o).size
          ≤ length (write_outcome_by room (the_written rules question) o).sheet
      by_cases (some n) = zero-le
      by_cases none =
          let packed : List ℕ = pack_union sheet_width (the_written rules question) in
          omega (arith, length-append packed (replicate (room - union_bytes rules question) 0))

  -- THE PLEDGE holds of the outcome, and of nothing else
  pub pledge : UnionWritten rules question room outcome.number outcome.count outcome.size outcome.sheet
  pledge = record {
    number_is = refl;
    count_is = refl;
    size_is = refl;
    sheet_is = refl;
    zero = Iff.trans (along 0) zero_iff;
    fifteen = Iff.trans (along 15) fifteen_iff;
    sixteen = Iff.trans (along 16) sixteen_iff;
    accepted = written_accepted_bytes;
    reads = λ z. (written_read z, written_count z);
    rest = rest_zero;
    refused = refused_means;
  }

  -- ---- in the papers' words

  -- "The first entry whose condition holds decides, for the earlier ones not holding": 0 where none holds, and any other number is that of
  -- the first that holds, each condition in the papers' words.
  conditions_are : (the_conditions writing (two_sheets rules question) ++ ((15, TooMany rules question) ∷ []))
      ++ ((16, room < union_bytes rules question) ∷ []) ≡ write_conditions rules question room
  conditions_are =
      append_assoc (the_conditions writing (two_sheets rules question)) ((15, TooMany rules question) ∷ [])
      ((16, room < union_bytes rules question) ∷ [])

  refused_then : (n : ℕ) → (or_else (the_refusal writing (two_sheets rules question)) (guard too_many 15) ≡ some n)
      ↔ First (the_conditions writing (two_sheets rules question) ++ ((15, TooMany rules question) ∷ [])) n
  refused_then =
      with_last (the_conditions writing (two_sheets rules question)) (the_refusal writing (two_sheets rules question))
      (refused_iff partners01 sheet_width (two_sheets rules question) writing)
      (passed_iff partners01 sheet_width (two_sheets rules question) writing)
      15 too_many (TooMany rules question) (too_many_iff rules question)

  passed_then : (or_else (the_refusal writing (two_sheets rules question)) (guard too_many 15) ≡ none)
      ↔ NoneHolds (the_conditions writing (two_sheets rules question) ++ ((15, TooMany rules question) ∷ []))
  passed_then =
      none_with_last (the_conditions writing (two_sheets rules question)) (the_refusal writing (two_sheets rules question))
      (refused_iff partners01 sheet_width (two_sheets rules question) writing)
      (passed_iff partners01 sheet_width (two_sheets rules question) writing)
      15 too_many (TooMany rules question) (too_many_iff rules question)

  pub number_means : (n : ℕ) → 0 < n → (outcome.number ≡ n) ↔ First (write_conditions rules question room) n
  number_means n positive =
      subst (λ (cs : List {1} (ℕ × Type 0)). (outcome.number ≡ n) ↔ First cs n) conditions_are
      (Iff.trans (along n) (Iff.trans (numbered refusal n positive)
      (with_last (the_conditions writing (two_sheets rules question) ++ ((15, TooMany rules question) ∷ []))
      (or_else (the_refusal writing (two_sheets rules question)) (guard too_many 15)) refused_then passed_then
      16 short (room < union_bytes rules question) (λ passed. (ltb_tells room (union_bytes rules question)).pass) n)))

  pub none_means : (outcome.number ≡ 0) ↔ NoneHolds (write_conditions rules question room)
  none_means =
      subst (λ (cs : List {1} (ℕ × Type 0)). (outcome.number ≡ 0) ↔ NoneHolds cs) conditions_are
      (Iff.trans (along 0)
      (Iff.trans (zero_behind (or_else (the_refusal writing (two_sheets rules question)) (guard too_many 15)) short 16 (omega arith)
      (zero_behind (the_refusal writing (two_sheets rules question)) too_many 15 (omega arith)
      (number_zero partners01 sheet_width (two_sheets rules question) writing)))
      (none_with_last (the_conditions writing (two_sheets rules question) ++ ((15, TooMany rules question) ∷ []))
      (or_else (the_refusal writing (two_sheets rules question)) (guard too_many 15)) refused_then passed_then
      16 short (room < union_bytes rules question) (λ passed. (ltb_tells room (union_bytes rules question)).pass))))

-- ---- with checking and drawing

module _ (rules question : List ℕ) (room number count size : ℕ) (sheet : List ℕ)
    (written : UnionWritten rules question room number count size sheet) where
  -- where none of the sheets' own holds: 15 exactly where there are more than 512, and 0 or 16 exactly where there are not
  pub at_most_512 : SoundToWrite rules question → ((number ≡ 0) ⊎ (number ≡ 16)) ↔ (¬ TooMany rules question)
  at_most_512 sound = (
    elim [ inl e ↦ (written.zero.0 e).1 | inr e ↦ (written.sixteen.0 e).1 ],
    λ f. elim (lt_or_le room (union_bytes rules question)) [
      | inl l ↦ inr (written.sixteen.1 (sound, f, l))
      | inr l ↦ inl (written.zero.1 (sound, f, l))
    ],
  )

  pub more_than_512 : SoundToWrite rules question → (number ≡ 15) ↔ TooMany rules question
  more_than_512 sound = (λ e. (written.fifteen.0 e).1, λ m. written.fifteen.1 (sound, m))

  -- the union lies within the sheet
  pub size_within : size ≤ length sheet
  size_within = rw (written.size_is, written.sheet_is) (outcome_within rules question room)

  module _ (zero : number ≡ 0) where
    -- the union as the caller hands it on
    abbrev pub union : List ℕ
    union = take size sheet

    -- "`check` of it is 0"
    pub check_gives_0 : check_number rules question union ≡ 0
    check_gives_0 = (zero_means rules question union).1 (written.accepted zero)

    -- Demand 3 of the union written: whoever has it and the facts alone finds what the second reader finds.
    pub written_readers_agree : (facts : List ℕ) → SoundFacts rules facts → (tuple : List ℕ)
        → FirstReader (the_union union) (the_facts facts) tuple
        ↔ SecondReaderAsWritten (the_written_rules rules) (the_question question) (the_facts facts) tuple
    written_readers_agree = both_readers_agree rules question union ((zero_accepts rules question union).0 check_gives_0)

    -- Whatever union others made for the same rules and question, if it is accepted it has as many members, each alike to one of ours.
    module _ (other : List ℕ) (accepted : AcceptedFor rules question other) where
      theirs : SoundUnion (the_question question) (the_union other) × Accepted (the_rules rules) (the_question question) (the_union other)
      theirs = checked_accepted partners01 sheet_width (sheets_of rules question other) accepted

      ours : SoundUnion (the_question question) (the_union union) × Accepted (the_rules rules) (the_question question) (the_union union)
      ours = checked_accepted partners01 sheet_width (sheets_of rules question union) ((zero_accepts rules question union).0 check_gives_0)

      pub as_many_members : length (the_union other) ≡ count
      as_many_members =
          equally_many (the_rules rules) (the_question question) (the_union other) (the_union union) theirs.1 ours.1
          (λ m n. (theirs.0 m n).distinct) (λ m n. (ours.0 m n).distinct)
          ∙ sym (written.reads zero).1

      pub each_alike_to_ours : (m : Member) → m ∈ the_union other → AlikeIn m.query (the_union union)
      each_alike_to_ours =
          each_in_other (the_rules rules) (the_question question) (the_union other) (the_union union) theirs.1 ours.1
          (λ m n. (theirs.0 m n).distinct) (λ m n. (ours.0 m n).distinct)

    -- Drawing with it: never refused for anything but the length of the list, and then the list has exactly what the second reader finds.
    module _ (facts : List ℕ) (sound : SoundFacts rules facts) (list-room : ℕ) (drawn-number drawn-count : ℕ) (list : List ℕ)
        (drawn : Drawn rules question union facts list-room drawn-number drawn-count list) where
      pub drawn_with_written : bytes_needed question union facts ≤ list-room
          → (drawn-number ≡ 0)
          × ((tuple : List ℕ) → Registered tuple
          → Listed list drawn-count (terms_of question) tuple
          ↔ SecondReaderAsWritten (the_written_rules rules) (the_question question) (the_facts facts) tuple)
      drawn_with_written fits =
          let z = drawn.zero.1 (written.accepted zero, sound, fits) in (z, drawn.readers z)

      pub drawn_too_short : list-room < bytes_needed question union facts → drawn-number ≡ 14
      drawn_too_short l = drawn.short.1 (written.accepted zero, sound, l)
