-- What is promised of explaining (02, T-06), and what the pledge rests on: it follows from what is told of sheets that were read (Telling).
use Rattle.std.specs.Prelude.{◌≡◌, refl, ◌⊎◌, ◌↔◌, ℕ, ◌*◌, ◌-◌, ◌≤◌, ◌<◌, List, [], ◌∷◌, T, eqb, length, take, drop}
use Rattle.std.proofs.Common.{sym, ap, ap₂, ◌∙◌, subst, inl, inr, arith, append-nil}
use Rattle.std.proofs.Math.Logic.Iff
use Rattle.std.proofs.Math.Decide.{ℕ_discrete}
use Rattle.std.proofs.Math.Option.{some}
use mathlib.Core.List.Memᴰ
use Rattle.theory.specs.Lists.{◌∈◌, At, any, all, pairwise}
use Rattle.theory.specs.Refusals.{number_of, First, NoneHolds, DecidedBy}
use Rattle.theory.specs.Syntax.{Member}
use Rattle.theory.specs.Explaining.{ExplainedStep, Lowest, WayBack}
use Rattle.theory.specs.Laws.Options.{T_eqb, either}
use Rattle.theory.specs.Laws.Lists.{any_same, pairwise_iff, at_mem, at_lt, at_or_past}
use Rattle.theory.proofs.Laws.Answers.{answers_iff}
use Rattle.theory.specs.Laws.Explaining.{Behind}
use Rattle.theory.proofs.Laws.Explaining.{way_behind, behind_unique, way_short, explains_unique}
use Rattle.theory.proofs.Laws.Explaining.{way_exists, replays}
use Rattle.theory.proofs.Laws.NamedRules.{suffice, suffices_found}
use Rattle.words.specs.Limits.{sheet_width, most_members, place_size}
use Rattle.sheets.specs.AnswerList.{tuple_size, tuple_bytes, list_bytes}
use Rattle.sheets.specs.StepList.{step_list}
use Rattle.sheets.specs.Format.{term_count}
use Rattle.sheets.specs.Partners.{partners01}
use Rattle.sheets.specs.Reading.{rules_as_read}
use Rattle.sheets.specs.Refusals.{Sheets, drawing, refusals, tests_for, refusal_of}
use Rattle.sheets.specs.Tests.{refuses6}
use Rattle.sheets.proofs.Laws.OneList.{one_none, number_zero, unclashed_none, checked, checked_accepted, refused_iff, passed_iff}
use Rattle.sheets.proofs.Laws.UnionRefusals.{members_few}
use Rattle.sheets.proofs.Laws.StepsInRange.{members_read_in, yield_in_range, variables_low}
use Rattle.sheets.proofs.Laws.RulesInRange.{rules_read_in, rules_unrefused}
use Rattle.promises.specs.TheSheets.{the_written_rules, the_rules, the_question, the_union, the_facts, the_refusal, NotRefused}
use Rattle.promises.specs.TheSheets.{the_conditions, SoundFacts}
use Rattle.promises.specs.Checking.{sheets_of, AcceptedFor, SoundAndAccepted}
use Rattle.promises.specs.Drawing.{the_answers, terms_of, Drawn}
use Rattle.promises.specs.Explaining.{four_sheets, the_tuple, ExplainsTuple, Meets19, Meets20, explain_conditions}
use Rattle.promises.specs.Explaining.{StepsBehind, Explained}
use Rattle.promises.specs.Report.{objects_at}
use Rattle.promises.proofs.Laws.Conditions.{first_both, none_both, decides_one, decides_behind}
use Rattle.promises.proofs.Laws.Apart.{sheets_apart}
use Rattle.promises.proofs.Laws.CheckPromises.{accepted_sound, accepted_as_read}
use Rattle.promises.proofs.Laws.AnswerBytes.{length_tuple, part_of}
use Rattle.promises.proofs.Laws.Drawing.{no_such, drawing_sound, all_sound, answers_known}
use Rattle.promises.proofs.Laws.DrawPromises.{count_means, list_means}
use Rattle.promises.proofs.Laws.Printing.{objects_again}
use Rattle.promises.specs.Laws.Telling.{TooShort, TellsBehind}

-- ---- the way back from each member

module _ (rules question union : List ℕ) (accepted : AcceptedFor rules question union) where
  abbrev three : Sheets
  three = sheets_of rules question union

  -- the union does not meet 6
  not6 : ¬ T (refuses6 partners01 sheet_width (term_count question 0) union)
  not6 =
      (one_none 6 (refuses6 partners01 sheet_width (term_count question 0) union)).0
      ((unclashed_none partners01 sheet_width three).0 ((checked partners01 sheet_width three).0 accepted).0).2

  -- every member of an accepted union has a list of steps back to member 0
  pub steps_exist : (k : ℕ) (m : Member) → At (the_union union) k m
      → (steps : List ExplainedStep) × WayBack (the_rules rules) (the_union union) k steps
  steps_exist =
      let read = ((unclashed_none partners01 sheet_width three).0 ((checked partners01 sheet_width three).0 accepted).0).0 in
      let rules_in_range = rules_read_in partners01 sheet_width rules (rules_unrefused partners01 sheet_width rules read).2 in
      let members_in = members_read_in partners01 sheet_width (term_count question 0) union not6 in
      way_exists (the_rules rules) (the_question question) (the_union union) (checked_accepted partners01 sheet_width three accepted).1
      (λ k m r at y. variables_low sheet_width r
      (yield_in_range sheet_width (the_rules rules) (the_union union) rules_in_range members_in k m.step r y))

  -- so 20 is told by the written parents alone
  too_short_iff : (facts tuple : List ℕ) (room : ℕ)
      → TooShort (the_rules rules) (the_facts facts) (the_union union) (terms_of question) tuple room
      ↔ Meets20 rules question union facts tuple room
  too_short_iff facts tuple room = (
    λ (k, c, low, behind, short).
        let (steps, way) = steps_exist k low.lowest low.there in
        let same : c ≡ length steps =
        behind_unique (the_union union) c (length steps) k behind (way_behind (the_rules rules) (the_union union) k steps way) in
        (steps, record { from = k; lowest = low; way = way }, subst (λ n. room < place_size * n) same short),
    λ (steps, x, short).
        (x.from, length steps, x.lowest, way_behind (the_rules rules) (the_union union) x.from steps x.way, short),
  )

  -- the steps behind a tuple are at most 511, for the union has at most 512 members and parents come earlier
  steps_few : (facts tuple : List ℕ) (steps : List ExplainedStep) → ExplainsTuple rules question union facts tuple steps
      → length steps < most_members
  steps_few facts tuple steps x =
      let short : length steps ≤ x.from = way_short (the_rules rules) (the_union union) x.from steps x.way in
      let there : x.from < length (the_union union) = at_lt (the_union union) x.from x.lowest.there in
      let few : length (the_union union) ≤ most_members = members_few partners01 sheet_width (term_count question 0) union not6 in
      omega arith

-- ---- the pledge

module _ (rules question union facts tuple : List ℕ) (room : ℕ) where
  abbrev four : Sheets
  four = four_sheets rules question union facts tuple

  -- 19 and 20
  abbrev own : List {1} (ℕ × Type 0)
  own = (19, Meets19 rules question union facts tuple) ∷ (20, Meets20 rules question union facts tuple room) ∷ []

  -- the number of the sheets' own refusals
  abbrev first : ℕ
  first = number_of (the_refusal drawing four)

  -- what the stages behind them give, as read
  abbrev Given : ℕ → ℕ → List ℕ → Type 0
  Given number count list =
      TellsBehind (the_rules rules) (the_facts facts) (the_union union) (terms_of question) tuple room first number count list

  -- 0 says that none of them applies
  first_zero : (first ≡ 0) ↔ NotRefused drawing four
  first_zero = number_zero partners01 sheet_width four drawing

  module _ (number count : ℕ) (list : List ℕ) (given : Given number count list) where
    -- and so does 0 behind them
    read_where_zero : number ≡ 0 → NotRefused drawing four
    read_where_zero z =
        elim (ℕ_discrete first 0) [
          | yes e ↦ first_zero.0 e
          | no f ↦ absurd (f (sym (given.stopped f).0 ∙ z))
        ]

    -- 19 and 20 in the pledge's own words
    decided : NotRefused drawing four → DecidedBy own number
    decided e =
        let short = too_short_iff rules question union ((drawing_sound rules question union facts).0 e).0 facts tuple room in
        elim (given.goes_on (first_zero.1 e)).decided [
          | inl (inl h) ↦ inl (inl h)
          | inl (inr (f, inl h)) ↦ inl (inr (f, inl (h.0, short.0 h.1)))
          | inl (inr (f, inr (g, h))) ↦ absurd h
          | inr (z, (f, (g, u))) ↦ inr (z, (f, (λ s. g (short.1 s), u)))
        ]

    -- what 0 means
    zero_means : (number ≡ 0)
        ↔ (SoundAndAccepted rules question union × SoundFacts rules facts
        × (¬ Meets19 rules question union facts tuple) × (¬ Meets20 rules question union facts tuple room))
    zero_means = (
      λ z. let e = read_where_zero z in
          let (a, s) = (all_sound rules question union facts).0 e in
          elim (decided e) [
            | inl (inl h) ↦ absurd (let n : 19 ≡ number = h.0 in omega arith)
            | inl (inr (f, inl h)) ↦ absurd (let n : 20 ≡ number = h.0 in omega arith)
            | inl (inr (f, inr (g, h))) ↦ absurd h
            | inr (d, (f, (g, u))) ↦ (a, s, f, g)
          ],
      λ (a, s, f, g). elim (decided ((all_sound rules question union facts).1 (a, s))) [
        | inl (inl h) ↦ absurd (f h.1)
        | inl (inr (k, inl h)) ↦ absurd (g h.1)
        | inl (inr (k, inr (l, h))) ↦ absurd h
        | inr h ↦ h.0
      ],
    )

    -- what the steps show
    steps_behind : number ≡ 0 → StepsBehind rules question union facts tuple room count list
    unfolding rules_as_read
    steps_behind z =
        let e = read_where_zero z in
        let (accepted, sound) = (drawing_sound rules question union facts).0 e in
        let (steps, x, many, bytes) = (given.goes_on (first_zero.1 e)).filled z in
        let ok = accepted_as_read rules question union accepted in
        let enough = suffice (the_written_rules rules) (the_facts facts) (the_union union) (the_question question)
        (the_tuple rules question union facts tuple) steps x ok.1 (sheets_apart rules question union facts accepted sound) in
        record {
          steps = steps;
          explains = x;
          count_is = many;
          list_is = bytes;
          replays =
              replays (the_rules rules) (the_union union) (the_question question) ok.1.first (λ m k. (ok.0 m k).distinct)
              (the_facts facts) (the_tuple rules question union facts tuple) steps x;
          found =
              suffices_found (the_written_rules rules) (the_facts facts) (the_question question)
              (the_tuple rules question union facts tuple) steps enough x.lowest.yields.0;
          suffice = enough;
        }

  -- THE PLEDGE of `explain`, from what its stages give
  pub pledge : (number count : ℕ) (list : List ℕ)
      → TellsBehind (the_rules rules) (the_facts facts) (the_union union) (terms_of question) tuple room
      (number_of (the_refusal drawing (four_sheets rules question union facts tuple))) number count list
      → Explained rules question union facts tuple room number count list
  pledge number count list given = record {
    number_is =
        decides_behind (the_conditions drawing four) own (the_refusal drawing four) (refused_iff partners01 sheet_width four drawing)
        (passed_iff partners01 sheet_width four drawing) first_zero number (λ f. (given.stopped f).0)
        (λ z. decided number count list given (first_zero.0 z));
    zero = zero_means number count list given;
    explained = steps_behind number count list given;
    refused = λ f. elim (ℕ_discrete first 0) [ yes z ↦ (given.goes_on z).emptied f | no g ↦ (let s = given.stopped g in (s.1, s.2)) ];
  }

  -- ---- what the number means

  -- the whole list
  abbrev conditions : List {1} (ℕ × Type 0)
  conditions = explain_conditions rules question union facts tuple room

  -- what it means that no condition before them holds
  none_iff_sound : NoneHolds (the_conditions drawing four) ↔ (SoundAndAccepted rules question union × SoundFacts rules facts)
  none_iff_sound = Iff.trans (Iff.symm (passed_iff partners01 sheet_width four drawing)) (all_sound rules question union facts)

  -- the sheets' own numbers are others
  not_nineteen : ¬ (the_refusal drawing four ≡ some 19)
  unfolding refusal_of refusals tests_for all
  not_nineteen = no_such 19 (tests_for partners01 sheet_width drawing four (refusals partners01 sheet_width)) tt

  not_twenty : ¬ (the_refusal drawing four ≡ some 20)
  unfolding refusal_of refusals tests_for all
  not_twenty = no_such 20 (tests_for partners01 sheet_width drawing four (refusals partners01 sheet_width)) tt

  module _ (number count : ℕ) (list : List ℕ) (x : Explained rules question union facts tuple room number count list) where
    -- "The first entry whose condition holds decides, for the earlier ones not holding": any number but 0 is that of the first that holds
    pub number_means : (n : ℕ) → 0 < n → (number ≡ n) ↔ First (explain_conditions rules question union facts tuple room) n
    number_means n l = (
      λ e. elim x.number_is [
        | inl h ↦ subst (First conditions) e h
        | inr h ↦ absurd (let z : number ≡ 0 = h.0 in omega arith)
      ],
      λ h. decides_one conditions number n x.number_is (inl h),
    )

    -- and 0 says that none holds
    pub none_means : (number ≡ 0) ↔ NoneHolds (explain_conditions rules question union facts tuple room)
    none_means = (
      λ z. let (a, s, f, g) = x.zero.0 z in (none_both (the_conditions drawing four) own).1 (none_iff_sound.1 (a, s), (f, (g, tt))),
      λ h. decides_one conditions number 0 x.number_is (inr (refl, h)),
    )

    -- a number that the sheets' refusals do not have says that they are sound and the union is accepted
    own_number : (n : ℕ) → 0 < n → ¬ (the_refusal drawing four ≡ some n)
        → (number ≡ n) ↔ (SoundAndAccepted rules question union × SoundFacts rules facts × First own n)
    own_number n l f =
        Iff.trans (number_means n l) (Iff.trans (first_both (the_conditions drawing four) own n) (
          elim [
            | inl h ↦ absurd (f ((refused_iff partners01 sheet_width four drawing n).1 h))
            | inr h ↦ (let (a, s) = none_iff_sound.0 h.0 in (a, s, h.1))
          ],
          λ (a, s, h). inr (none_iff_sound.1 (a, s), h),
        ))

    -- 19 exactly where all that is wrong is the tuple
    pub nineteen_means : (number ≡ 19)
        ↔ (SoundAndAccepted rules question union × SoundFacts rules facts × Meets19 rules question union facts tuple)
    nineteen_means =
        Iff.trans (own_number 19 (omega arith) not_nineteen) (
          λ (a, s, h). (
            a,
            s,
            elim h [
              | inl k ↦ k.1
              | inr (f, inl k) ↦ absurd (let z : ◌≡◌ {A = ℕ} 20 19 = k.0 in omega arith)
              | inr (f, inr (g, k)) ↦ absurd k
            ],
          ),
          λ (a, s, m). (a, s, inl (refl, m)),
        )

    -- 20 exactly where the tuple is an answer and all that is wrong is the length of the list
    pub twenty_means : (number ≡ 20)
        ↔ (SoundAndAccepted rules question union × SoundFacts rules facts
        × (¬ Meets19 rules question union facts tuple) × Meets20 rules question union facts tuple room)
    twenty_means =
        Iff.trans (own_number 20 (omega arith) not_twenty) (
          λ (a, s, h). elim h [
            | inl k ↦ absurd (let z : ◌≡◌ {A = ℕ} 19 20 = k.0 in omega arith)
            | inr (f, inl k) ↦ (a, s, f, k.1)
            | inr (f, inr (g, k)) ↦ absurd k
          ],
          λ (a, s, f, m). (a, s, inr (f, inl (refl, m))),
        )

    -- ---- what the count means

    -- it is the number of written parents from the lowest member that yields the tuple up to member 0
    pub count_parents : number ≡ 0
        → (k : ℕ) × Lowest (the_facts facts) (the_union union) (the_tuple rules question union facts tuple) k
        × Behind (the_union union) count k
    count_parents z =
        let b = x.explained z in
        let e = b.explains in (
          e.from,
          e.lowest,
          subst (λ c. Behind (the_union union) c e.from) (sym b.count_is)
              (way_behind (the_rules rules) (the_union union) e.from b.steps e.way),
        )

    -- it is at most 511
    pub at_most_511 : count < most_members
    at_most_511 =
        elim (ℕ_discrete number 0) [
          | yes z ↦
              (let b = x.explained z in
              let same : count ≡ length b.steps = b.count_is in
              let few : length b.steps < most_members =
              steps_few rules question union ((accepted_sound rules question union).1 (x.zero.0 z).0) facts tuple b.steps
              b.explains in
              omega arith)
          | no f ↦ (let same : count ≡ 0 = (x.refused f).0 in omega arith)
        ]

  -- so lists of 511 places are never too short
  pub always_fits : SoundAndAccepted rules question union → place_size * (most_members - 1) ≤ room
      → ¬ Meets20 rules question union facts tuple room
  always_fits sound long (steps, x, short) =
      let few : length steps < most_members =
      steps_few rules question union ((accepted_sound rules question union).1 sound) facts tuple steps x in
      omega arith

  -- ---- the sheets, the tuple and the length of the list fix everything that is returned

  pub one_answer : (number count number' count' : ℕ) (list list' : List ℕ)
      → Explained rules question union facts tuple room number count list
      → Explained rules question union facts tuple room number' count' list' → (number ≡ number') × (count ≡ count') × (list ≡ list')
  one_answer number count number' count' list list' x x' =
      let same : number ≡ number' =
      decides_one conditions number number' x.number_is x'.number_is in
      elim (ℕ_discrete number 0) [
        | yes z ↦ (let b = x.explained z in let b' = x'.explained (sym same ∙ z) in
            let steps = explains_unique (the_rules rules) (the_facts facts) (the_union union) (the_tuple rules question union facts tuple)
            b.steps b'.steps b.explains b'.explains in (
              same,
              b.count_is ∙ ap length steps ∙ sym b'.count_is,
              b.list_is ∙ ap (step_list room) steps ∙ sym b'.list_is,
            ))
        | no f ↦ (let d = x.refused f in let d' = x'.refused (λ z. f (same ∙ z)) in (same, d.0 ∙ sym d'.0, d.1 ∙ sym d'.1))
      ]

-- ---- what can be explained is what is drawn

-- a tuple stands in a list or not
there_or_not : (t : List ℕ) (ts : List (List ℕ)) → (t ∈ ts) ⊎ (¬ (t ∈ ts))
there_or_not t ts =
    let there = any_same (pairwise eqb) (pairwise_iff eqb T_eqb) t ts in
    elim (either (any (pairwise eqb t) ts)) [ inl h ↦ inl (there.0 h) | inr f ↦ inr (λ m. f (there.1 m)) ]

module _ (rules question union facts : List ℕ) where
  -- 19 is not met exactly where the tuple has the answer list's length and is one of the answers
  pub fits_what_is_drawn : SoundAndAccepted rules question union → (tuple : List ℕ)
      → (¬ Meets19 rules question union facts tuple)
      ↔ ((length tuple ≡ tuple_size (terms_of question)) × (the_tuple rules question union facts tuple ∈ the_answers union facts))
  fits_what_is_drawn sound tuple =
      let t : List ℕ = the_tuple rules question union facts tuple in
      let ok = accepted_as_read rules question union ((accepted_sound rules question union).1 sound) in
      let first = answers_iff (the_facts facts) (the_union union) (λ m k. (ok.0 m k).safe) t in (
        λ h. (
          elim (ℕ_discrete (length tuple) (tuple_size (terms_of question))) [ yes e ↦ e | no f ↦ absurd (h (inr f)) ],
          elim (there_or_not t (the_answers union facts)) [ inl m ↦ m | inr f ↦ absurd (h (inl (λ r. f (first.1 r)))) ],
        ),
        λ (e, m). elim [ inl f ↦ f (first.0 m) | inr f ↦ f e ],
      )

  -- so an answer does not meet it, "packed as in the answer list"
  pub answer_fits : SoundAndAccepted rules question union → (t : List ℕ) → t ∈ the_answers union facts
      → ¬ Meets19 rules question union facts (tuple_bytes t)
  answer_fits sound t m =
      let (registered, terms) = answers_known rules question union facts ((accepted_sound rules question union).1 sound) t m in
      let again : objects_at (tuple_bytes t) 0 (terms_of question) ≡ t =
      ap₂ (λ bytes n. objects_at bytes 0 n) (sym (append-nil (tuple_bytes t))) (sym terms) ∙ objects_again t [] [] registered in
      (fits_what_is_drawn sound (tuple_bytes t)).1 (length_tuple t ∙ ap tuple_size terms, Memᴰ.cast again m)

  -- and every tuple of a drawn list can be explained, given as it stands there
  pub drawn_explained : (room number count : ℕ) (list : List ℕ) → Drawn rules question union facts room number count list → number ≡ 0
      → (k : ℕ) → k < count
      → ¬ Meets19 rules question union facts (take (tuple_size (terms_of question)) (drop (tuple_size (terms_of question) * k) list))
  drawn_explained room number count list d z k l =
      let zero = sym d.number_is ∙ z in
      let sound = (d.zero.0 z).0 in
      let known = answers_known rules question union facts ((accepted_sound rules question union).1 sound) in
      let many : count ≡ length (the_answers union facts) = d.count_is ∙ count_means rules question union facts room zero in
      let bytes : list ≡ list_bytes room (the_answers union facts) = d.list_is ∙ list_means rules question union facts room zero in
      elim (at_or_past (the_answers union facts) k) [
        | inl (t, a) ↦ rw (bytes, part_of (the_answers union facts) (terms_of question) room known k a)
            (answer_fits sound t (at_mem (the_answers union facts) k a))
        | inr m ↦ absurd (omega arith)
      ]
