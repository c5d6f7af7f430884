-- The one list of refusals against the lists of single sheets: a call that reads the sheets one after another, and stops at the first
-- refusal, gives the list's first; and the number given is that of the first entry of 01's list whose condition holds.
use Rattle.std.specs.Prelude.{◌≡◌, ◌↔◌, ◌≢◌, ℕ, Bool, ◌&&◌}
use Rattle.std.proofs.Math.Path.{refl, ap, ap₂, subst}
use Rattle.std.proofs.Common.{sym, ◌∙◌, arith}
use Rattle.std.proofs.Math.Logic.Iff
use Rattle.std.proofs.Math.Bool.{true, false}
use Rattle.std.proofs.Math.Option.{Option, none, some, or_else}
use mathlib.Core.List.{List, [], ◌∷◌, ◌++◌}
use Rattle.std.proofs.Math.Dec.{T, ltb}
use Rattle.theory.specs.Lists.{pick, all}
use Rattle.theory.specs.Refusals.{first_refusal, First, NoneHolds}
use Rattle.theory.specs.Syntax.{Rule, Query, UCQ}
use Rattle.theory.specs.Union.{SoundUnion, Accepted, refuses7, refuses8, refuses9, refuses10, refuses11, check}
use Rattle.theory.specs.Laws.Options.{T_and, none≢some}
use Rattle.theory.specs.Laws.Refusals.{Decides, first_refusal_iff, no_refusal_iff}
use Rattle.theory.proofs.Laws.Union.{check_accepts}
use Rattle.theory.specs.Qualified.{refuses18, Meets18}
use Rattle.theory.proofs.Laws.QualifiedPlaces.{refuses18_iff}
use Rattle.theory.proofs.Laws.UnionTests.{refuses7_iff, refuses8_iff, refuses9_iff, refuses10_iff, refuses11_iff}
use Rattle.sheets.specs.Format.{term_count}
use Rattle.sheets.specs.Refusals.{Sheets, Which, Refusal, within, only_question, question_and_union, checking}
use Rattle.sheets.specs.Refusals.{
  drawing,
  read_rules,
  read_question,
  read_union,
  refusals,
  tests_for,
  conditions_for,
  refusal_of,
  number_of,
}
use Rattle.sheets.specs.Refusals.{written_rules, rule_roles, question_roles, fact_roles, rules_and_facts, writing, rule_refusals}
use Rattle.sheets.specs.Refusals.{question_refusals, fact_refusals}
use Rattle.sheets.specs.Tests.{refuses6}
use Rattle.sheets.proofs.Laws.Tests.{ltb_tells}
use Rattle.sheets.proofs.Laws.RuleRefusals.{refuses1_iff, refuses2_iff}
use Rattle.sheets.proofs.Laws.PairRefusals.{refuses17_iff}
use Rattle.sheets.proofs.Laws.QuestionRefusals.{refuses3_iff, refuses4_iff, refuses5_twice, question_arity}
use Rattle.sheets.proofs.Laws.UnionRefusals.{refuses6_iff, sound_union}
use Rattle.sheets.proofs.Laws.FactRefusals.{refuses12_iff, refuses13_iff}

-- ---- on lists of tests

-- the first of two lists, one after the other
first_append : (es fs : List (ℕ × Bool)) → first_refusal (es ++ fs) ≡ or_else (first_refusal es) (first_refusal fs)
unfolding first_refusal or_else
first_append [] fs = refl
first_append (e ∷ es) fs =
    elim e.1 as (λ b. pick b (some e.0) (first_refusal (es ++ fs))
    ≡ or_else (pick b (some e.0) (first_refusal es)) (first_refusal fs)) [
      | true ↦ refl
      | false ↦ first_append es fs
    ]

pub or_else_none : {X : Type 0} (o o' : Option X) → (or_else o o' ≡ none) ↔ ((o ≡ none) × (o' ≡ none))
unfolding or_else
or_else_none none o' = (λ e. (refl, e), λ e. e.1)
or_else_none (some x) o' = (λ e. absurd (none≢some (sym e)), λ e. e.0)

none_along : {X : Type 0} {o o' : Option X} → o ≡ o' → (o ≡ none) ↔ (o' ≡ none)
none_along e = (λ f. sym e ∙ f, λ f. e ∙ f)

pub one_none : (n : ℕ) (b : Bool) → (first_refusal ((n, b) ∷ []) ≡ none) ↔ (¬ T b)
unfolding first_refusal
one_none n true = (λ e. absurd (none≢some (sym e)), λ f. absurd (f tt))
one_none n false = (λ e t. t, λ f. refl)

pub two_none : (m n : ℕ) (b c : Bool) → (first_refusal ((m, b) ∷ (n, c) ∷ []) ≡ none) ↔ ((¬ T b) × (¬ T c))
unfolding first_refusal
two_none m n true c = (λ e. absurd (none≢some (sym e)), λ f. absurd (f.0 tt))
two_none m n false true = (λ e. absurd (none≢some (sym e)), λ f. absurd (f.1 tt))
two_none m n false false = (λ e. (λ t. t, λ t. t), λ f. refl)

-- no test has number 0, so that 0 says that none passes
pub first_positive : (tests : List (ℕ × Bool)) → T (all (λ e. ltb 0 e.0) tests) → (number_of (first_refusal tests) ≡ 0)
    ↔ (first_refusal tests ≡ none)
unfolding all first_refusal number_of
first_positive [] h = (λ e. refl, λ e. refl)
first_positive (e ∷ es) h =
    let parts = (T_and (ltb 0 e.0) (all (λ e. ltb 0 e.0) es)).0 h in
    elim e.1 as (λ b. (number_of (pick b (some e.0) (first_refusal es)) ≡ 0) ↔ (pick b (some e.0) (first_refusal es) ≡ none)) [
      | true ↦ (λ z. absurd (let l = (ltb_tells 0 e.0).pass.0 parts.0 in omega arith), λ z. absurd (none≢some (sym z)))
      | false ↦ first_positive es parts.1
    ]

-- numbers of two readings one after the other: a number other than 0 is final
pub number_stops : (o o' : Option ℕ) → number_of o ≢ 0 → number_of (or_else o o') ≡ number_of o
unfolding number_of or_else
number_stops none o' h = absurd (h refl)
number_stops (some n) o' h = refl

pub number_goes_on : (o o' : Option ℕ) → o ≡ none → number_of (or_else o o') ≡ number_of o'
unfolding or_else
number_goes_on o o' e = ap (λ p. number_of (or_else p o')) e

-- the tests that the check of a union makes, in order
abbrev pub union_tests : List Rule → Query → UCQ → List (ℕ × Bool)
union_tests rules q union =
    (7, refuses7 rules q union)
    ∷ (8, refuses8 rules q union)
    ∷ (9, refuses9 rules q union)
    ∷ (10, refuses10 rules q union)
    ∷ (11, refuses11 rules q union)
    ∷ []

-- ---- the one list

module _ (partners : List ℕ) (w : ℕ) (sheets : Sheets) where
  -- the sheets as read
  abbrev rules : List Rule
  rules = read_rules partners w sheets

  abbrev question : Query
  question = read_question partners w sheets

  abbrev union : UCQ
  union = read_union partners w sheets

  -- the union sheet's own test, for the question's number of answer terms
  abbrev pub union_refusals : List (ℕ × Bool)
  union_refusals = (6, refuses6 partners w (term_count sheets.question 0) sheets.union) ∷ []

  -- the clashes that checking and writing judge, and the one with the facts
  abbrev pub clash_refusals : List (ℕ × Bool)
  clash_refusals =
      (18, refuses18 (written_rules partners w sheets) (rule_roles partners w sheets))
      ∷ (18, refuses18 (written_rules partners w sheets) (question_roles partners w sheets))
      ∷ []

  abbrev pub fact_clash : List (ℕ × Bool)
  fact_clash = (18, refuses18 (written_rules partners w sheets) (fact_roles partners w sheets)) ∷ []

  -- what comes before the clashes and the facts: rules, question and union read, then checked
  abbrev unclashed : List (ℕ × Bool)
  unclashed =
      rule_refusals partners w sheets.rules
      ++ (question_refusals partners w sheets.question ++ (union_refusals ++ union_tests rules question union))

  abbrev pub unclashed_first : Option ℕ
  unclashed_first =
      or_else (first_refusal (rule_refusals partners w sheets.rules))
      (or_else (first_refusal (question_refusals partners w sheets.question))
      (or_else (first_refusal union_refusals) (check rules question union)))

  unclashed_first_lem : first_refusal unclashed ≡ unclashed_first
  unfolding check
  unclashed_first_lem =
      first_append (rule_refusals partners w sheets.rules)
      (question_refusals partners w sheets.question ++ (union_refusals ++ union_tests rules question union))
      ∙ ap (or_else (first_refusal (rule_refusals partners w sheets.rules)))
      (first_append (question_refusals partners w sheets.question) (union_refusals ++ union_tests rules question union)
      ∙ ap (or_else (first_refusal (question_refusals partners w sheets.question)))
      (first_append union_refusals (union_tests rules question union)))

  -- checking: 1, 2, 17, 3 to 11, 18
  pub checking_first : refusal_of partners w checking sheets ≡ or_else unclashed_first (first_refusal clash_refusals)
  unfolding refusal_of tests_for refusals rule_refusals question_refusals
  checking_first = first_append unclashed clash_refusals ∙ ap (λ o. or_else o (first_refusal clash_refusals)) unclashed_first_lem

  -- drawing: 1, 2, 17, 3 to 13, 18
  pub drawing_first : refusal_of partners w drawing sheets
      ≡ or_else unclashed_first
      (or_else (first_refusal (fact_refusals w sheets.facts)) (or_else (first_refusal clash_refusals) (first_refusal fact_clash)))
  unfolding refusal_of tests_for refusals rule_refusals question_refusals fact_refusals
  drawing_first =
      first_append unclashed (fact_refusals w sheets.facts ++ (clash_refusals ++ fact_clash))
      ∙ ap₂ or_else unclashed_first_lem
      (first_append (fact_refusals w sheets.facts) (clash_refusals ++ fact_clash)
      ∙ ap (or_else (first_refusal (fact_refusals w sheets.facts))) (first_append clash_refusals fact_clash))

  -- writing: 1, 2, 17, 3 to 5, 18
  pub writing_first : refusal_of partners w writing sheets
      ≡ or_else (first_refusal (rule_refusals partners w sheets.rules))
      (or_else (first_refusal (question_refusals partners w sheets.question)) (first_refusal clash_refusals))
  unfolding refusal_of tests_for refusals rule_refusals question_refusals
  writing_first =
      first_append (rule_refusals partners w sheets.rules) (question_refusals partners w sheets.question ++ clash_refusals)
      ∙ ap (or_else (first_refusal (rule_refusals partners w sheets.rules)))
      (first_append (question_refusals partners w sheets.question) clash_refusals)

  -- comparing takes question sheets, each judged by itself: 3 to 5
  pub question_alone_lem : refusal_of partners w only_question sheets ≡ first_refusal (question_refusals partners w sheets.question)
  unfolding refusal_of tests_for refusals question_refusals
  question_alone_lem = refl

  -- the other calls, by the sheets that they take
  pub question_and_union_lem : refusal_of partners w question_and_union sheets
      ≡ or_else (first_refusal (question_refusals partners w sheets.question)) (first_refusal union_refusals)
  unfolding refusal_of tests_for refusals question_refusals
  question_and_union_lem = first_append (question_refusals partners w sheets.question) union_refusals

  pub rules_and_facts_lem : refusal_of partners w rules_and_facts sheets
      ≡ or_else (first_refusal (rule_refusals partners w sheets.rules))
      (or_else (first_refusal (fact_refusals w sheets.facts))
      (first_refusal ((18, refuses18 (written_rules partners w sheets) (rule_roles partners w sheets)) ∷ fact_clash)))
  unfolding refusal_of tests_for refusals rule_refusals fact_refusals
  rules_and_facts_lem =
      first_append (rule_refusals partners w sheets.rules)
      (fact_refusals w sheets.facts ++ ((18, refuses18 (written_rules partners w sheets) (rule_roles partners w sheets)) ∷ fact_clash))
      ∙ ap (or_else (first_refusal (rule_refusals partners w sheets.rules)))
      (first_append (fact_refusals w sheets.facts)
      ((18, refuses18 (written_rules partners w sheets) (rule_roles partners w sheets)) ∷ fact_clash))

  -- ---- a call that is not refused

  -- no entry has number 0
  positive : List {1} Refusal → Bool
  positive [] = true
  positive (e ∷ es) = ltb 0 e.number && positive es

  tests_positive : (takes : Which) (es : List {1} Refusal) → T (positive es)
      → T (all (λ e. ltb 0 e.0) (tests_for partners w takes sheets es))
  unfolding all tests_for positive
  tests_positive takes [] h = tt
  tests_positive takes (e ∷ es) h =
      let parts = (T_and (ltb 0 e.number) (positive es)).0 h in
      let rest = tests_positive takes es parts.1 in
      elim (within e.reads takes) as
      (λ b. T (all (λ e. ltb 0 e.0)
      (pick b ((e.number, e.test sheets) ∷ tests_for partners w takes sheets es) (tests_for partners w takes sheets es)))) [
        | true ↦ (T_and (ltb 0 e.number) (all (λ e. ltb 0 e.0) (tests_for partners w takes sheets es))).1 (parts.0, rest)
        | false ↦ rest
      ]

  -- "A call that isn't refused returns number 0", and one that is refused does not
  pub number_zero : (takes : Which) → (number_of (refusal_of partners w takes sheets) ≡ 0) ↔ (refusal_of partners w takes sheets ≡ none)
  unfolding refusal_of refusals positive
  number_zero takes =
      first_positive (tests_for partners w takes sheets (refusals partners w)) (tests_positive takes (refusals partners w) tt)

  pub unclashed_positive : (number_of unclashed_first ≡ 0) ↔ (unclashed_first ≡ none)
  unfolding rule_refusals question_refusals all
  unclashed_positive = subst (λ o. (number_of o ≡ 0) ↔ (o ≡ none)) unclashed_first_lem (first_positive unclashed tt)

  pub unclashed_none : (unclashed_first ≡ none)
      ↔ ((first_refusal (rule_refusals partners w sheets.rules) ≡ none)
      × (first_refusal (question_refusals partners w sheets.question) ≡ none)
      × (first_refusal union_refusals ≡ none) × (check rules question union ≡ none))
  unclashed_none =
      let R = first_refusal (rule_refusals partners w sheets.rules) in
      let Q = first_refusal (question_refusals partners w sheets.question) in
      let U = first_refusal union_refusals in
      let C = check rules question union in (
        λ e. let r = (or_else_none R (or_else Q (or_else U C))).0 e in
            let q = (or_else_none Q (or_else U C)).0 r.1 in
            let u = (or_else_none U C).0 q.1 in (r.0, q.0, u.0, u.1),
        λ c. (or_else_none R (or_else Q (or_else U C))).1 (c.0, (or_else_none Q (or_else U C)).1 (c.1, (or_else_none U C).1 (c.2, c.3))),
      )

  pub checked : (refusal_of partners w checking sheets ≡ none) ↔ ((unclashed_first ≡ none) × (first_refusal clash_refusals ≡ none))
  checked = Iff.trans (none_along checking_first) (or_else_none unclashed_first (first_refusal clash_refusals))

  -- what the agreement of both readers asks
  pub checked_accepted : refusal_of partners w checking sheets ≡ none → SoundUnion question union × Accepted rules question union
  checked_accepted e =
      let c = unclashed_none.0 (checked.0 e).0 in
      let six = (one_none 6 (refuses6 partners w (term_count sheets.question 0) sheets.union)).0 c.2 in
      let not6 = subst (λ arity. ¬ T (refuses6 partners w arity sheets.union))
      (sym (question_arity partners w sheets.question)) six in
      (sound_union partners w sheets.union question not6, (check_accepts rules question union).0 c.3)

  -- no helper in use stands as a role
  pub no_clash : (roles : List ℕ) → ¬ T (refuses18 (written_rules partners w sheets) roles)
      → ¬ Meets18 (written_rules partners w sheets) roles
  no_clash roles f m = f ((refuses18_iff (written_rules partners w sheets) roles).1 m)

  -- ---- 01's list: "The first entry whose condition holds decides, for the earlier ones not holding."

  -- each test passes exactly where its condition holds
  abbrev EachDecides : List {1} Refusal → Type 0
  EachDecides [] = Unit {0}
  EachDecides (e ∷ es) = (T (e.test sheets) ↔ e.condition sheets) × EachDecides es

  clash_iff : (roles : List ℕ) → T (refuses18 (written_rules partners w sheets) roles) ↔ Meets18 (written_rules partners w sheets) roles
  clash_iff = refuses18_iff (written_rules partners w sheets)

  every_one : EachDecides (refusals partners w)
  unfolding refusals
  every_one =
      let written = written_rules partners w sheets in (
        refuses1_iff sheets.rules,
        (
          refuses2_iff sheets.rules,
          (
            refuses17_iff partners w sheets.rules,
            (
              refuses3_iff w sheets.question,
              (
                refuses4_iff question,
                (
                  refuses5_twice question,
                  (
                    refuses6_iff partners w (term_count sheets.question 0) sheets.union,
                    (
                      refuses7_iff rules question union,
                      (
                        refuses8_iff rules question union,
                        (
                          refuses9_iff rules question union,
                          (
                            refuses10_iff rules question union,
                            (
                              refuses11_iff rules question union,
                              (
                                refuses12_iff w sheets.facts,
                                (
                                  refuses13_iff w sheets.facts,
                                  (
                                    clash_iff (rule_roles partners w sheets),
                                    (clash_iff (question_roles partners w sheets), (clash_iff (fact_roles partners w sheets), tt)),
                                  ),
                                ),
                              ),
                            ),
                          ),
                        ),
                      ),
                    ),
                  ),
                ),
              ),
            ),
          ),
        ),
      )

  decided : (takes : Which) (es : List {1} Refusal) → EachDecides es
      → Decides (tests_for partners w takes sheets es) (conditions_for partners w takes sheets es)
  unfolding tests_for conditions_for
  decided takes [] h = tt
  decided takes (e ∷ es) h =
      elim (within e.reads takes) as
      (λ b. Decides (pick b ((e.number, e.test sheets) ∷ tests_for partners w takes sheets es) (tests_for partners w takes sheets es))
      (pick b ((e.number, e.condition sheets) ∷ conditions_for partners w takes sheets es) (conditions_for partners w takes sheets es))) [
        | true ↦ (refl, h.0, decided takes es h.1)
        | false ↦ decided takes es h.1
      ]

  -- for whichever sheets a call takes
  module _ (takes : Which) where
    -- the conditions of its list
    abbrev pub conditions_of : List {1} (ℕ × Type 0)
    conditions_of = conditions_for partners w takes sheets (refusals partners w)

    pub refused_iff : (n : ℕ) → (refusal_of partners w takes sheets ≡ some n) ↔ First conditions_of n
    unfolding refusal_of
    refused_iff n =
        first_refusal_iff (tests_for partners w takes sheets (refusals partners w)) conditions_of
        (decided takes (refusals partners w) every_one) n

    pub passed_iff : (refusal_of partners w takes sheets ≡ none) ↔ NoneHolds conditions_of
    unfolding refusal_of
    passed_iff =
        no_refusal_iff (tests_for partners w takes sheets (refusals partners w)) conditions_of
        (decided takes (refusals partners w) every_one)

-- 02, T-04, of helpers: "Members may use them." What 18 is judged by is the same whatever the union holds.
pub members_may_use : (partners : List ℕ) (w : ℕ) (rules question facts union other : List ℕ)
    → clash_refusals partners w (record { rules = rules; question = question; union = union; facts = facts })
    ++ fact_clash partners w (record { rules = rules; question = question; union = union; facts = facts })
    ≡ clash_refusals partners w (record { rules = rules; question = question; union = other; facts = facts })
    ++ fact_clash partners w (record { rules = rules; question = question; union = other; facts = facts })
members_may_use partners w rules question facts union other = refl
