-- Facts and members as they were read are what explaining asks for, and a refusal of theirs is what the call gives.
use mathlib.Core.Path.{◌≡◌, refl, sym, ap, ◌∙◌, subst}
use mathlib.Core.Logic.{inl, inr}
use Prim.Native.Nat.{ℕ, ◌*◌, ◌≤◌, ◌<◌}
use native.Mathlib.Decide.{ℕ_discrete}
use native.Mathlib.Omega.{arith}
use mathlib.Core.Bool.{Bool, true, false, ◌||◌}
use mathlib.Core.List.{List}
use lib.ListN.{length, replicate}
use borrow.Author.Rules.{rules}
use Rattle.theory.specs.Lists.{pick}
use Rattle.theory.specs.Refusals.{otherwise}
use Rattle.theory.specs.Syntax.{Rule, Query, UCQ, Fact}
use Rattle.theory.specs.Qualified.{roles_of_atoms}
use Rattle.theory.specs.Laws.Lists.{at_mem, at_lt, numbered_length}
use Rattle.theory.specs.Laws.Explaining.{Behind}
use Rattle.theory.proofs.Laws.Explaining.{behind_unique, lowest_unique}
use Rattle.std.specs.Prelude.{Result, Err, Some, None}
use Rattle.words.specs.Refusals.{code, number_in, count_in}
use Rattle.words.specs.declared.refusals.Refusal.{Refusal}
use Rattle.words.specs.declared.refusals.Refusal.TheVariants.{HelperAsRole}
use Rattle.words.specs.declared.refusals.Refusal.TheVariants as Refused
use Rattle.words.specs.Limits.{sheet_width, most_members}
use Rattle.words.specs.Words.{query_of, union_in, facts_in}
use Rattle.words.specs.declared.QueryWords.{QueryWords}
use Rattle.words.specs.Rows.{Rows, Arity, member_in}
use Rattle.sheets.specs.Format.{term_count}
use Rattle.sheets.specs.Reading.{question_as_read, union_as_read, facts_as_read}
use Rattle.promises.specs.Report.{objects_at}
use Rattle.promises.specs.Laws.Telling.{NoAnswer, TooShort, Tells, TellsBehind}
use Rattle.read_helpers.specs.InUse.{clashing}
use Rattle.read_facts.specs.FactSheets.{FactsRead}
use Rattle.read_question.specs.QuestionLaws.{question_small}
use Rattle.read_question.specs.QuestionWords.{QuestionRead}
use Rattle.check_sheet.specs.Members.{union_number, MembersRead}
use Rattle.answer_stages.specs.Stages.{facts_number, clash_number}
use Rattle.answer_stages.proofs.StageLaws.{facts_few, facts_within, zeros_there, clash_is, terms_few, safe_there, merges_there}
use Rattle.answer_stages.proofs.StageLaws.{accepted_there}
use Rattle.explain_member.specs.Yielding.{LowestFound}
use Rattle.explain_steps.specs.Filling.{StepsMade, RoomFor, TellsFrom}
use Rattle.explain_stages.specs.Stages.{from_facts, TellsFromFacts, TellsFromUnion, question_number, TellsFromQuestion}
use Rattle.explain_stages.specs.StageLaws.{tells_first, tells_refused, tells_on}

-- ---- 19, 20, or the steps

module _ (rules : List Rule) (facts : List Fact) (union : UCQ) (terms : ℕ) (tuple : List ℕ) (room : ℕ) where
  -- 19, for whatever reason
  tells_nineteen : (r : Result ℕ Refusal) (list : List ℕ) → NoAnswer rules facts union terms tuple room
      → (r ≡ Err Refused.NoAnswer) × (list ≡ replicate room 0)
      → Tells rules facts union terms tuple room (number_in r) (count_in r) list
  tells_nineteen r list missing (a, e) = rw a (record {
    decided = inl (inl (refl, missing));
    filled = λ n. absurd (omega arith);
    emptied = λ n. (refl, e);
  })

  pub wrong_length_lem : (r : Result ℕ Refusal) (list : List ℕ) → (length tuple ≡ 2 * terms → ⊥)
      → (r ≡ Err Refused.NoAnswer) × (list ≡ replicate room 0)
      → Tells rules facts union terms tuple room (number_in r) (count_in r) list
  wrong_length_lem r list n = tells_nineteen r list (inr n)

  pub no_member_yields : LowestFound facts union (objects_at tuple 0 terms) None → (r : Result ℕ Refusal) (list : List ℕ)
      → (r ≡ Err Refused.NoAnswer) × (list ≡ replicate room 0)
      → Tells rules facts union terms tuple room (number_in r) (count_in r) list
  no_member_yields none r list = tells_nineteen r list (inl (λ (may, (m, there, w)). none m there (may, w)))

  module _ (k : ℕ) (low : LowestFound facts union (objects_at tuple 0 terms) (Some k)) where
    -- the list is not too short where the places have room
    not_short : RoomFor union k room → TooShort rules facts union terms tuple room → ⊥
    not_short has_room (j, c, w, b, l) =
        let same : j ≡ k = lowest_unique facts union (objects_at tuple 0 terms) j k w low in
        let d : c ≡ has_room.places =
        behind_unique union c has_room.places k (subst (Behind union c) same b) has_room.behind in
        let f = has_room.fits in
        omega arith

    an_answer : length tuple ≡ 2 * terms → NoAnswer rules facts union terms tuple room → ⊥
    an_answer long (inl none) = none (low.yields.0, (low.lowest, at_mem union k low.there, low.yields.1))
    an_answer long (inr wrong) = wrong long

    pub tells_steps : (number count : ℕ) (list : List ℕ) → length tuple ≡ 2 * terms
        → TellsFrom rules union k room number count list → Tells rules facts union terms tuple room number count list
    tells_steps number count list long t = record {
      decided = elim (ℕ_discrete number 0) [
        | yes z ↦ inr (z, (an_answer long, (not_short (t.enough z), tt)))
        | no z ↦ (let (a, c, b, l, zero, e) = t.short z in
            inl (inr (an_answer long, inl (sym a, (k, c, low, b, l)))))
      ];
      filled = λ z. (let (b, c) = t.filled z in (b.steps, record { from = k; lowest = low; way = b.way }, c, b.list_is));
      emptied = λ z. (let (a, c, b, l, zero, e) = t.short z in (zero, e));
    }

-- the lowest member is one of those in the table
pub lowest_below : (facts : List Fact) (table : List ℕ) (n k : ℕ) (tuple : List ℕ) → LowestFound facts (union_in table n) tuple (Some k)
    → k < n
unfolding union_in
lowest_below facts table n k tuple low =
    subst (λ m. k < m) (numbered_length (member_in table) n) (at_lt (union_in table n) k low.there)

-- ---- facts, as they were read

module _ (p s words : List ℕ) (rules : List Rule) (union : UCQ) (terms helpers : ℕ) (clash : Bool) (tuple : List ℕ) (room : ℕ)
    (list : List ℕ) where
  pub facts_refused : (refusal : Refusal) (count : ℕ) → FactsRead p s words (code refusal) count → (r : Result ℕ Refusal)
      → (r ≡ Err refusal) × (list ≡ replicate room 0)
      → TellsFromFacts p rules s union terms helpers clash tuple room (number_in r) (count_in r) list
  facts_refused refusal count read r g =
      tells_refused rules (facts_as_read p sheet_width s) union terms tuple room (facts_number s) _ refusal r list read.sheet.number_is g

  module _ (count : ℕ) (read : FactsRead p s words 0 count) (c : Bool)
      (e : c ≡ (clash || clashing helpers (roles_of_atoms (facts_in words count)))) where
    -- the number of the clashes, as the code found it
    found_clash : (b : Bool) → c ≡ b → pick b 18 0 ≡ clash_number clash helpers (facts_as_read p sheet_width s)
    found_clash b d = ap (λ x. pick x 18 0) (sym d) ∙ clash_is p s words count read helpers clash c e

    pub facts_clash : (r : Result ℕ Refusal) → c ≡ true → (r ≡ Err HelperAsRole) × (list ≡ replicate room 0)
        → TellsFromFacts p rules s union terms helpers clash tuple room (number_in r) (count_in r) list
    facts_clash r t g =
        tells_on rules (facts_as_read p sheet_width s) union terms tuple room (facts_number s) _ (number_in r) (count_in r) list
        read.sheet.number_is
        (rw g.0 (record {
          stopped = λ n. (found_clash true t, refl, g.1);
          goes_on = λ z. absurd (let d = found_clash true t in omega arith);
        }))

    pub facts_pass : (number told : ℕ) → c ≡ false → Tells rules (facts_in words count) union terms tuple room number told list
        → TellsFromFacts p rules s union terms helpers clash tuple room number told list
    facts_pass number told f g =
        tells_on rules (facts_as_read p sheet_width s) union terms tuple room (facts_number s) _ number told list read.sheet.number_is
        (subst (λ k. TellsBehind rules (facts_as_read p sheet_width s) union terms tuple room k number told list)
        (found_clash false f)
        (tells_first rules (facts_as_read p sheet_width s) union terms tuple room number told list
        (subst (λ fs. Tells rules fs union terms tuple room number told list) (read.sheet.read refl) g)))

-- ---- the union, as it was read

module _ (p : List ℕ) (rules : List Rule) (q : Query) (terms : ℕ) (s table : List ℕ) where
  pub union_refused : (refusal : Refusal) (count : ℕ) → MembersRead p rules q terms s table (code refusal) count
      → (facts : List ℕ) (helpers : ℕ) (clash : Bool) (tuple : List ℕ) (room : ℕ) (r : Result ℕ Refusal) (list : List ℕ)
      → (r ≡ Err refusal) × (list ≡ replicate room 0)
      → TellsFromUnion p rules q terms s facts helpers clash tuple room (number_in r) (count_in r) list
  union_refused refusal count read facts helpers clash tuple room r list g = record {
    told = tells_refused rules (facts_as_read p sheet_width facts) (union_as_read p sheet_width s) terms tuple room
        (union_number p rules q terms s) _ refusal r list read.number_is g;
  }

  module _ (count : ℕ) (read : MembersRead p rules q terms s table 0 count) where
    pub made_there : StepsMade rules (union_in table count)
    made_there = record { each = (accepted_there p rules q terms s table count read).later }

    pub rows_there : Rows table count
    rows_there = (read.members refl).rows

    pub arity_there : Arity (union_in table count) terms
    arity_there = (read.members refl).arity

    -- a table of full size has no more members than there may be
    pub members_few : (size : ℕ) → length table ≡ size → size ≡ 8192 → count ≤ most_members
    members_few size e d = let l = (read.members refl).rows.long in omega arith

    pub union_passes : (facts : List ℕ) (helpers : ℕ) (clash : Bool) (tuple : List ℕ) (room number told : ℕ) (list : List ℕ)
        → TellsFromFacts p rules facts (union_in table count) terms helpers clash tuple room number told list
        → TellsFromUnion p rules q terms s facts helpers clash tuple room number told list
    union_passes facts helpers clash tuple room number told list g = record {
      told = tells_on rules (facts_as_read p sheet_width facts) (union_as_read p sheet_width s) terms tuple room
          (union_number p rules q terms s) _ number told list read.number_is
          (subst (λ u. TellsFromFacts p rules facts u terms helpers clash tuple room number told list) (read.union_is refl) g);
    }

-- ---- the question, as it was read

module _ (p question : List ℕ) (rules : List Rule) (union facts : List ℕ) (helpers : ℕ) (clash : Bool) (tuple : List ℕ) (room : ℕ)
    (list : List ℕ) where
  pub question_refused : (refusal : Refusal) (q : QueryWords) → QuestionRead p question (code refusal) q → (r : Result ℕ Refusal)
      → (r ≡ Err refusal) × (list ≡ replicate room 0)
      → TellsFromQuestion p rules question union facts helpers clash tuple room (number_in r) (count_in r) list
  question_refused refusal q read r g = record {
    told = tells_refused rules (facts_as_read p sheet_width facts) (union_as_read p sheet_width union) (term_count question 0) tuple room
        (question_number p question) _ refusal r list read.number_is g;
  }

  module _ (q : QueryWords) (read : QuestionRead p question 0 q) (number count : ℕ) where
    -- what is told behind the question, said of its query, terms and clash in the code, and of those that it says
    abbrev told_of : Query → ℕ → Bool → Type 0
    told_of asked terms clashes =
        TellsBehind rules (facts_as_read p sheet_width facts) (union_as_read p sheet_width union) terms tuple room
        (otherwise (union_number p rules asked terms union) (from_facts p facts helpers clashes)) number count list

    question_is : query_of q ≡ question_as_read p sheet_width question
    unfolding question_as_read
    question_is = (read.query refl).query_is

    pub question_passes : (asks : Bool) → asks ≡ (clash || clashing helpers (roles_of_atoms (query_of q).atoms))
        → TellsFromUnion p rules (query_of q) q.terms union facts helpers asks tuple room number count list
        → TellsFromQuestion p rules question union facts helpers clash tuple room number count list
    question_passes asks e g =
        let asks-are : asks ≡ (clash || clashing helpers (roles_of_atoms (question_as_read p sheet_width question).atoms))
        = e ∙ ap (λ (x : Query). clash || clashing helpers (roles_of_atoms x.atoms)) question_is in
        record {
          told = tells_on rules (facts_as_read p sheet_width facts) (union_as_read p sheet_width union) (term_count question 0) tuple room
              (question_number p question) _ number count list read.number_is
              (subst (λ c. told_of (question_as_read p sheet_width question) (term_count question 0) c) asks-are
              (subst (λ t. told_of (question_as_read p sheet_width question) t asks) (read.query refl).terms_are
              (subst (λ x. told_of x q.terms asks) question_is g.told)));
        }

-- twice a few
pub terms_doubled : (terms : ℕ) → terms ≤ 4 → 2 * terms < 65536
terms_doubled terms h = omega arith

pub ruleset tuple_laws = (rules, wrong_length_lem, no_member_yields, lowest_below, tells_steps, terms_doubled)

pub ruleset fact_laws = (rules, facts_refused, facts_few, facts_within, zeros_there, facts_clash, facts_pass)

pub ruleset question_laws = (rules, question_small, question_refused, question_passes)

pub ruleset union_laws = (
  rules,
  terms_few,
  rows_there,
  arity_there,
  safe_there,
  merges_there,
  made_there,
  members_few,
  union_refused,
  union_passes,
)
