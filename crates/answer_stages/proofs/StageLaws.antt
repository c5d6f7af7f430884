-- Facts and members as they were read are what drawing asks for, and a refusal of theirs is what the call gives.
use mathlib.Core.Path.{◌≡◌, refl, sym, ap, ◌∙◌, subst}
use Prim.Native.Nat.{ℕ, ◌≤◌, ◌<◌}
use native.Mathlib.Omega.{arith}
use mathlib.Core.Bool.{Bool, true, false, ◌||◌}
use mathlib.Core.Option.{Option, none}
use mathlib.Core.List.{List, [], ◌∷◌}
use lib.Dec.{T}
use lib.ListN.{length, replicate}
use borrow.Author.Rules.{rules}
use Rattle.theory.specs.Lists.{◌∈◌, pick}
use Rattle.theory.specs.Refusals.{first_refusal, number_of}
use Rattle.theory.specs.Syntax.{const, Member, Rule, Query, UCQ}
use Rattle.theory.specs.Union.{Accepted, refuses7, refuses8, refuses9, refuses10, refuses11, check}
use Rattle.theory.specs.Evaluation.{answers_of}
use Rattle.theory.specs.Laws.Lists.{mem_along}
use Rattle.theory.proofs.Laws.Union.{check_accepts}
use Rattle.std.specs.Prelude.{Result, Err}
use Rattle.words.specs.Refusals.{code, number_in, count_in}
use Rattle.words.specs.declared.refusals.Refusal.{Refusal}
use Rattle.words.specs.declared.refusals.Refusal.TheVariants.{HelperAsRole}
use Rattle.words.specs.FactWords.{ZeroBits}
use Rattle.words.specs.Laws.FactHeads.{zero_bits}
use Rattle.words.specs.Limits.{sheet_width, object_bound, most_facts}
use Rattle.words.specs.Words.{union_in, facts_in, Small}
use Rattle.words.specs.Rows.{Rows, Arity}
use Rattle.words.specs.declared.QueryWords.{QueryWords}
use Rattle.sheets.specs.Reading.{union_as_read, facts_as_read}
use Rattle.sheets.specs.Tests.{refuses6}
use Rattle.sheets.proofs.Laws.ObjectRange.{facts_in_range}
use Rattle.sheets.proofs.Laws.UnionRefusals.{sound_members}
use Rattle.theory.specs.Qualified.{roles_of_atoms}
use Rattle.read_helpers.specs.InUse.{clashing}
use Rattle.read_facts.specs.FactSheets.{FactsRead}
use Rattle.check_sheet.specs.Members.{Members, union_number, MembersRead}
use Rattle.answer_settled.specs.Search.{TuplesInRange}
use Rattle.answer_settled.specs.Laws.InRange.{tuples_in_range}
use Rattle.answer_evaluate.specs.Merges.{SafeMembers, MergesMade}
use Rattle.answer_evaluate.specs.MergeLaws.{merges_made}
use Rattle.answer_draw.specs.Gives.{GivesAnswers}
use Rattle.answer_draw.specs.GivesLaws.{gives_refused, goes_on}
use Rattle.answer_stages.specs.Stages.{facts_number, clash_number, GivesFromFacts, GivesFromUnion}

-- ---- the members in the table

pub rows_there : (table : List ℕ) (n terms : ℕ) → Members table n terms → Rows table n
rows_there table n terms m = m.rows

pub arity_there : (table : List ℕ) (n terms : ℕ) → Members table n terms → Arity (union_in table n) terms
arity_there table n terms m = m.arity

-- the objects among the members' answer terms are 16-bit numbers
pub record Constants (table : List ℕ) (n : ℕ) : Type 0 where
  pub each : (m : Member) → m ∈ union_in table n → (c : ℕ) → const c ∈ m.query.answers → c < object_bound

pub constants_there : (table : List ℕ) (n terms : ℕ) → Members table n terms → Constants table n
constants_there table n terms m = record { each = m.constants }

-- ---- facts, as they were read

pub facts_refused : (p s words : List ℕ) (refusal : Refusal) (count room terms helpers : ℕ) (clash : Bool) (union : UCQ)
    (r : Result ℕ Refusal) (list : List ℕ) → FactsRead p s words (code refusal) count
    → (r ≡ Err refusal) × (list ≡ replicate room 0) → GivesFromFacts p s union terms helpers clash room (number_in r) (count_in r) list
facts_refused p s words refusal count room terms helpers clash union r list read g =
    gives_refused room (answers_of (facts_as_read p sheet_width s) union) (facts_number s) _ refusal r list read.sheet.number_is g

module _ (p s words : List ℕ) (count : ℕ) (read : FactsRead p s words 0 count) where
  pub facts_few : count ≤ most_facts
  facts_few = read.sheet.few

  pub facts_within : (size : ℕ) → length words ≡ size → size ≡ most_facts → count ≤ length words
  facts_within size e d = let l : count ≤ most_facts = read.sheet.few in omega arith

  -- bit for bit, so that they can be compared a word at a time
  pub zeros_there : ZeroBits words count
  zeros_there = zero_bits words count read.words

  pub found_in_range : (table : List ℕ) (n : ℕ) → Constants table n → TuplesInRange (facts_in words count) (union_in table n)
  found_in_range table n members =
      tuples_in_range (facts_in words count) (union_in table n) (λ f m. facts_in_range p s f (mem_along (read.sheet.read refl) m))
      members.each

  -- c is what the code found of clashes
  pub clash_is : (helpers : ℕ) (clash c : Bool) → c ≡ (clash || clashing helpers (roles_of_atoms (facts_in words count)))
      → pick c 18 0 ≡ clash_number clash helpers (facts_as_read p sheet_width s)
  clash_is helpers clash c e =
      ap (λ b. pick b 18 0) (e ∙ ap (λ fs. clash || clashing helpers (roles_of_atoms fs)) (read.sheet.read refl))

  module _ (room terms helpers : ℕ) (clash : Bool) (union : UCQ) (list : List ℕ) (c : Bool)
      (e : c ≡ (clash || clashing helpers (roles_of_atoms (facts_in words count)))) where
    pub facts_clash : (r : Result ℕ Refusal) → c ≡ true → (r ≡ Err HelperAsRole) × (list ≡ replicate room 0)
        → GivesFromFacts p s union terms helpers clash room (number_in r) (count_in r) list
    facts_clash r t g =
        goes_on room (answers_of (facts_as_read p sheet_width s) union) (facts_number s) _ (number_in r) (count_in r) list
        read.sheet.number_is
        (gives_refused room (answers_of (facts_as_read p sheet_width s) union)
        (clash_number clash helpers (facts_as_read p sheet_width s)) _ HelperAsRole r list
        (ap (λ b. pick b 18 0) (sym t) ∙ clash_is helpers clash c e) g)

    pub facts_pass : (number given : ℕ) → c ≡ false → GivesAnswers (facts_in words count) union terms room number given list
        → GivesFromFacts p s union terms helpers clash room number given list
    facts_pass number given f g =
        goes_on room (answers_of (facts_as_read p sheet_width s) union) (facts_number s) _ number given list read.sheet.number_is
        (goes_on room (answers_of (facts_as_read p sheet_width s) union)
        (clash_number clash helpers (facts_as_read p sheet_width s)) _ number given list
        (ap (λ b. pick b 18 0) (sym f) ∙ clash_is helpers clash c e)
        (subst (λ fs. GivesAnswers fs union terms room number given list) (read.sheet.read refl) g))

-- ---- the union, as it was read

-- the first of five tests
abbrev first_of : Bool → Bool → Bool → Bool → Bool → Option ℕ
first_of a b c d e = first_refusal ((7, a) ∷ (8, b) ∷ (9, c) ∷ (10, d) ∷ (11, e) ∷ [])

-- no number, no refusal
check_passed : (rules : List Rule) (q : Query) (union : UCQ) → number_of (check rules q union) ≡ 0 → check rules q union ≡ none
unfolding check first_refusal number_of
check_passed rules q union =
    go (refuses7 rules q union) (refuses8 rules q union) (refuses9 rules q union) (refuses10 rules q union) (refuses11 rules q union)
  where
    go : (a b c d e : Bool)
        → number_of (first_of a b c d e) ≡ 0
        → first_of a b c d e ≡ none
    go true b c d e h = absurd (omega arith)
    go false true c d e h = absurd (omega arith)
    go false false true d e h = absurd (omega arith)
    go false false false true e h = absurd (omega arith)
    go false false false false true h = absurd (omega arith)
    go false false false false false h = refl

union_passed : (b : Bool) (k : ℕ) → pick b 6 k ≡ 0 → (¬ T b) × (k ≡ 0)
union_passed true k e = absurd (omega arith)
union_passed false k e = (λ t. t, e)

pub terms_few : (q : QueryWords) → Small q → q.terms ≤ 4
terms_few q small = small.few_terms

module _ (p : List ℕ) (rules : List Rule) (q : Query) (terms : ℕ) (s table : List ℕ) where
  pub union_refused : (refusal : Refusal) (count : ℕ) → MembersRead p rules q terms s table (code refusal) count
      → (facts : List ℕ) (helpers : ℕ) (clash : Bool) (room : ℕ) (r : Result ℕ Refusal) (list : List ℕ)
      → (r ≡ Err refusal) × (list ≡ replicate room 0)
      → GivesFromUnion p rules q terms s facts helpers clash room (number_in r) (count_in r) list
  union_refused refusal count read facts helpers clash room r list g =
      gives_refused room (answers_of (facts_as_read p sheet_width facts) (union_as_read p sheet_width s))
      (union_number p rules q terms s) _ refusal r list read.number_is g

  module _ (count : ℕ) (read : MembersRead p rules q terms s table 0 count) where
    pub members_there : Members table count terms
    members_there = read.members refl

    passed : (¬ T (refuses6 p sheet_width terms s)) × (number_of (check rules q (union_as_read p sheet_width s)) ≡ 0)
    passed = union_passed (refuses6 p sheet_width terms s) (number_of (check rules q (union_as_read p sheet_width s))) (sym read.number_is)

    pub safe_there : SafeMembers (union_in table count)
    safe_there = subst SafeMembers (sym (read.union_is refl))
        (record { each = λ m n. (sound_members p sheet_width terms s passed.0 m n).safe })

    pub accepted_there : Accepted rules q (union_in table count)
    accepted_there = subst (Accepted rules q) (sym (read.union_is refl))
        ((check_accepts rules q (union_as_read p sheet_width s)).0 (check_passed rules q (union_as_read p sheet_width s) passed.1))

    pub merges_there : MergesMade (union_in table count)
    merges_there = merges_made rules q (union_in table count) accepted_there

    pub union_passes : (facts : List ℕ) (helpers : ℕ) (clash : Bool) (room number given : ℕ) (list : List ℕ)
        → GivesFromFacts p facts (union_in table count) terms helpers clash room number given list
        → GivesFromUnion p rules q terms s facts helpers clash room number given list
    union_passes facts helpers clash room number given list g =
        goes_on room (answers_of (facts_as_read p sheet_width facts) (union_as_read p sheet_width s))
        (union_number p rules q terms s) _ number given list read.number_is
        (subst (λ u. GivesFromFacts p facts u terms helpers clash room number given list) (read.union_is refl) g)

pub ruleset fact_laws = (
  rules,
  rows_there,
  arity_there,
  constants_there,
  facts_refused,
  facts_few,
  facts_within,
  zeros_there,
  found_in_range,
  facts_clash,
  facts_pass,
)

pub ruleset union_laws = (rules, terms_few, members_there, safe_there, merges_there, union_refused, union_passes)
