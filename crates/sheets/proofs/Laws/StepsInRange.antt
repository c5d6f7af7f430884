-- Questions and members that were read are in range, with roles as read; and so is all that steps make of them.
use Rattle.std.proofs.Math.Path.{◌≡◌, refl, ap, subst}
use Rattle.std.proofs.Common.{sym, ◌∙◌, inl, inr}
use Rattle.std.proofs.Math.Logic.Iff
use Rattle.std.specs.Prelude.{ℕ, ◌*◌, ◌+◌, ◌/◌, ◌%◌, ◌^◌, ◌≤◌, ◌<◌, Bool, T, eqb}
use Rattle.std.proofs.Math.Nat.{mod-lt}
use Rattle.std.proofs.Math.Decide.{ℕ_discrete, dec_lt}
use native.Mathlib.Omega.{arith}
use Rattle.std.proofs.Math.Bool.{true, false}
use Rattle.std.proofs.Math.Option.{none}
use mathlib.Core.List.Memᴰ
use mathlib.Core.List.{List, [], ◌∷◌, map, map-id}
use Rattle.std.proofs.Math.ListN.{length, length-map}
use Rattle.theory.specs.Lists.{◌∈◌, pick}
use Rattle.theory.specs.Refusals.{first_refusal}
use Rattle.theory.specs.Syntax.{Term, var, const, Atom, concept, role, Basic, named, has, has_inverse, Rule, concept_inclusion}
use Rattle.theory.specs.Syntax.{role_inclusion, Query, Step, Member, UCQ, args, oriented, terms}
use Rattle.theory.specs.Rewriting.{fresh, StepTo}
use Rattle.theory.specs.Union.{SoundQuery, Yields}
use Rattle.theory.specs.Laws.Lists.{map_agree, numbered_length, at_mem}
use Rattle.theory.proofs.Laws.Syntax.{terms_atoms, terms_answers, terms_cases}
use Rattle.theory.specs.Laws.Refusals.{no_refusal_iff}
use Rattle.theory.proofs.Laws.Pigeonhole.{fresh_small, terms_few}
use Rattle.theory.proofs.Laws.Rules.{AtomOf, BasicOf, LeftOf}
use Rattle.theory.proofs.Laws.StepShape.{step_arity, step_few, step_some, step_keeps}
use Rattle.theory.proofs.Laws.WrittenStep.{yields_step}
use Rattle.words.specs.Limits.{variable_bound, most_terms, most_atoms, answer_bytes, record_bytes}
use Rattle.words.specs.Records.{term_of, atom_kind}
use Rattle.words.specs.Records.{atom_name, atom_first, atom_second, atom_of}
use Rattle.sheets.specs.Bits.{number_at}
use Rattle.sheets.specs.Conditions.{CountOut, VariableOut}
use Rattle.sheets.specs.Format.{term_count, atom_count, answer_records, atom_records, query_at, question_start, member_at}
use Rattle.sheets.specs.Partners.{is_higher, lower, atom_as_read, basic_as_read, rule_as_read, query_as_read, member_as_read}
use Rattle.sheets.specs.Reading.{question_as_read, union_as_read}
use Rattle.sheets.specs.Tests.{refuses3, refuses4, refuses5, refuses6}
use Rattle.sheets.specs.Refusals.{question_refusals}
use Rattle.sheets.specs.Packing.{name_of, All, IsName, RuleInRange, RulesInRange, TermInRange, AtomInRange, QueryInRange}
use Rattle.sheets.proofs.Laws.PackingNumbers.{pow_pos}
use Rattle.sheets.proofs.Laws.PartnerLaws.{Involutive, Settled, lower_own, lower_le, settled_atom, atom_as_read_again}
use Rattle.sheets.proofs.Laws.QuestionRefusals.{refuses3_iff, not4_safe, not5_unrepeated}
use Rattle.sheets.proofs.Laws.UnionRefusals.{member_numbered, not6_iff}

-- ---- steps stay in range

-- the fresh variable of a question in range is one too: at most 4 answer terms and twice 8 places are taken
pub fresh_in_range : (w : ℕ) (q : Query) → QueryInRange w q → fresh q < variable_bound
fresh_in_range w q h =
    let few : length q.answers ≤ most_terms = h.few_answers in
    let small : length q.atoms ≤ most_atoms = h.few_atoms in
    let low : fresh q ≤ length (terms q) = fresh_small q in
    let places : length (terms q) ≤ length q.answers + 2 * length q.atoms = terms_few q in
    omega arith

basic_named : (B : Basic) → IsName (name_of B) → BasicOf IsName IsName B
basic_named (named A) h = h
basic_named (has P) h = h
basic_named (has_inverse P) h = h

left_named : (rule : Rule) → RuleInRange rule → LeftOf IsName IsName rule
left_named (concept_inclusion left right) h = basic_named left h.0
left_named (role_inclusion P exchanged Q) h = h.0

module _ (w : ℕ) where
  atom_named : (a : Atom Term) → AtomInRange w a → AtomOf IsName IsName (TermInRange w) a
  atom_named (concept A t) h = h
  atom_named (role P t u) h = h

  named_atom : (a : Atom Term) → AtomOf IsName IsName (TermInRange w) a → AtomInRange w a
  named_atom (concept A t) h = h
  named_atom (role P t u) h = h

  pub step_in_range : (rules : List Rule) (q r : Query) → RulesInRange rules → QueryInRange w q → StepTo rules q r → QueryInRange w r
  step_in_range rules q r rs h step =
      let kept = step_keeps IsName IsName (TermInRange w) rules q r (λ rule m. left_named rule (rs.1 rule m)) (fresh_in_range w q h)
      (h.answers_in, λ a m. atom_named a (h.atoms_in a m)) step in
      let arity : length r.answers ≡ length q.answers = step_arity rules q r step in
      let few : length r.atoms ≤ length q.atoms = step_few rules q r step in
      let a : length q.answers ≤ most_terms = h.few_answers in
      let b : length q.atoms ≤ most_atoms = h.few_atoms in
      record {
        few_answers = omega arith;
        some_atom = step_some rules q r step h.some_atom;
        few_atoms = omega arith;
        answers_in = kept.0;
        atoms_in = λ a m. named_atom a (kept.1 a m);
      }

  -- what a written step yields is in range where the members are
  pub yield_in_range : (rules : List Rule) (union : UCQ) → RulesInRange rules → ((m : Member) → m ∈ union → QueryInRange w m.query)
      → (k : ℕ) (s : Step) (r : Query) → Yields rules union k s r → QueryInRange w r
  yield_in_range rules union rs members k s r y =
      step_in_range rules y.1.query r rs (members y.1 (at_mem union s.parent y.2)) (yields_step rules union k s y)

  -- the variables of a question in range are 0 to 31
  pub variables_low : (q : Query) → QueryInRange w q → (v : ℕ) → var v ∈ terms q → v < variable_bound
  variables_low q h v m = elim (terms_cases q m) [ inl k ↦ h.answers_in (var v) k | inr (a, k, n) ↦ in_atom a (h.atoms_in a k) n ]
    where
      in_atom : (a : Atom Term) → AtomInRange w a → var v ∈ args a → v < variable_bound
      in_atom (concept A t) i n = subst (TermInRange w) (sym (Memᴰ.eq_of_singleton n)) i.1
      in_atom (role P t u) i n =
          elim (Memᴰ.cases_cons n) [
            | inl e ↦ subst (TermInRange w) (sym e) i.1
            | inr l ↦ subst (TermInRange w) (sym (Memᴰ.eq_of_singleton l)) i.2
          ]

-- ---- what a record says is in range, whatever bytes it has: names and objects are fields of as many bits

module _ (w : ℕ) where
  term_in : (t : ℕ) → ((v : ℕ) → term_of w t ≡ var v → v < variable_bound) → TermInRange w (term_of w t)
  unfolding term_of
  term_in t low = cases (eqb (t / 2 ^ w) 0) low
    where
      cases : (b : Bool) → ((v : ℕ) → pick b (var (t % 2 ^ w)) (const (t % 2 ^ w)) ≡ var v → v < variable_bound)
          → TermInRange w (pick b (var (t % 2 ^ w)) (const (t % 2 ^ w)))
      cases true low = low (t % 2 ^ w) refl
      cases false low = mod-lt t (pow_pos w)

  atom_in : (x : ℕ) → ((v : ℕ) → var v ∈ args (atom_of w x) → v < variable_bound) → AtomInRange w (atom_of w x)
  unfolding atom_of
  atom_in x low = cases (eqb (atom_kind w x) 0) low
    where
      name : IsName (atom_name w x)
      name = mod-lt (x / 2 ^ (2 * w + 2)) (pow_pos 12)

      cases : (b : Bool)
          → ((v : ℕ) → var v ∈ args (pick b (concept (atom_name w x) (term_of w (atom_first w x)))
          (role (atom_name w x) (term_of w (atom_first w x)) (term_of w (atom_second w x)))) → v < variable_bound)
          → AtomInRange w (pick b (concept (atom_name w x) (term_of w (atom_first w x)))
          (role (atom_name w x) (term_of w (atom_first w x)) (term_of w (atom_second w x))))
      cases true low = (name, term_in (atom_first w x) (λ v e. low v (Memᴰ.head (sym e))))
      cases false low = (
        name,
        term_in (atom_first w x) (λ v e. low v (Memᴰ.head (sym e))),
        term_in (atom_second w x) (λ v e. low v (Memᴰ.tail (Memᴰ.head (sym e)))),
      )

  query_in : (s : List ℕ) (at : ℕ) → ¬ CountOut s at → ¬ VariableOut w s at → QueryInRange w (query_at w s at)
  unfolding query_at
  query_in s at counts low =
      let q : Query = query_at w s at in
      let terms_are : length q.answers ≡ term_count s at = length-map (answer_records w s at) (term_of w)
      ∙ numbered_length (λ i. number_at s (at + 1 + answer_bytes w * i) (answer_bytes w)) (term_count s at) in
      let atoms_are : length q.atoms ≡ atom_count s at = length-map (atom_records w s at) (atom_of w)
      ∙ numbered_length (λ i. number_at s (at + 1 + answer_bytes w * term_count s at + record_bytes w * i) (record_bytes w))
      (atom_count s at) in
      let below : (v : ℕ) → var v ∈ terms q → v < variable_bound =
      λ v m. elim (dec_lt v variable_bound) [ yes l ↦ l | no f ↦ absurd (low (v, m, omega arith)) ] in
      record {
        few_answers = elim (dec_lt most_terms (term_count s at)) [ yes l ↦ absurd (counts (inl l)) | no f ↦ omega arith ];
        some_atom = elim (ℕ_discrete (atom_count s at) 0) [ yes e ↦ absurd (counts (inr (inl e))) | no f ↦ omega arith ];
        few_atoms = elim (dec_lt most_atoms (atom_count s at)) [ yes l ↦ absurd (counts (inr (inr l))) | no f ↦ omega arith ];
        answers_in = λ t m. (let (x, k, e) = Memᴰ.of_map (term_of w) (answer_records w s at) m in
            subst (TermInRange w) e (term_in x (λ v d. below v (terms_answers q (Memᴰ.cast (sym (sym e ∙ d)) m)))));
        atoms_in = λ a m. (let (x, k, e) = Memᴰ.of_map (atom_of w) (atom_records w s at) m in
            subst (AtomInRange w) e (atom_in x (λ v n. below v (terms_atoms q m (subst (λ (b : Atom Term). var v ∈ args b) e n)))));
      }

-- ---- steps keep roles as read

module _ (partners : List ℕ) where
  -- an atom, a rule that reads as it stands
  abbrev pub AtomStands : Atom Term → Type 0
  AtomStands a = atom_as_read partners a ≡ a

  abbrev pub RuleStands : Rule → Type 0
  RuleStands rule = rule_as_read partners rule ≡ rule

  abbrev Any : {X : Type 0} → X → Type 0
  Any x = Unit {0}

  atom_settled : (a : Atom Term) → AtomStands a → AtomOf Any (Settled partners) Any a
  unfolding atom_as_read
  atom_settled (concept A t) e = (tt, tt)
  atom_settled (role P t u) e = (lower_own partners P (go (is_higher partners P) e), tt, tt)
    where
      go : (b : Bool) → oriented b (lower partners P) t u ≡ role P t u → lower partners P ≡ P
      go true e = cc
      go false e = cc

  settled_stands : (a : Atom Term) → AtomOf Any (Settled partners) Any a → AtomStands a
  unfolding atom_as_read
  settled_stands (concept A t) h = refl
  settled_stands (role P t u) h = settled_atom partners P h.0 t u

  basic_settled : (B : Basic) → basic_as_read partners B ≡ B → BasicOf Any (Settled partners) B
  unfolding basic_as_read
  basic_settled (named A) e = tt
  basic_settled (has P) e = lower_own partners P (go (is_higher partners P) e)
    where
      go : (b : Bool) → pick b (has_inverse (lower partners P)) (has (lower partners P)) ≡ has P → lower partners P ≡ P
      go true e = absurd (let z : ◌≡◌ {A = ℕ} 0 1 = cc in omega arith)
      go false e = cc
  basic_settled (has_inverse P) e = lower_own partners P (go (is_higher partners P) e)
    where
      go : (b : Bool) → pick b (has (lower partners P)) (has_inverse (lower partners P)) ≡ has_inverse P → lower partners P ≡ P
      go true e = absurd (let z : ◌≡◌ {A = ℕ} 0 1 = cc in omega arith)
      go false e = cc

  left_settled : (rule : Rule) → RuleStands rule → LeftOf Any (Settled partners) rule
  unfolding rule_as_read
  left_settled (concept_inclusion left right) e = let d : basic_as_read partners left ≡ left = cc in basic_settled left d
  left_settled (role_inclusion P exchanged Q) e = let d : lower partners P ≡ P = cc in lower_own partners P d

  pub step_as_read : (rules : List Rule) (q r : Query) → All RuleStands rules → All AtomStands q.atoms → StepTo rules q r
      → All AtomStands r.atoms
  step_as_read rules q r rs h step a m =
      settled_stands a
      ((step_keeps Any (Settled partners) Any rules q r (λ rule k. left_settled rule (rs rule k)) tt
      (λ t k. tt, λ c k. atom_settled c (h c k)) step).1 a m)

  -- a question, a member whose atoms read as they stand is read as it stands
  pub query_as_read_lem : (q : Query) → All AtomStands q.atoms → query_as_read partners q ≡ q
  unfolding query_as_read
  query_as_read_lem q h =
      ap (λ (atoms : List (Atom Term)). record { answers = q.answers; atoms = atoms })
      (map_agree (atom_as_read partners) (λ a. a) q.atoms h ∙ map-id q.atoms)

  pub member_as_read_lem : (m : Member) → All AtomStands m.query.atoms → member_as_read partners m ≡ m
  unfolding member_as_read
  member_as_read_lem m h = ap (λ (q : Query). record { step = m.step; query = q }) (query_as_read_lem m.query h)

  -- ---- what was read is in range: a role is never read as a higher one, so this asks nothing of the table

  lower_name : (P : ℕ) → IsName P → IsName (lower partners P)
  lower_name P h = let l : lower partners P ≤ P = lower_le partners P in omega arith

  atom_read_in : (w : ℕ) (a : Atom Term) → AtomInRange w a → AtomInRange w (atom_as_read partners a)
  unfolding atom_as_read
  atom_read_in w (concept A t) h = h
  atom_read_in w (role P t u) h =
      elim (is_higher partners P) as (λ b. AtomInRange w (oriented b (lower partners P) t u)) [
        | true ↦ (lower_name P h.0, h.2, h.1)
        | false ↦ (lower_name P h.0, h.1, h.2)
      ]

  -- a question at any place of a sheet, if it has no count and no variable out of range
  query_read_in : (w : ℕ) (s : List ℕ) (at : ℕ) → ¬ CountOut s at → ¬ VariableOut w s at
      → QueryInRange w (query_as_read partners (query_at w s at))
  unfolding query_as_read
  query_read_in w s at counts low =
      let h = query_in w s at counts low in
      let size : length (map (atom_as_read partners) (query_at w s at).atoms) ≡ length (query_at w s at).atoms =
      length-map (query_at w s at).atoms (atom_as_read partners) in
      record {
        few_answers = h.few_answers;
        some_atom = rw size h.some_atom;
        few_atoms = rw size h.few_atoms;
        answers_in = h.answers_in;
        atoms_in =
            λ a m. (let (b, k, e) = Memᴰ.of_map (atom_as_read partners) (query_at w s at).atoms m in
            subst (AtomInRange w) e (atom_read_in w b (h.atoms_in b k)));
      }

  pub question_read_in : (w : ℕ) (s : List ℕ) → ¬ T (refuses3 w s) → QueryInRange w (question_as_read partners w s)
  unfolding question_as_read
  question_read_in w s not3 =
      query_read_in w s 0 (λ c. not3 ((refuses3_iff w s).1 (inl c))) (λ v. not3 ((refuses3_iff w s).1 (inr (inr (inl v)))))

  -- and so is every member of a union that does not meet 6
  pub members_read_in : (w arity : ℕ) (s : List ℕ) → ¬ T (refuses6 partners w arity s) → (m : Member) → m ∈ union_as_read partners w s
      → QueryInRange w m.query
  unfolding member_as_read member_at
  members_read_in w arity s not6 m k =
      let (j, l, e) = member_numbered partners w s m k in
      let ok = (((not6_iff partners w arity s).0 not6).3 j l).0 in
      subst (λ (n : Member). QueryInRange w n.query) e
      (query_read_in w s (question_start w s j) (λ c. ok (inl c)) (λ v. ok (inr (inr v))))

  -- ---- what was read reads as it stands

  module _ (involutive : Involutive partners) (w : ℕ) (s : List ℕ) where
    pub question_read_stands : All AtomStands (question_as_read partners w s).atoms
    unfolding question_as_read query_as_read
    question_read_stands a m =
        let (b, k, e) = Memᴰ.of_map (atom_as_read partners) (query_at w s 0).atoms m in
        subst AtomStands e (atom_as_read_again partners involutive b)

-- ---- sheets that are not refused

pub question_unrefused : (partners : List ℕ) (w : ℕ) (s : List ℕ) → first_refusal (question_refusals partners w s) ≡ none
    → (¬ T (refuses3 w s)) × (¬ T (refuses4 (question_as_read partners w s))) × (¬ T (refuses5 (question_as_read partners w s)))
unfolding question_refusals
question_unrefused partners w s e =
    let q : Query = question_as_read partners w s in
    let n = (no_refusal_iff (question_refusals partners w s)
    ((3, T (refuses3 w s)) ∷ (4, T (refuses4 q)) ∷ (5, T (refuses5 q)) ∷ [])
    (refl, Iff.rfl, (refl, Iff.rfl, (refl, Iff.rfl, tt)))).0 e in
    (n.0, n.1.0, n.1.1.0)

-- a question that meets neither 4 nor 5 is sound
pub sound_question : (q : Query) → ¬ T (refuses4 q) → ¬ T (refuses5 q) → SoundQuery (length q.answers) q
sound_question q not4 not5 = record { distinct = not5_unrepeated q not5; safe = not4_safe q not4; arity_is = refl }
