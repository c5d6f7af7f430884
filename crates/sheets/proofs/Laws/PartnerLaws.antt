-- Reciprocal names: 01's table is its own inverse; reading twice is reading once; and what is said by a role reads as what is said
-- by its partner with the arguments exchanged.
use Rattle.std.specs.Prelude.{◌≡◌, ◌↔◌, ◌≢◌, ℕ, ◌≤◌, ◌<◌, not, List, [], ◌∷◌, T, eqb, ltb, length, get_or}
use Rattle.std.proofs.Math.Path.{refl, ap, ap₂}
use Rattle.std.proofs.Common.{sym, ◌∙◌, subst, arith}
use Rattle.std.proofs.Math.Logic.{inl, inr}
use Rattle.std.proofs.Math.Logic.Iff
use Rattle.std.proofs.Math.Bool.{Bool, true, false, xor, not-not}
use mathlib.Core.List.Memᴰ
use Rattle.std.proofs.Math.ListN.{get_or-eq_default}
use Rattle.theory.specs.Lists.{◌∈◌, pick, all, numbers}
use Rattle.theory.specs.Syntax.{Term, Atom, concept, role, Basic, named, has, has_inverse, Rule, concept_inclusion, role_inclusion, Query}
use Rattle.theory.specs.Syntax.{args, terms, oriented}
use Rattle.theory.specs.Qualified.{WrittenRule, plain, qualified}
use Rattle.theory.specs.Laws.Options.{T_no, either, is_true, is_false, T_eqb, pick_true, pick_false}
use Rattle.theory.specs.Laws.Lists.{all_iff, numbers_iff}
use Rattle.theory.proofs.Laws.Syntax.{terms_answers, terms_atoms, terms_cases}
use Rattle.sheets.specs.Partners.{partners01, is_higher, lower, atom_as_read, basic_as_read, rule_as_read, written_as_read, query_as_read}
use Rattle.sheets.proofs.Laws.Tests.{ltb_tells, lt_or_le}

-- a role's partner by a table; a role at or above the table's length is its own
abbrev pub partner_of : List ℕ → ℕ → ℕ
partner_of partners P = get_or partners P P

-- "A partner's partner is the role itself."
abbrev pub Involutive : List ℕ → Type 0
Involutive partners = (P : ℕ) → partner_of partners (partner_of partners P) ≡ P

-- a role at or above the table's length "has no partner"
pub no_partner : (partners : List ℕ) (P : ℕ) → length partners ≤ P → partner_of partners P ≡ P
no_partner partners P l = get_or-eq_default partners P l

-- the test of it, which only looks at the roles in the table
abbrev is_involutive : List ℕ → Bool
is_involutive partners = all (λ P. eqb (partner_of partners (partner_of partners P)) P) (numbers 0 (length partners))

by_test : (partners : List ℕ) → T (is_involutive partners) → Involutive partners
by_test partners t P =
    let inside = ltb_tells P (length partners) in
    elim (either (ltb P (length partners))) [
      | inl u ↦ (T_eqb _ _).0 ((all_iff (λ P. eqb (partner_of partners (partner_of partners P)) P) (numbers 0 (length partners))).0 t P
          ((numbers_iff (length partners) P).1 (inside.pass.0 u)))
      | inr f ↦ (let e : partner_of partners P ≡ P = no_partner partners P (inside.fail.0 ((T_no (ltb P (length partners))).1 f)) in
          ap (partner_of partners) e ∙ e)
    ]

pub partners01_involutive : Involutive partners01
unfolding partners01 all numbers
partners01_involutive = by_test partners01 tt

-- ---- Booleans

xor_false : (a : Bool) → xor a false ≡ a
unfolding xor
xor_false true = refl
xor_false false = refl

xor_not_left : (a b : Bool) → xor (not a) b ≡ not (xor a b)
unfolding xor
xor_not_left true true = refl
xor_not_left true false = refl
xor_not_left false true = refl
xor_not_left false false = refl

xor_not_right : (a b : Bool) → xor a (not b) ≡ not (xor a b)
unfolding xor
xor_not_right true true = refl
xor_not_right true false = refl
xor_not_right false true = refl
xor_not_right false false = refl

xor_not_both : (a b : Bool) → xor (not a) (not b) ≡ xor a b
xor_not_both a b = xor_not_left a (not b) ∙ ap not (xor_not_right a b) ∙ not-not (xor a b)

-- two exchanges, of the direction and of one side, cancel
flip_left : (e a b : Bool) {c : Bool} → c ≡ not a → xor (not e) (xor c b) ≡ xor e (xor a b)
flip_left e a b h = ap (λ c. xor (not e) (xor c b)) h ∙ ap (xor (not e)) (xor_not_left a b) ∙ xor_not_both e (xor a b)

flip_right : (e a b : Bool) {c : Bool} → c ≡ not b → xor (not e) (xor a c) ≡ xor e (xor a b)
flip_right e a b h = ap (λ c. xor (not e) (xor a c)) h ∙ ap (xor (not e)) (xor_not_right a b) ∙ xor_not_both e (xor a b)

pick_not : {X : Type 0} (b : Bool) (x y : X) → pick (not b) x y ≡ pick b y x
pick_not true x y = refl
pick_not false x y = refl

oriented_not : {X : Type 0} (b : Bool) (P : ℕ) (x y : X) → oriented (not b) P y x ≡ oriented b P x y
oriented_not true P x y = refl
oriented_not false P x y = refl

swap : {X : Type 0} {x y z : X} → x ∈ y ∷ z ∷ [] → x ∈ z ∷ y ∷ []
swap (Memᴰ.head e) = Memᴰ.tail (Memᴰ.head e)
swap (Memᴰ.tail m) = Memᴰ.head (Memᴰ.eq_of_singleton m)

-- ---- one role

module _ (partners : List ℕ) where
  -- the role is read as it stands
  abbrev pub Settled : ℕ → Type 0
  Settled P = (is_higher partners P ≡ false) × (lower partners P ≡ P)

  not_higher : (P : ℕ) → P ≤ partner_of partners P → Settled P
  unfolding lower is_higher
  not_higher P l =
      let f = (T_no (is_higher partners P)).0 ((ltb_tells (partner_of partners P) P).fail.1 l) in
      (is_false (is_higher partners P) f, pick_false (is_higher partners P) _ _ f)

  higher : (P : ℕ) → partner_of partners P < P → (is_higher partners P ≡ true) × (lower partners P ≡ partner_of partners P)
  unfolding lower is_higher
  higher P l =
      let t = (ltb_tells (partner_of partners P) P).pass.1 l in (is_true (is_higher partners P) t, pick_true (is_higher partners P) _ _ t)

  -- a role entered as its own partner, or with none, is "read unchanged"
  pub own_settled : (P : ℕ) → partner_of partners P ≡ P → Settled P
  own_settled P e = not_higher P (omega arith)

  -- a role that is its own lower is read as it stands, and no role is read as a higher one
  pub lower_own : (P : ℕ) → lower partners P ≡ P → Settled P
  lower_own P e = elim (lt_or_le (partner_of partners P) P) [
    | inl l ↦ absurd (let d : lower partners P ≡ partner_of partners P = (higher P l).1 in omega arith)
    | inr l ↦ not_higher P l
  ]

  pub lower_le : (P : ℕ) → lower partners P ≤ P
  lower_le P = elim (lt_or_le (partner_of partners P) P) [
    | inl l ↦ (let d : lower partners P ≡ partner_of partners P = (higher P l).1 in omega arith)
    | inr l ↦ (let d : lower partners P ≡ P = (not_higher P l).1 in omega arith)
  ]

  pub settled_atom : {X : Type 0} (P : ℕ) → Settled P → (x y : X) → atom_as_read partners (role P x y) ≡ role P x y
  unfolding atom_as_read
  settled_atom P s x y = ap₂ (λ h L. oriented h L x y) s.0 s.1

  pub settled_has : (P : ℕ) → Settled P → basic_as_read partners (has P) ≡ has P
  unfolding basic_as_read
  settled_has P s = ap₂ (λ h L. pick h (has_inverse L) (has L)) s.0 s.1

  pub settled_has_inverse : (P : ℕ) → Settled P → basic_as_read partners (has_inverse P) ≡ has_inverse P
  unfolding basic_as_read
  settled_has_inverse P s = ap₂ (λ h L. pick h (has L) (has_inverse L)) s.0 s.1

  pub settled_roles : (P Q : ℕ) → Settled P → Settled Q → rule_as_read partners (role_inclusion P false Q) ≡ role_inclusion P false Q
  unfolding rule_as_read
  settled_roles P Q s t =
      λ i. role_inclusion (s.1 i) (ap₂ (λ h k. xor false (xor h k)) s.0 t.0 i) (t.1 i)

  -- ---- reading moves terms within an atom, and takes none away and adds none

  pub args_as_read : {X : Type 0} (a : Atom X) {x : X} → (x ∈ args (atom_as_read partners a)) ↔ (x ∈ args a)
  unfolding atom_as_read
  args_as_read (concept A y) = Iff.rfl
  args_as_read (role P y z) {x} = elim (is_higher partners P) as (λ h. (x ∈ args (oriented h (lower partners P) y z)) ↔ (x ∈ y ∷ z ∷ [])) [
    | true ↦ (swap, swap)
    | false ↦ Iff.rfl
  ]

  pub terms_as_read : (q : Query) {t : Term} → (t ∈ terms (query_as_read partners q)) ↔ (t ∈ terms q)
  unfolding query_as_read
  terms_as_read q {t} = (
    λ m. elim (terms_cases (query_as_read partners q) m) [
      | inl n ↦ terms_answers q n
      | inr (a, n, k) ↦ (let (b, l, e) = Memᴰ.of_map (atom_as_read partners) q.atoms n in
          terms_atoms q l ((args_as_read b).0 (subst (λ c. t ∈ args c) (sym e) k)))
    ],
    λ m. elim (terms_cases q m) [
      | inl n ↦ terms_answers (query_as_read partners q) n
      | inr (a, n, k) ↦ terms_atoms (query_as_read partners q) (Memᴰ.map (atom_as_read partners) n) ((args_as_read a).1 k)
    ],
  )

module _ (partners : List ℕ) (involutive : Involutive partners) where
  -- what a role is read as is settled
  pub lower_settled : (P : ℕ) → Settled partners (lower partners P)
  lower_settled P = elim (lt_or_le (partner_of partners P) P) [
    | inl l ↦ (let i = involutive P in
        subst (Settled partners) (sym (higher partners P l).1) (not_higher partners (partner_of partners P) (omega arith)))
    | inr l ↦ (let s = not_higher partners P l in subst (Settled partners) (sym s.1) s)
  ]

  -- of two different partners one is the higher, and both are read as the same
  partner_other : (P : ℕ) → partner_of partners P ≢ P → (is_higher partners (partner_of partners P) ≡ not (is_higher partners P))
      × (lower partners (partner_of partners P) ≡ lower partners P)
  partner_other P d =
      let i = involutive P in
      elim (lt_or_le (partner_of partners P) P) [
        | inl l ↦ (let h = higher partners P l in let s = not_higher partners (partner_of partners P) (omega arith) in
            (s.0 ∙ ap not (sym h.0), s.1 ∙ sym h.1))
        | inr l ↦ (let s = not_higher partners P l in let h = higher partners (partner_of partners P) (omega arith) in
            (h.0 ∙ ap not (sym s.0), h.1 ∙ i ∙ sym s.1))
      ]

  -- ---- reading twice is reading once

  pub atom_as_read_again : {X : Type 0} (a : Atom X) → atom_as_read partners (atom_as_read partners a) ≡ atom_as_read partners a
  unfolding atom_as_read
  atom_as_read_again (concept A x) = refl
  atom_as_read_again (role P x y) =
      elim (is_higher partners P) as (λ h. atom_as_read partners (oriented h (lower partners P) x y) ≡ oriented h (lower partners P) x y) [
        | true ↦ settled_atom partners (lower partners P) (lower_settled P) y x
        | false ↦ settled_atom partners (lower partners P) (lower_settled P) x y
      ]

  pub basic_as_read_again : (B : Basic) → basic_as_read partners (basic_as_read partners B) ≡ basic_as_read partners B
  unfolding basic_as_read
  basic_as_read_again (named A) = refl
  basic_as_read_again (has P) =
      elim (is_higher partners P) as (λ h. basic_as_read partners (pick h (has_inverse (lower partners P)) (has (lower partners P)))
      ≡ pick h (has_inverse (lower partners P)) (has (lower partners P))) [
        | true ↦ settled_has_inverse partners (lower partners P) (lower_settled P)
        | false ↦ settled_has partners (lower partners P) (lower_settled P)
      ]
  basic_as_read_again (has_inverse P) =
      elim (is_higher partners P) as (λ h. basic_as_read partners (pick h (has (lower partners P)) (has_inverse (lower partners P)))
      ≡ pick h (has (lower partners P)) (has_inverse (lower partners P))) [
        | true ↦ settled_has partners (lower partners P) (lower_settled P)
        | false ↦ settled_has_inverse partners (lower partners P) (lower_settled P)
      ]

  pub rule_as_read_again : (r : Rule) → rule_as_read partners (rule_as_read partners r) ≡ rule_as_read partners r
  unfolding rule_as_read
  rule_as_read_again (concept_inclusion left right) = ap₂ concept_inclusion (basic_as_read_again left) (basic_as_read_again right)
  rule_as_read_again (role_inclusion P exchanged Q) =
      let flips : Bool = xor exchanged (xor (is_higher partners P) (is_higher partners Q)) in
      λ i. role_inclusion ((lower_settled P).1 i) ((ap₂ (λ h k. xor flips (xor h k)) (lower_settled P).0 (lower_settled Q).0
      ∙ xor_false flips) i) ((lower_settled Q).1 i)

  pub written_as_read_again : (w : WrittenRule) → written_as_read partners (written_as_read partners w) ≡ written_as_read partners w
  unfolding written_as_read
  written_as_read_again (plain rule) = ap plain (rule_as_read_again rule)
  written_as_read_again (qualified left exchanged P filler) =
      let turned : Bool = xor exchanged (is_higher partners P) in
      λ i. qualified (basic_as_read_again left i) ((ap (xor turned) (lower_settled P).0 ∙ xor_false turned) i)
      ((lower_settled P).1 i) filler

  -- ---- a role gives way to a partner other than itself

  pub atom_by_partner : {X : Type 0} (P : ℕ) → partner_of partners P ≢ P → (x y : X)
      → atom_as_read partners (role (partner_of partners P) y x)
      ≡ atom_as_read partners (role P x y)
  unfolding atom_as_read
  atom_by_partner P d x y =
      let other = partner_other P d in
      ap₂ (λ h L. oriented h L y x) other.0 other.1 ∙ oriented_not (is_higher partners P) (lower partners P) x y

  pub has_by_partner : (P : ℕ) → partner_of partners P ≢ P → basic_as_read partners (has_inverse (partner_of partners P))
      ≡ basic_as_read partners (has P)
  unfolding basic_as_read
  has_by_partner P d =
      let other = partner_other P d in
      ap₂ (λ h L. pick h (has L) (has_inverse L)) other.0 other.1
      ∙ pick_not (is_higher partners P) (has (lower partners P)) (has_inverse (lower partners P))

  pub has_inverse_by_partner : (P : ℕ) → partner_of partners P ≢ P → basic_as_read partners (has (partner_of partners P))
      ≡ basic_as_read partners (has_inverse P)
  unfolding basic_as_read
  has_inverse_by_partner P d =
      let other = partner_other P d in
      ap₂ (λ h L. pick h (has_inverse L) (has L)) other.0 other.1
      ∙ pick_not (is_higher partners P) (has_inverse (lower partners P)) (has (lower partners P))

  pub left_by_partner : (P : ℕ) (exchanged : Bool) (Q : ℕ) → partner_of partners P ≢ P
      → rule_as_read partners (role_inclusion (partner_of partners P) (not exchanged) Q)
      ≡ rule_as_read partners (role_inclusion P exchanged Q)
  unfolding rule_as_read
  left_by_partner P exchanged Q d =
      let other = partner_other P d in
      ap₂ (λ L e. role_inclusion L e (lower partners Q)) other.1
      (flip_left exchanged (is_higher partners P) (is_higher partners Q) other.0)

  -- 02, T-04: the role of a pair likewise
  pub qualified_by_partner : (left : Basic) (exchanged : Bool) (P filler : ℕ) → partner_of partners P ≢ P
      → written_as_read partners (qualified left (not exchanged) (partner_of partners P) filler)
      ≡ written_as_read partners (qualified left exchanged P filler)
  unfolding written_as_read
  qualified_by_partner left exchanged P filler d =
      let other = partner_other P d in
      ap₂ (λ L e. qualified (basic_as_read partners left) e L filler) other.1
      (ap (xor (not exchanged)) other.0 ∙ xor_not_both exchanged (is_higher partners P))

  pub right_by_partner : (P : ℕ) (exchanged : Bool) (Q : ℕ) → partner_of partners Q ≢ Q
      → rule_as_read partners (role_inclusion P (not exchanged) (partner_of partners Q))
      ≡ rule_as_read partners (role_inclusion P exchanged Q)
  unfolding rule_as_read
  right_by_partner P exchanged Q d =
      let other = partner_other Q d in
      ap₂ (λ L e. role_inclusion (lower partners P) e L) other.1
      (flip_right exchanged (is_higher partners P) (is_higher partners Q) other.0)
