-- What a rule sheet says that meets neither 2 nor 17: its records taken rule by rule, one of kind 1 or 2 or a pair (02, T-04), and how many
-- rules and helpers that makes.
use Rattle.std.specs.Prelude.{◌≡◌, refl, ◌⊎◌, ℕ, ◌+◌, ◌-◌, ◌<◌, Bool, true, false, not, ◌&&◌, T, eqb, ltb, length}
use Rattle.std.proofs.Common.{ap, inl, inr}
use Rattle.std.proofs.Math.Decide.{ℕ_discrete}
use native.Mathlib.Omega.{arith}
use mathlib.Core.List.{List, [], ◌∷◌, ◌++◌, map, flat_map}
use borrow.Author.Tests.{eq-eqb, ne_eqb}
use Rattle.theory.specs.Lists.{all, count}
use Rattle.theory.specs.Qualified.{WrittenRule, plain, placed_from, first_helper, rules_read, helpers_of}
use Rattle.theory.specs.Laws.Options.{T_and, T_or, T_eqb, is_true}
use Rattle.theory.proofs.Laws.QualifiedPlaces.{helpers_from, rules_from}
use Rattle.words.specs.Records.{
  rule_kind,
  left_form,
  right_form,
  is_rule,
  rule_in,
  rule_of,
  is_paired,
  kind3_forms,
  kind4_forms,
  pair_forms,
}
use Rattle.words.specs.Records.{qualified_in}
use Rattle.sheets.specs.Format.{rule_records, pairs_in, said_alone, said_by, written_in, written_of}
use Rattle.sheets.specs.Partners.{written_as_read}
use Rattle.sheets.specs.Reading.{rules_as_written, rules_as_read}
use Rattle.sheets.specs.Tests.{passes2, follows, pairs_sound}
use Rattle.sheets.specs.Laws.RuleSheets.{Pair}

-- ---- what is said

-- a record that is a rule by itself is of kind 1 or 2
pub rule_kind_lem : (x : ℕ) → T (is_rule x) → (rule_kind x ≡ 1) ⊎ (rule_kind x ≡ 2)
unfolding is_rule
rule_kind_lem x t = elim (ℕ_discrete (rule_kind x) 1) [
  | yes e ↦ inl e
  | no f ↦ inr
      (two (eqb (left_form x) 0) (ltb (right_form x) 2) (rw (ne_eqb (rule_kind x) 1 f) at t))
]
  where
    two : (a b : Bool) → T (eqb (rule_kind x) 2 && a && b) → rule_kind x ≡ 2
    two a b u = (T_eqb (rule_kind x) 2).0 ((T_and (eqb (rule_kind x) 2) a).0 ((T_and (eqb (rule_kind x) 2 && a) b).0 u).0).0

pub rule_not : (x k : ℕ) → T (is_rule x) → 2 < k → eqb (rule_kind x) k ≡ false
rule_not x k t l = ne_eqb (rule_kind x) k (λ e. elim (rule_kind_lem x t) [ inl d ↦ absurd (omega arith) | inr d ↦ absurd (omega arith) ])

said_rule : (x : ℕ) (rest : List ℕ) → T (is_rule x) → said_by x rest ≡ plain (rule_in x) ∷ []
unfolding said_by said_alone rule_of
said_rule x [] t = rw (is_true (is_rule x) t)
said_rule x (y ∷ rest) t = rw (is_true (is_rule x) t, rule_not x 3 t (omega arith))

-- a kind 4 says nothing more
said_filler : (y : ℕ) (rest : List ℕ) → rule_kind y ≡ 4 → said_by y rest ≡ []
unfolding said_by said_alone rule_of is_rule
said_filler y [] e = rw e
said_filler y (z ∷ rest) e = rw e

pub written_rule : (x : ℕ) (rest : List ℕ) → T (is_rule x) → written_in (x ∷ rest) ≡ plain (rule_in x) ∷ written_in rest
unfolding written_in
written_rule x rest t = ap (λ l. l ++ written_in rest) (said_rule x rest t)

pub written_pair : (x y : ℕ) (rest : List ℕ) → rule_kind x ≡ 3 → rule_kind y ≡ 4 → written_in (x ∷ y ∷ rest)
    ≡ qualified_in x y ∷ written_in rest
unfolding written_in said_by
written_pair x y rest a b =
    rw (eq-eqb (rule_kind x) 3 a, eq-eqb (rule_kind y) 4 b) (ap (λ l. qualified_in x y ∷ (l ++ written_in rest)) (said_filler y rest b))

-- ---- rule by rule

-- the first of records that meet neither 2 nor 17, where no kind 4 is waited for: a kind 3 with its kind 4, or a rule
pub sound_three : (x : ℕ) (rest : List ℕ) → T (pairs_sound false (x ∷ rest)) → rule_kind x ≡ 3
    → T (kind3_forms x) × T (pairs_sound true rest)
unfolding pairs_sound follows pair_forms
sound_three x rest t e =
    let s = (T_and (follows false x) (pairs_sound (eqb (rule_kind x) 3) rest)).0 t in
    let forms = ((T_and (not (eqb (rule_kind x) 4)) (pair_forms x)).0 s.0).1 in
    (rw (eq-eqb (rule_kind x) 3 e) at forms, rw (eq-eqb (rule_kind x) 3 e) at s.1)

pub sound_four : (y : ℕ) (rest : List ℕ) → T (pairs_sound true (y ∷ rest)) → (rule_kind y ≡ 4) × T (kind4_forms y)
    × T (pairs_sound false rest)
unfolding pairs_sound follows pair_forms
sound_four y rest t =
    let s = (T_and (follows true y) (pairs_sound (eqb (rule_kind y) 3) rest)).0 t in
    let f = (T_and (eqb (rule_kind y) 4) (pair_forms y)).0 s.0 in
    let e : rule_kind y ≡ 4 = (T_eqb (rule_kind y) 4).0 f.0 in
    (e, rw e at f.1, rw e at s.1)

pub sound_other : (x : ℕ) (rest : List ℕ) → T (pairs_sound false (x ∷ rest)) → T (passes2 x) → ¬ (rule_kind x ≡ 3)
    → T (is_rule x) × T (pairs_sound false rest)
unfolding pairs_sound follows passes2 is_paired
sound_other x rest t p f =
    let s = (T_and (follows false x) (pairs_sound (eqb (rule_kind x) 3) rest)).0 t in
    let four : T (not (eqb (rule_kind x) 4)) = ((T_and (not (eqb (rule_kind x) 4)) (pair_forms x)).0 s.0).0 in (
      elim ((T_or (is_paired x) (is_rule x)).0 p) [
        | inl k ↦ elim ((T_or (eqb (rule_kind x) 3) (eqb (rule_kind x) 4)).0 k) [
          | inl a ↦ absurd (f ((T_eqb (rule_kind x) 3).0 a))
          | inr a ↦ absurd (rw (is_true (eqb (rule_kind x) 4) a) at four)
        ]
        | inr r ↦ r
      ],
      rw (ne_eqb (rule_kind x) 3 f) at s.1,
    )

module _ (P : List ℕ → Type 0) (none : P []) (one : (x : ℕ) (rest : List ℕ) → T (is_rule x) → P rest → P (x ∷ rest))
    (pair : (x y : ℕ) (rest : List ℕ) → Pair x y → P rest → P (x ∷ y ∷ rest)) where
  -- what holds of no records and is kept by a rule and by a pair before them holds of every such sheet
  pub by_rules_lem : (rs : List ℕ) → T (all passes2 rs) → T (pairs_sound false rs) → P rs
  unfolding all pairs_sound
  by_rules_lem [] named sound = none
  by_rules_lem (x ∷ []) named sound = elim (ℕ_discrete (rule_kind x) 3) [
    | yes e ↦ absurd (sound_three x [] sound e).1
    | no f ↦ one x [] (sound_other x [] sound ((T_and (passes2 x) true).0 named).0 f).0 none
  ]
  by_rules_lem (x ∷ y ∷ rest) named sound =
      let now = (T_and (passes2 x) (all passes2 (y ∷ rest))).0 named in
      let next = (T_and (passes2 y) (all passes2 rest)).0 now.1 in
      elim (ℕ_discrete (rule_kind x) 3) [
        | yes e ↦ (let a = sound_three x (y ∷ rest) sound e in let b = sound_four y rest a.1 in
            pair x y rest (record { first = e; second = b.0; first_forms = a.0; second_forms = b.1 }) (by_rules_lem rest next.1 b.2))
        | no f ↦ (let a = sound_other x (y ∷ rest) sound now.0 f in one x (y ∷ rest) a.0 (by_rules_lem (y ∷ rest) now.1 a.1))
      ]

-- ---- how many

module _ (partners : List ℕ) where
  abbrev as_read : List ℕ → List WrittenRule
  as_read rs = map (written_as_read partners) (written_in rs)

  -- three rules as read for two records of a pair, and a helper for each
  abbrev Counted : List ℕ → Type 0
  Counted rs = (i H : ℕ) → (length (rules_from i H (as_read rs)) ≡ length rs + pairs_in rs)
      × (length (helpers_from i H (as_read rs)) ≡ pairs_in rs)

  counted : (rs : List ℕ) → T (all passes2 rs) → T (pairs_sound false rs) → Counted rs
  unfolding placed_from flat_map pairs_in written_in written_as_read count qualified_in
  counted =
      by_rules_lem Counted (λ i H. (refl, refl))
      (λ x rest t h i H.
      let b = h (i + 1) (H - 0) in
      rw (written_rule x rest t, rule_not x 3 t (omega arith)) (omega arith, b.1))
      (λ x y rest p h i H.
      let b = h (i + 3) (H - 1) in
      let a = p.first in
      let c = p.second in
      rw (written_pair x y rest a c, eq-eqb (rule_kind x) 3 a, c) (omega arith, omega arith))

  pub rules_counted : (w : ℕ) (s : List ℕ) → T (all passes2 (rule_records s)) → T (pairs_sound false (rule_records s))
      → length (rules_as_read partners w s) ≡ length (rule_records s) + pairs_in (rule_records s)
  unfolding rules_as_read rules_read rules_as_written written_of
  rules_counted w s named sound = (counted (rule_records s) named sound 0 first_helper).0

  pub helpers_counted : (w : ℕ) (s : List ℕ) → T (all passes2 (rule_records s)) → T (pairs_sound false (rule_records s))
      → length (helpers_of (rules_as_written partners w s)) ≡ pairs_in (rule_records s)
  unfolding helpers_of rules_as_written written_of
  helpers_counted w s named sound = (counted (rule_records s) named sound 0 first_helper).1
