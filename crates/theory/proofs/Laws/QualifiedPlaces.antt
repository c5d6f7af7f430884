-- Rules as written in their sheet: which helpers are in use, where helpers may not stand, and which written rule a rule as read comes from.
use Rattle.std.specs.Prelude.{◌≡◌, refl, ◌⊎◌, ◌↔◌, ℕ, zero, suc, ◌+◌, ◌-◌, ◌*◌, ◌≤◌, ◌<◌, T, eqb}
use Rattle.std.proofs.Common.{sym, ap, ◌∙◌, subst, inl, inr, zero-le}
use Rattle.std.proofs.Math.Decide.{ℕ_discrete}
use native.Mathlib.Omega.{arith}
use mathlib.Core.List.Memᴰ
use mathlib.Core.List.{List, [], ◌∷◌, ◌++◌, map, flat_map}
use Rattle.std.proofs.Math.ListN.{length, get_elem?}
use Rattle.theory.specs.Lists.{◌∈◌, At, Unrepeated, any}
use Rattle.theory.specs.Syntax.{Rule}
use Rattle.theory.specs.Qualified.{WrittenRule, plain, qualified, read_as, helper_in, first_helper, next_index, next_helper, PlacedRule}
use Rattle.theory.specs.Qualified.{placed_from, placed_rules}
use Rattle.theory.specs.Qualified.{rules_read, helpers_of, Meets18, refuses18}
use Rattle.theory.specs.Laws.Options.{T_eqb, none≢some}
use Rattle.theory.specs.Laws.Lists.{here, any_iff, any_same, flat_map_of, at_append}

-- ---- the helpers in use

-- the helpers and the rules as read from some index and helper on
abbrev pub helpers_from : ℕ → ℕ → List WrittenRule → List ℕ
helpers_from i H ws = flat_map (λ p. helper_in p.helper p.rule) (placed_from i H ws)

abbrev pub rules_from : ℕ → ℕ → List WrittenRule → List Rule
rules_from i H ws = flat_map (λ p. read_as p.helper p.rule) (placed_from i H ws)

-- three rules as read for each helper
few_from : (i H : ℕ) (ws : List WrittenRule) → 3 * length (helpers_from i H ws) ≤ length (rules_from i H ws)
unfolding placed_from flat_map
few_from i H [] = zero-le
few_from i H (plain rule ∷ ws) =
    let h : 3 * length (helpers_from (next_index i H (plain rule)) (next_helper H (plain rule)) ws) ≤ length
    (rules_from (next_index i H (plain rule)) (next_helper H (plain rule)) ws) =
    few_from (next_index i H (plain rule)) (next_helper H (plain rule)) ws in omega arith
few_from i H (qualified left exchanged P filler ∷ ws) =
    let h : 3 * length (helpers_from (next_index i H (qualified left exchanged P filler))
    (next_helper H (qualified left exchanged P filler)) ws) ≤ length
    (rules_from (next_index i H (qualified left exchanged P filler)) (next_helper H (qualified left exchanged P filler)) ws) =
    few_from (next_index i H (qualified left exchanged P filler)) (next_helper H (qualified left exchanged P filler)) ws in omega arith

-- so many helpers fall from H on, and every number on the way is one
from_found : (i H : ℕ) (ws : List WrittenRule) (P : ℕ) → P ∈ helpers_from i H ws → (P ≤ H) × (H < P + length (helpers_from i H ws))
unfolding placed_from flat_map
from_found i H [] P m = absurd (Memᴰ.not-nil m)
from_found i H (plain rule ∷ ws) P m = let b = from_found (next_index i H (plain rule)) (next_helper H (plain rule)) ws P m in
    (omega arith, omega arith)
from_found i H (qualified left exchanged Q filler ∷ ws) P m =
    elim (Memᴰ.cases_cons m) [
      | inl e ↦ (omega arith, omega arith)
      | inr n ↦ (let b = from_found (next_index i H (qualified left exchanged Q filler))
          (next_helper H (qualified left exchanged Q filler)) ws P n in (omega arith, omega arith))
    ]

from_of : (i H : ℕ) (ws : List WrittenRule) (P : ℕ) → P ≤ H → H < P + length (helpers_from i H ws) → P ∈ helpers_from i H ws
unfolding placed_from flat_map
from_of i H [] P h k = absurd (omega arith)
from_of i H (plain rule ∷ ws) P h k = from_of (next_index i H (plain rule)) (next_helper H (plain rule)) ws P (omega arith) (omega arith)
from_of i H (qualified left exchanged Q filler ∷ ws) P h k =
    elim (ℕ_discrete P H) [
      | yes e ↦ Memᴰ.head e
      | no d ↦ Memᴰ.tail (from_of (next_index i H (qualified left exchanged Q filler))
          (next_helper H (qualified left exchanged Q filler)) ws P (omega arith) (omega arith))
    ]

-- where they do not fall below 0 they differ
from_distinct : (i H : ℕ) (ws : List WrittenRule) → length (helpers_from i H ws) ≤ suc H → Unrepeated (helpers_from i H ws)
unfolding placed_from flat_map
from_distinct i H [] h = tt
from_distinct i H (plain rule ∷ ws) h = from_distinct (next_index i H (plain rule)) (next_helper H (plain rule)) ws (omega arith)
from_distinct i H (qualified left exchanged Q filler ∷ ws) h = (
  λ m. let b = from_found (next_index i H (qualified left exchanged Q filler))
      (next_helper H (qualified left exchanged Q filler)) ws H m in omega arith,
  from_distinct (next_index i H (qualified left exchanged Q filler)) (next_helper H (qualified left exchanged Q filler)) ws (omega arith),
)

-- at most a third as many helpers as rules as read
pub helpers_few : (ws : List WrittenRule) → 3 * length (helpers_of ws) ≤ length (rules_read ws)
unfolding helpers_of rules_read
helpers_few ws = few_from 0 first_helper ws

-- up to 512 rules as read the helpers differ, and are exactly so many numbers from 4,095 down
module _ (ws : List WrittenRule) (few : length (rules_read ws) ≤ 512) where
  pub few_helpers_distinct : Unrepeated (helpers_of ws)
  unfolding helpers_of
  few_helpers_distinct =
      let h : 3 * length (helpers_of ws) ≤ length (rules_read ws) = helpers_few ws in
      from_distinct 0 first_helper ws (omega arith)

  pub helper_iff : (P : ℕ) → (P ∈ helpers_of ws) ↔ ((first_helper + 1 - length (helpers_of ws) ≤ P) × (P ≤ first_helper))
  unfolding helpers_of
  helper_iff P =
      let h : 3 * length (helpers_of ws) ≤ length (rules_read ws) = helpers_few ws in (
        λ m. let b = from_found 0 first_helper ws P m in (omega arith, b.0),
        λ b. from_of 0 first_helper ws P b.1 (omega arith),
      )

-- 18: the test finds a helper among the roles exactly where one stands there
pub refuses18_iff : (ws : List WrittenRule) (roles : List ℕ) → T (refuses18 ws roles) ↔ Meets18 ws roles
unfolding refuses18
refuses18_iff ws roles = (
  λ t. let w = (any_iff (λ P. any (eqb P) (helpers_of ws)) roles).0 t in (w.0, (any_same eqb T_eqb w.0 (helpers_of ws)).0 w.2, w.1),
  λ w. (any_iff (λ P. any (eqb P) (helpers_of ws)) roles).1 (w.0, w.2, (any_same eqb T_eqb w.0 (helpers_of ws)).1 w.1),
)

-- ---- which written rule a rule as read comes from

module _ {X : Type 0} where
  -- what stands in two lists, one after the other, stands in the first or in the second
  at_either : (xs ys : List X) (j : ℕ) {x : X} → At (xs ++ ys) j x → At xs j x ⊎ ((k : ℕ) × (j ≡ length xs + k) × At ys k x)
  at_either [] ys j e = inr (j, omega arith, e)
  at_either (y ∷ xs) ys zero e = inl e
  at_either (y ∷ xs) ys (suc j) e = elim (at_either xs ys j e) [ inl f ↦ inl f | inr w ↦ inr (w.0, omega arith, w.2) ]

  at_second : (xs ys : List X) (j k : ℕ) {x : X} → j ≡ length xs + k → At ys k x → At (xs ++ ys) j x
  at_second [] ys j k e h = let d : j ≡ k = omega arith in ap (get_elem? ys) d ∙ h
  at_second (y ∷ xs) ys zero k e h = absurd (omega arith)
  at_second (y ∷ xs) ys (suc j) k e h = at_second xs ys j k (omega arith) h

  -- where two lists, one after the other, have no element again, the second has none of the first
  unrepeated_second : (xs ys : List X) → Unrepeated (xs ++ ys) → Unrepeated ys
  unrepeated_second [] ys u = u
  unrepeated_second (x ∷ xs) ys u = unrepeated_second xs ys u.1

  unrepeated_apart : {x : X} {xs : List X} (ys : List X) → Unrepeated (xs ++ ys) → x ∈ xs → ¬ (x ∈ ys)
  unrepeated_apart ys u (Memᴰ.head {xs = xs} e) n = u.0 (Memᴰ.append_right xs (Memᴰ.cast (sym e) n))
  unrepeated_apart ys u (Memᴰ.tail m) n = unrepeated_apart ys u.1 m n

-- where lists, one after the other, have no element again, an element stands in the list of one place only
one_place : {X Y : Type 0} (f : X → List Y) (xs : List X) {x x' : X} {y : Y} → Unrepeated (flat_map f xs) → x ∈ xs → x' ∈ xs → y ∈ f x
    → y ∈ f x' → x ≡ x'
unfolding flat_map
one_place f [] u m m' n n' = absurd (Memᴰ.not-nil m)
one_place f (z ∷ zs) {y = y} u m m' n n' =
    elim (Memᴰ.cases_cons m) [
      | inl e ↦ elim (Memᴰ.cases_cons m') [
        | inl e' ↦ e ∙ sym e'
        | inr k' ↦ absurd (unrepeated_apart (flat_map f zs) u (subst (λ x. y ∈ f x) e n) (flat_map_of f k' n'))
      ]
      | inr k ↦ elim (Memᴰ.cases_cons m') [
        | inl e' ↦ absurd (unrepeated_apart (flat_map f zs) u (subst (λ x. y ∈ f x) e' n') (flat_map_of f k n))
        | inr k' ↦ one_place f zs (unrepeated_second (f z) (flat_map f zs) u) k k' n n'
      ]
    ]

-- the rule at index d of those that a placed rule is read as stands d after its index
abbrev pub ComesFrom : List PlacedRule → ℕ → Rule → Type 0
ComesFrom ps j r = (p : PlacedRule) × (p ∈ ps) × (d : ℕ) × (j ≡ p.index + d) × At (read_as p.helper p.rule) d r

from_read : (i H : ℕ) (ws : List WrittenRule) (j : ℕ) {r : Rule} → At (rules_from i H ws) j r → ComesFrom (placed_from i H ws) (i + j) r
unfolding placed_from flat_map
from_read i H [] j e = absurd (none≢some e)
from_read i H (w ∷ ws) j {r} e =
    elim (at_either (read_as H w) (rules_from (i + length (read_as H w)) (H - length (helper_in H w)) ws) j e) [
      | inl h ↦ (record { index = i; helper = H; rule = w }, here, j, refl, h)
      | inr k ↦ (let s = from_read (i + length (read_as H w)) (H - length (helper_in H w)) ws k.0 k.2 in
          (s.0, Memᴰ.tail s.1, s.2, omega arith, s.4))
    ]

read_from : (i H : ℕ) (ws : List WrittenRule) {p : PlacedRule} (d : ℕ) {r : Rule} → p ∈ placed_from i H ws
    → At (read_as p.helper p.rule) d r → (j : ℕ) × (i + j ≡ p.index + d) × At (rules_from i H ws) j r
unfolding placed_from flat_map
read_from i H [] d m h = absurd (Memᴰ.not-nil m)
read_from i H (w ∷ ws) {p} d {r} m h =
    let later : List Rule = rules_from (i + length (read_as H w)) (H - length (helper_in H w)) ws in
    elim (Memᴰ.cases_cons m) [
      | inl e ↦ (
        d,
        ap (λ (o : PlacedRule). o.index + d) (sym e),
        at_append (read_as H w) later d (subst (λ (o : PlacedRule). At (read_as o.helper o.rule) d r) e h),
      )
      | inr n ↦ (let s = read_from (i + length (read_as H w)) (H - length (helper_in H w)) ws d n h in
          (length (read_as H w) + s.0, omega arith, at_second (read_as H w) later (length (read_as H w) + s.0) s.0 refl s.2))
    ]

-- a rule that stands among the rules as read is one that a placed rule is read as, and the converse
pub at_read : (ws : List WrittenRule) (j : ℕ) {r : Rule} → At (rules_read ws) j r → ComesFrom (placed_rules ws) j r
unfolding rules_read
at_read ws j e =
    let s = from_read 0 first_helper ws j e in (s.0, s.1, s.2, (let f : j ≡ s.0.index + s.2 = omega arith in f), s.4)

pub read_at : (ws : List WrittenRule) {p : PlacedRule} (d : ℕ) {r : Rule} → p ∈ placed_rules ws → At (read_as p.helper p.rule) d r
    → At (rules_read ws) (p.index + d) r
unfolding rules_read
read_at ws {p} d m h =
    let s = read_from 0 first_helper ws d m h in
    ap (get_elem? (rules_from 0 first_helper ws)) (let f : p.index + d ≡ s.0 = omega arith in f) ∙ s.2

-- a placed rule is written
pub placed_written : (i H : ℕ) (ws : List WrittenRule) {p : PlacedRule} → p ∈ placed_from i H ws → p.rule ∈ ws
unfolding placed_from
placed_written i H [] m = absurd (Memᴰ.not-nil m)
placed_written i H (w ∷ ws) {p} m =
    elim (Memᴰ.cases_cons m) [
      | inl e ↦ Memᴰ.head (ap (λ (o : PlacedRule). o.rule) e)
      | inr n ↦ Memᴰ.tail (placed_written (i + length (read_as H w)) (H - length (helper_in H w)) ws n)
    ]

-- the helper of a placed rule that needs one is in use, and where helpers differ it is that of one placed rule only
pub helper_used : (ws : List WrittenRule) {p : PlacedRule} {P : ℕ} → p ∈ placed_rules ws → P ∈ helper_in p.helper p.rule
    → P ∈ helpers_of ws
unfolding helpers_of
helper_used ws m n = flat_map_of (λ (p : PlacedRule). helper_in p.helper p.rule) m n

pub helper_place : (ws : List WrittenRule) {p p' : PlacedRule} {P : ℕ} → Unrepeated (helpers_of ws) → p ∈ placed_rules ws
    → p' ∈ placed_rules ws
    → P ∈ helper_in p.helper p.rule → P ∈ helper_in p'.helper p'.rule → p ≡ p'
unfolding helpers_of
helper_place ws u m m' n n' = one_place (λ (p : PlacedRule). helper_in p.helper p.rule) (placed_rules ws) u m m' n n'

-- ---- rules as written that are all of 01's

plain_from : (i H : ℕ) (rules : List Rule) → (rules_from i H (map plain rules) ≡ rules) × (helpers_from i H (map plain rules) ≡ [])
unfolding placed_from flat_map
plain_from i H [] = (refl, refl)
plain_from i H (r ∷ rules) = let w = plain_from (i + 1) (H - 0) rules in (ap (λ rs. r ∷ rs) w.0, w.1)

-- they are read as themselves
pub plain_read : (rules : List Rule) → rules_read (map plain rules) ≡ rules
unfolding rules_read
plain_read rules = (plain_from 0 first_helper rules).0

-- and use no helper
pub plain_helpers : (rules : List Rule) → helpers_of (map plain rules) ≡ []
unfolding helpers_of
plain_helpers rules = (plain_from 0 first_helper rules).1
