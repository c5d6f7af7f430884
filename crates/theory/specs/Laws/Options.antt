-- Tests, choices by a test, and values that may be missing: what it means that a test passes, and when a computation gives a value.
use Rattle.std.specs.Prelude.{◌≡◌, refl, ◌⊎◌, ◌↔◌, ℕ, ◌<◌, Bool, true, false, not, ◌&&◌, ◌||◌, T, eqb}
use Rattle.std.proofs.Common.{ap, ◌∙◌, subst, inl, inr, arith, eqb→eq, T_not}
use Rattle.std.proofs.Math.Decide.{dec_lt}
use Rattle.std.proofs.Math.Option.{Option, none, some}
use Rattle.std.proofs.Math.Dec.{eqb_refl, not_T}
use Rattle.theory.specs.Lists.{pick, guard, and_then, is_some}

-- ---- tests

pub T_and : (a b : Bool) → T (a && b) ↔ (T a × T b)
T_and true b = (λ t. (tt, t), λ t. t.1)
T_and false b = (λ t. absurd t, λ t. t.0)

pub T_or : (a b : Bool) → T (a || b) ↔ (T a ⊎ T b)
T_or true b = (λ t. inl tt, λ t. tt)
T_or false b = (λ t. inr t, λ t. elim t [ inl x ↦ absurd x | inr y ↦ y ])

pub T_no : (b : Bool) → T (not b) ↔ (¬ T b)
T_no b = (T_not b, not_T b)

pub T_eqb : (m n : ℕ) → T (eqb m n) ↔ (m ≡ n)
T_eqb m n = (eqb→eq m n, λ e. subst (λ (k : ℕ). T (eqb m k)) e (eqb_refl m))

-- a test passes or fails
pub either : (b : Bool) → T b ⊎ (¬ T b)
either true = inl tt
either false = inr (λ x. x)

pub is_true : (b : Bool) → T b → b ≡ true
is_true true t = refl
is_true false t = absurd t

pub is_false : (b : Bool) → ¬ T b → b ≡ false
is_false true f = absurd (f tt)
is_false false f = refl

-- two tests are equal where each passes if the other does
pub same_test : (b c : Bool) → T b ↔ T c → b ≡ c
same_test b true h = is_true b (h.1 tt)
same_test b false h = is_false b h.0

-- of two numbers the one is less, or they are equal
pub three_ways : (x y : ℕ) → (x < y) ⊎ ((x ≡ y) ⊎ (y < x))
three_ways x y = elim (dec_lt x y) [ yes l ↦ inl l | no f ↦ elim (dec_lt y x) [ yes l ↦ inr (inr l) | no g ↦ inr (inl (omega arith)) ] ]

module _ {X : Type 0} where
  -- ---- choices by a test

  pub pick_true : (b : Bool) (x y : X) → T b → pick b x y ≡ x
  pick_true true x y t = refl
  pick_true false x y t = absurd t

  pub pick_false : (b : Bool) (x y : X) → ¬ T b → pick b x y ≡ y
  pick_false true x y f = absurd (f tt)
  pick_false false x y f = refl

  -- ---- values that may be missing

  pub some_inj : {x y : X} → ◌≡◌ {A = Option X} (some x) (some y) → x ≡ y
  some_inj e = cc

  pub none≢some : {x : X} → ◌≡◌ {A = Option X} none (some x) → ⊥
  none≢some e = let z : ◌≡◌ {A = ℕ} 0 1 = cc in omega arith

  pub some_or_none : (o : Option X) → ((x : X) × (o ≡ some x)) ⊎ (o ≡ none)
  some_or_none none = inr refl
  some_or_none (some x) = inl (x, refl)

  pub is_some_some : (o : Option X) → T (is_some o) ↔ ((x : X) × (o ≡ some x))
  unfolding is_some
  is_some_some none = (λ t. absurd t, λ p. none≢some p.1)
  is_some_some (some x) = (λ t. (x, refl), λ p. tt)

  -- a value where the test passes
  pub guard_some : (b : Bool) {x y : X} → guard b x ≡ some y → T b × (x ≡ y)
  guard_some true e = (tt, some_inj e)
  guard_some false e = absurd (none≢some e)

  pub guard_true : (b : Bool) {x : X} → T b → guard b x ≡ some x
  guard_true true t = refl
  guard_true false t = absurd t

  -- a choice whose second branch is none gives a value exactly where the test passes and the first branch gives one
  pub pick_some : (b : Bool) {o : Option X} {y : X} → pick b o none ≡ some y → T b × (o ≡ some y)
  pick_some true e = (tt, e)
  pick_some false e = absurd (none≢some e)

  pub found_pick : (b : Bool) {o : Option X} → T b → ((y : X) × (o ≡ some y)) → (y : X) × (pick b o none ≡ some y)
  found_pick true t f = f
  found_pick false t f = absurd t

  -- and so does one that is made by cases on the test
  pub tested_found : (b : Bool) (o : Option X) {x : X} → ◌≡◌ {A = Option X} (elim b [ true ↦ o | false ↦ none ]) (some x)
      → T b × (o ≡ some x)
  tested_found true o e = (tt, e)
  tested_found false o e = absurd (none≢some e)

  pub tested_of : (b : Bool) (o : Option X) → T b → T (is_some o) → T (is_some {X = X} (elim b [ true ↦ o | false ↦ none ]))
  tested_of true o t h = h
  tested_of false o t h = absurd t

-- a computation gives a value exactly where its first part gives one and the rest does
module _ {X Y : Type 0} where
  pub and_then_some : (o : Option X) {f : X → Option Y} {y : Y} → and_then o f ≡ some y → (x : X) × (o ≡ some x) × (f x ≡ some y)
  and_then_some none e = absurd (none≢some e)
  and_then_some (some x) e = (x, refl, e)

  pub and_then_at : {o : Option X} (f : X → Option Y) {x : X} → o ≡ some x → and_then o f ≡ f x
  and_then_at f e = ap (λ o. and_then o f) e

  pub found_and_then : {o : Option X} (f : X → Option Y) → ((x : X) × (o ≡ some x)) → ((x : X) → o ≡ some x → (y : Y) × (f x ≡ some y))
      → (y : Y) × (and_then o f ≡ some y)
  found_and_then f m rest = let n = rest m.0 m.1 in (n.0, and_then_at f m.1 ∙ n.1)

pub and_both : (a b : Bool) → (a && b) ≡ true → (a ≡ true) × (b ≡ true)
and_both true b e = (refl, e)
and_both false b e = absurd (let z : ◌≡◌ {A = ℕ} 0 1 = cc in omega arith)
