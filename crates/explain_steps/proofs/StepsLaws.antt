-- The way back in a table of members: how many parents there are, and the place of a member.
use mathlib.Core.Path.{◌≡◌, refl, sym, ap, ◌∙◌, subst}
use Prim.Native.Nat.{ℕ, suc, ◌+◌, ◌*◌, ◌≤◌, ◌<◌}
use native.Mathlib.Nat.{zero-add, add-zero}
use native.Mathlib.Omega.{arith}
use mathlib.Core.Bool.{Bool, true, false}
use mathlib.Core.List.{List}
use lib.ListN.{get_or}
use borrow.Author.Rules.{rules}
use Rattle.theory.specs.Lists.{At}
use Rattle.theory.specs.Syntax.{Rule, Query, Step, UCQ}
use Rattle.theory.specs.Renaming.{Alike}
use Rattle.theory.specs.Union.{yield}
use Rattle.theory.specs.Targets.{Smallest, HandedBack}
use Rattle.theory.specs.Explaining.{PlaceOf}
use Rattle.theory.proofs.Laws.WrittenStep.{yield_iff}
use Rattle.theory.specs.Laws.Explaining.{Behind}
use Rattle.words.specs.Records.{step_of, step_kind, step_parent, step_atom, step_other}
use Rattle.words.specs.Words.{union_in, query_of}
use Rattle.words.specs.Rows.{member_in}
use Rattle.words.specs.declared.QueryWords.{QueryWords}
use Rattle.words.specs.Laws.Rows.{row_within, row_there, step_within, step_there, union_at}
use Rattle.query_steps.specs.StepResults.{query_found}
use Rattle.std.specs.Prelude.{Option, Some, None, IsSome}
use Rattle.explain_place.specs.Places.{step_of_place}
use Rattle.explain_steps.specs.Filling.{StepsMade, ParentsEarlier}

-- ---- parents

-- the parent that a member's words say
pub parent_there : (table : List ℕ) (k parent : ℕ) → parent ≡ step_parent (get_or table (16 * k) 0) → (member_in table k).step.parent
    ≡ parent
unfolding step_of
parent_there table k parent e = ap (λ (s : Step). s.parent) (step_there table k) ∙ sym e

pub made_earlier : (rules : List Rule) (union : UCQ) → StepsMade rules union → ParentsEarlier union
made_earlier rules union made = record { each = λ k m pos at. (made.each k m pos at).1.0 }

module _ (table : List ℕ) (n k : ℕ) where
  abbrev union : UCQ
  union = union_in table n

  -- after so many parents, member `at` is reached
  pub record Climbed (at count : ℕ) : Type 0 where
    pub below : at < n
    pub few : count + at ≤ k
    pub counted : (c : ℕ) → Behind union c at → Behind union (count + c) k

  pub climb_begins : k < n → Climbed k 0
  climb_begins h = record {
    below = h;
    few = omega arith;
    counted = λ c b. subst (λ x. Behind union x k) (sym (zero-add c)) b;
  }

  pub climbs : (at count parent : ℕ) → Climbed at count → 0 < at → ParentsEarlier union → parent ≡ step_parent (get_or table (16 * at) 0)
      → Climbed parent (count + 1)
  climbs at count parent c pos earlier e =
      let d : (member_in table at).step.parent ≡ parent = parent_there table at parent e in
      let there : At union at (member_in table at) = union_at table n at c.below in
      let l : (member_in table at).step.parent < at = earlier.each at (member_in table at) pos there in
      let b = c.below in
      let f = c.few in
      record {
        below = omega arith;
        few = omega arith;
        counted = λ i w. (let s : count + suc i ≡ count + 1 + i = omega arith in
            subst (λ x. Behind union x k) s
            (c.counted (suc i) (pos, member_in table at, there, subst (Behind union i) (sym d) w)));
      }

  pub climb_less : (at parent : ℕ) → at < n → 0 < at → ParentsEarlier union → parent ≡ step_parent (get_or table (16 * at) 0) → parent < at
  climb_less at parent h pos earlier e =
      let d : (member_in table at).step.parent ≡ parent = parent_there table at parent e in
      let l : (member_in table at).step.parent < at = earlier.each at (member_in table at) pos (union_at table n at h) in
      omega arith

  pub climb_below : (at count : ℕ) → Climbed at count → at < n
  climb_below at count c = c.below

  pub climbed_few : (at count : ℕ) → Climbed at count → count ≤ k
  climbed_few at count c = let f = c.few in omega arith

  pub climbed_all : (at count : ℕ) → Climbed at count → at ≤ 0 → Behind union count k
  climbed_all at count c h =
      subst (λ x. Behind union x k) (add-zero count) (c.counted 0 (let z : at ≡ 0 = omega arith in z))

-- ---- the place of a member

same_step : (s t : Step) → s.kind ≡ t.kind → s.parent ≡ t.parent → s.atom ≡ t.atom → s.other ≡ t.other → s ≡ t
same_step s t a b c d i = record { kind = a i; parent = b i; atom = c i; other = d i }

module _ (rules : List Rule) (table : List ℕ) (n k : ℕ) (made : StepsMade rules (union_in table n)) (pos : 0 < k) (h : k < n) where
  -- the step applies
  pub step_applies : (y : Option QueryWords) → query_found y ≡ yield rules (union_in table n) k (member_in table k).step → IsSome y
  step_applies (Some q) e = refl
  step_applies None e =
      let (r, yields, alike) = made.each k (member_in table k) pos (union_at table n k h) in
      let found = e ∙ (yield_iff rules (union_in table n) k (member_in table k).step r).1 yields in
      cc

  pub place_is : (y : Option QueryWords) (p q : QueryWords) (found : Bool) (targets : List ℕ) (kind parent atom other : ℕ)
      → y ≡ Some p → query_found y ≡ yield rules (union_in table n) k (member_in table k).step → query_of q ≡ (member_in table k).query
      → HandedBack (query_of p) (query_of q) found targets → kind ≡ step_kind (get_or table (16 * k) 0)
      → parent ≡ step_parent (get_or table (16 * k) 0) → atom ≡ step_atom (get_or table (16 * k) 0) → other
      ≡ step_other (get_or table (16 * k) 0)
      → PlaceOf rules (union_in table n) k
      (step_of_place (record { member = k; kind = kind; parent = parent; atom = atom; other = other; targets = targets }))
  unfolding step_of
  place_is y p q found targets kind parent atom other some_p e f back a b c d =
      let there = union_at table n k h in
      let (r, yields, alike) = made.each k (member_in table k) pos there in
      let same : query_of p ≡ r =
      (let g = ap query_found (sym some_p) ∙ e ∙ (yield_iff rules (union_in table n) k (member_in table k).step r).1 yields in cc) in
      record {
        reached = member_in table k;
        result = r;
        there = there;
        number_is = refl;
        written = same_step _ _ a b c d ∙ sym (step_there table k);
        made = yields;
        renamed = smallest r same alike found refl back;
      }
    where
      smallest : (r : Query) → query_of p ≡ r → Alike r (member_in table k).query → (b : Bool) → found ≡ b
          → HandedBack (query_of p) (query_of q) found targets → Smallest r (member_in table k).query targets
      smallest r same alike true t back =
          subst (λ o. Smallest r o targets) f (subst (λ o. Smallest o (query_of q) targets) same (back.smallest t))
      smallest r same alike false t back =
          absurd (back.none_fits t (subst (λ o. Alike o (query_of q)) (sym same) (subst (Alike r) (sym f) alike)))

-- what fits the place's fields
pub member_fits : (k n : ℕ) → k < n → n ≤ 512 → k < 65536
member_fits k n h l = omega arith

pub ruleset climb_laws = (rules, step_within, climb_begins, climbs, climb_less, climb_below, climbed_few, climbed_all)

pub ruleset place_laws = (rules, row_within, row_there, step_within, step_applies, place_is, member_fits)
