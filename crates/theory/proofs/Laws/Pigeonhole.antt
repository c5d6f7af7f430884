-- Pigeons and holes: a list that goes one-to-one into another is no longer; and how high the fresh variable can be, since a query with few
-- terms has a low number that stands nowhere in it.
use Rattle.std.specs.Prelude.{◌≡◌, refl, ℕ, zero, suc, ◌+◌, ◌*◌, ◌≤◌, ◌<◌, List, [], ◌∷◌, length}
use Rattle.std.proofs.Common.{ap, subst, zero-le, arith, length-append}
use mathlib.Core.List.Memᴰ
use Rattle.theory.specs.Lists.{◌∈◌, At}
use Rattle.theory.specs.Syntax.{Term, var, Atom, concept, role, Query, places, terms}
use Rattle.theory.specs.Rewriting.{fresh}
use Rattle.theory.specs.Laws.Options.{none≢some}
use Rattle.theory.specs.Laws.Lists.{here, mem_at, at_equal, drop_at, mem_drop_at}
use Rattle.theory.proofs.Laws.Fresh.{fresh_lowest}

-- ---- on lists

-- the list without one element is one shorter
pub length_drop_at : {X : Type 0} (xs : List X) (i : ℕ) {x : X} → At xs i x → length xs ≡ suc (length (drop_at xs i))
length_drop_at [] i e = absurd (none≢some e)
length_drop_at (x ∷ xs) zero e = refl
length_drop_at (x ∷ xs) (suc i) e = ap suc (length_drop_at xs i e)

-- Each element of the first list has one in the second that it goes with, and no two go with the same: the first is no longer.
pub no_longer : {X Y : Type 0} (Goes : X → Y → Type 0) (xs : List X) (ys : List Y)
    → ((x : X) → x ∈ xs → (y : Y) × (y ∈ ys) × Goes x y)
    → ((i j : ℕ) (x z : X) (y : Y) → i < j → At xs i x → At xs j z → Goes x y → Goes z y → ⊥)
    → length xs ≤ length ys
no_longer Goes [] ys each apart = zero-le
no_longer {X} {Y} Goes (x ∷ xs) ys each apart =
    let first = each x here in
    let place = mem_at first.1 in
    let fewer = no_longer Goes xs (drop_at ys place.0) (others first place)
    (λ i j z z' y l e f. apart (suc i) (suc j) z z' y (omega arith) e f) in
    omega (arith, fewer, length_drop_at ys place.0 place.1)
  where
    others : (first : (y : Y) × (y ∈ ys) × Goes x y) (place : (i : ℕ) × At ys i first.0) (z : X) → z ∈ xs
        → (y : Y) × (y ∈ drop_at ys place.0) × Goes z y
    others first place z n =
        let second = each z (Memᴰ.tail n) in
        let there = mem_at second.1 in
        let later = mem_at n in (
          second.0,
          mem_drop_at ys place.0 there.0 there.1
              (λ d. apart zero (suc later.0) x z first.0 (omega arith) refl later.1 first.2
              (subst (Goes z) (at_equal ys d there.1 place.1) second.2)),
          second.2,
        )

-- ---- variables among few terms

-- a lower variable still stands in the list without the place of a higher one
lower_stays : (ts : List Term) (i u k : ℕ) → At ts i (var k) → u < k → var u ∈ ts → var u ∈ drop_at ts i
lower_stays ts i u k e l m =
    let s = mem_at m in
    mem_drop_at ts i s.0 s.1 (λ d. let same : var u ≡ var k = at_equal ts d s.1 e in let f : u ≡ k = cc in omega arith)

-- k variables stand in no fewer than k places
pub few_variables : (ts : List Term) (k : ℕ) → ((u : ℕ) → u < k → var u ∈ ts) → k ≤ length ts
few_variables ts zero h = zero-le
few_variables ts (suc k) h =
    let top = mem_at (h k (omega arith)) in
    let rest = few_variables (drop_at ts top.0) k (λ u l. lower_stays ts top.0 u k top.1 l (h u (omega arith))) in
    omega (arith, rest, length_drop_at ts top.0 top.1)

-- the fresh variable is no more than the number of places
pub fresh_small : (q : Query) → fresh q ≤ length (terms q)
fresh_small q = few_variables (terms q) (fresh q) (fresh_lowest q)

-- an atom has at most two places
places_few : {X : Type 0} (as' : List (Atom X)) → length (places as') ≤ 2 * length as'
places_few [] = zero-le
places_few (concept A x ∷ rest) = let h : length (places rest) ≤ 2 * length rest = places_few rest in omega arith
places_few (role P x y ∷ rest) = let h : length (places rest) ≤ 2 * length rest = places_few rest in omega arith

pub terms_few : (q : Query) → length (terms q) ≤ length q.answers + 2 * length q.atoms
terms_few q =
    let h : length (places q.atoms) ≤ 2 * length q.atoms = places_few q.atoms in
    omega (arith, length-append q.answers (places q.atoms))
