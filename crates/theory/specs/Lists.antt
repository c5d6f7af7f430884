-- Tests and searches on lists that the definitions use. Nothing here is special to queries.
use Rattle.std.specs.Prelude.{◌≡◌, ℕ, zero, suc, Bool, true, false, ◌&&◌, ◌||◌, eqb}
use Rattle.std.proofs.Math.Option.{Option, none, some}
use mathlib.Core.List.{List, [], ◌∷◌, Memᴰ}
use Rattle.std.proofs.Math.ListN.{get_elem?}

infix 50 ◌∈◌
-- a place at which x stands in the list
abbrev pub ◌∈◌ {ℓ} : {X : Type ℓ} → X → List X → Type ℓ
x ∈ xs = Memᴰ x xs

-- the list has x at index i
abbrev pub At {ℓ} : {X : Type ℓ} → List X → ℕ → X → Type ℓ
At xs i x = get_elem? xs i ≡ some x

-- no element stands again later in the list
abbrev pub Unrepeated {ℓ} : {X : Type ℓ} → List X → Type ℓ
Unrepeated [] = Unit {ℓ}
Unrepeated (x ∷ xs) = (¬ (x ∈ xs)) × Unrepeated xs

-- one or the other, by a test
abbrev pub pick {ℓ} : {X : Type ℓ} → Bool → X → X → X
pick true x y = x
pick false x y = y

-- x where the test passes
abbrev pub guard : {X : Type 0} → Bool → X → Option X
guard true x = some x
guard false x = none

-- the rest of a computation, where there is a value so far
abbrev pub and_then : {X Y : Type 0} → Option X → (X → Option Y) → Option Y
and_then none f = none
and_then (some x) f = f x

module _ {X : Type 0} where
  -- some element, all elements pass the test
  unfoldable pub any : (X → Bool) → List X → Bool
  any p [] = false
  any p (x ∷ xs) = p x || any p xs

  unfoldable pub all : (X → Bool) → List X → Bool
  all p [] = true
  all p (x ∷ xs) = p x && all p xs

  -- how many elements pass the test
  unfoldable pub count : (X → Bool) → List X → ℕ
  count p [] = zero
  count p (x ∷ xs) = pick (p x) (suc (count p xs)) (count p xs)

  -- the elements that fail the test, in order
  unfoldable pub without : (X → Bool) → List X → List X
  without p [] = []
  without p (x ∷ xs) = pick (p x) (without p xs) (x ∷ without p xs)

  -- each element once, at its first place
  unfoldable pub once : (X → X → Bool) → List X → List X
  unfolding without
  once same [] = []
  once same (x ∷ xs) = x ∷ without (same x) (once same xs)

  unfoldable pub to_list : Option X → List X
  to_list none = []
  to_list (some x) = x ∷ []

  unfoldable pub is_some : Option X → Bool
  is_some none = false
  is_some (some x) = true

-- the two lists are as long, and the test passes on each pair
unfoldable pub pairwise : {X Y : Type 0} → (X → Y → Bool) → List X → List Y → Bool
pairwise test [] [] = true
pairwise test [] (y ∷ ys) = false
pairwise test (x ∷ xs) [] = false
pairwise test (x ∷ xs) (y ∷ ys) = test x y && pairwise test xs ys

-- the first value that f gives on the list
unfoldable pub first_some : {X Y : Type 0} → (X → Option Y) → List X → Option Y
first_some f [] = none
first_some f (x ∷ xs) = elim (f x) [ none ↦ first_some f xs | some y ↦ some y ]

-- a finite map of numbers to numbers, and its value at v: the first pair counts
abbrev pub Pairs : Type 0
Pairs = List (ℕ × ℕ)

unfoldable pub lookup : Pairs → ℕ → Option ℕ
lookup [] v = none
lookup (p ∷ ps) v = let later = lookup ps v in pick (eqb p.0 v) (some p.1) later

-- start, start + 1, .. : so many numbers
unfoldable pub numbers : ℕ → ℕ → List ℕ
numbers start zero = []
numbers start (suc n) = start ∷ numbers (suc start) n
