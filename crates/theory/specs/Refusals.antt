-- A list of refusals. 01: "The first entry whose condition holds decides, for the earlier ones not holding." Once as numbered
-- tests, which compute, and once as numbered conditions, which say what is meant.
use Rattle.std.specs.Prelude.{◌≡◌, ◌⊎◌, ℕ, Bool, List, [], ◌∷◌, eqb}
use Rattle.std.proofs.Math.Option.{Option, none, some}
use Rattle.theory.specs.Lists.{pick}

-- the number of the first test that passes
unfoldable pub first_refusal : List (ℕ × Bool) → Option ℕ
first_refusal [] = none
first_refusal (e ∷ es) = let later = first_refusal es in pick e.1 (some e.0) later

-- "A refusal returns its number [..]. A call that isn't refused returns number 0"
unfoldable pub number_of : Option ℕ → ℕ
number_of none = 0
number_of (some n) = n

-- numbers one after the other: one that is not 0 is final, and else the next decides
unfoldable pub otherwise : ℕ → ℕ → ℕ
otherwise number next = pick (eqb number 0) next number

-- n is the number of the first condition that holds
abbrev pub First : List {1} (ℕ × Type 0) → ℕ → Type 0
First [] n = ⊥
First (e ∷ es) n = ((e.0 ≡ n) × e.1) ⊎ ((¬ e.1) × First es n)

-- no condition holds
abbrev pub NoneHolds : List {1} (ℕ × Type 0) → Type 0
NoneHolds [] = Unit {0}
NoneHolds (e ∷ es) = (¬ e.1) × NoneHolds es

-- the number that a call gives: that of the first condition that holds, and 0 where none does
abbrev pub DecidedBy : List {1} (ℕ × Type 0) → ℕ → Type 0
DecidedBy conditions n = First conditions n ⊎ ((n ≡ 0) × NoneHolds conditions)
