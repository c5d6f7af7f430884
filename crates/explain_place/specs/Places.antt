-- A place of a list of steps as a struct: what it says, its 40 bytes, and the places that packed bytes hold.
use Rattle.std.specs.Prelude.{ℕ, zero, suc, ◌+◌, ◌*◌, ◌/◌, ◌%◌, List, [], ◌∷◌, ◌++◌, ltb, get_or, take, drop, replicate}
use Rattle.theory.specs.Lists.{pick}
use Rattle.theory.specs.Explaining.{ExplainedStep}
use Rattle.words.specs.Limits.{place_size}
use Rattle.sheets.specs.Bits.{number_at}
use Rattle.explain_place.specs.declared.Place.{Place}

-- the step that it says
abbrev pub step_of_place : Place → ExplainedStep
step_of_place p = record {
  member = p.member;
  step = record { kind = p.kind; parent = p.parent; atom = p.atom; other = p.other };
  targets = p.targets;
}

-- its bytes: member 2, kind 1, parent 2, atom 1, other 2, and the targets
abbrev pub head_bytes : Place → List ℕ
head_bytes p =
    p.member / 256
    ∷ p.member % 256
    ∷ p.kind
    ∷ p.parent / 256
    ∷ p.parent % 256
    ∷ p.atom
    ∷ p.other / 256
    ∷ p.other % 256
    ∷ []

abbrev pub bytes_of_place : Place → List ℕ
bytes_of_place p = head_bytes p ++ p.targets

-- the place in the 40 bytes from `at` on
unfoldable pub place_at : List ℕ → ℕ → Place
unfolding number_at
place_at bytes at = record {
  member = number_at bytes at 2;
  kind = get_or bytes (at + 2) 0;
  parent = number_at bytes (at + 3) 2;
  atom = get_or bytes (at + 5) 0;
  other = number_at bytes (at + 6) 2;
  targets = take 32 (drop (at + 8) bytes);
}

-- "Unused places hold zeros"
unfoldable pub no_place : Place
no_place = record { member = 0; kind = 0; parent = 0; atom = 0; other = 0; targets = replicate 32 0 }

-- what place i holds, where the first n are used
unfoldable pub place_in : List ℕ → ℕ → ℕ → Place
unfolding place_at no_place
place_in packed n i = pick (ltb i n) (place_at packed (place_size * i)) no_place

-- the first m places
unfoldable pub places_in : List ℕ → ℕ → ℕ → List Place
unfolding place_in
places_in packed n zero = []
places_in packed n (suc m) = places_in packed n m ++ (place_in packed n m ∷ [])
