-- The packed list that the places are filled from.
use Rattle.std.specs.Prelude.{◌≡◌, ◌⊎◌, ℕ, ◌*◌, ◌≤◌, List, length, take}
use Rattle.words.specs.Limits.{place_size, most_steps}
use Rattle.promises.specs.Explaining.{Explained}

-- room for every explanation
abbrev pub most_bytes : ℕ
most_bytes = place_size * most_steps

-- so many of the lent places are used: all of them, or as many as every explanation fits in
pub record PlacesUsed (lent used : ℕ) : Type 0 where
  pub not_more : used ≤ lent
  pub enough : (used ≡ lent) ⊎ (most_steps ≤ used)

-- the packed bytes begin with the list that `explain` fills where so many places are lent
pub record ExplainedIn (rules question union facts tuple : List ℕ) (lent number count : ℕ) (packed : List ℕ) : Type 0 where
  pub places : ℕ
  pub used : PlacesUsed lent places
  pub fits : place_size * places ≤ length packed
  pub begins : Explained rules question union facts tuple (place_size * places) number count (take (place_size * places) packed)
