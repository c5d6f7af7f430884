-- The colours of variables as the code keeps them, in a list of 32 numbers. 01: "Variables are 0 to 31".
use Rattle.std.specs.Prelude.{◌≡◌, ℕ, ◌+◌, ◌*◌, ◌≤◌, ◌<◌, List, length, get_or}
use Rattle.query_key.specs.Key.{top}

-- what a list says of a variable
abbrev pub colour_in : List ℕ → ℕ → ℕ
colour_in l v = get_or l v 0

-- the list says what h says
pub record ColoursOf (h : ℕ → ℕ) (l : List ℕ) : Type 0 where
  pub says : (v : ℕ) → v < 32 → colour_in l v ≡ h v

-- the list m has for each variable what g says more than l
pub record Plus (g : ℕ → ℕ) (l m : List ℕ) : Type 0 where
  pub as_long : length m ≡ length l
  pub plus : (v : ℕ) → v < 32 → colour_in m v ≡ colour_in l v + g v

-- the list has 32 numbers, and each is a sum of at most n numbers below the top
pub record Upto (n : ℕ) (l : List ℕ) : Type 0 where
  pub long : length l ≡ 32
  pub upto : (v : ℕ) → v < 32 → colour_in l v ≤ n * top
