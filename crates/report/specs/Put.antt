-- A piece of text put behind the text so far.
use Rattle.std.specs.Prelude.{◌≡◌, ℕ, ◌+◌, ◌≤◌, List, ◌++◌, length, take}

-- behind the first `end` bytes stands the piece; it ends at r, within the room that there is, which stays the same
pub record Put (out : List ℕ) (end : ℕ) (piece : List ℕ) (after : List ℕ) (r : ℕ) : Type 0 where
  pub text : take r after ≡ take end out ++ piece
  pub ends : r ≡ end + length piece
  pub within : r ≤ length after
  pub long : length after ≡ length out
