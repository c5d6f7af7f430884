-- The members' keys: alike questions have one key, so that only members with the same key are compared.
use Rattle.std.specs.Prelude.{◌≡◌, ℕ, ◌≤◌, ◌<◌, List, length, get_or}
use Rattle.words.specs.Rows.{member_in}
use Rattle.query_key.specs.Key.{key}

-- each of the n members' key stands in the list
pub record Keys (table : List ℕ) (n : ℕ) (keys : List ℕ) : Type 0 where
  pub room : n ≤ length keys
  pub each : (j : ℕ) → j < n → get_or keys j 0 ≡ key (member_in table j).query
