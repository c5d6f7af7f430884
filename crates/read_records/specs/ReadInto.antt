-- What reading a sheet into a table gives, whatever the sheet holds: `refusal` is the number of the sheet's own first refusal, 0 for none,
-- `values` what the sheet says, as read, `held n` what the table's first n places hold, and `most` 01's limit.
use Rattle.std.specs.Prelude.{◌≡◌, ℕ, ◌≤◌, List, length}

pub record ReadInto {X : Type 0} (refusal : ℕ) (values : List X) (held : ℕ → List X) (most number count : ℕ) : Type 0 where
  -- the number is the refusal's
  pub number_is : number ≡ refusal
  -- without a refusal the table holds what the sheet says, and the count is how much that is
  pub read : number ≡ 0 → held count ≡ values
  pub counted : number ≡ 0 → count ≡ length values
  -- on a refusal the count is 0
  pub none : (number ≡ 0 → ⊥) → count ≡ 0
  -- it is never above the limit
  pub few : count ≤ most
