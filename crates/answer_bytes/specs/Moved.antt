-- Bytes moved up or down.
use Rattle.std.specs.Prelude.{ℕ, ◌+◌, ◌-◌, List, ◌++◌, take, drop}

-- the bytes from `from` to `end` moved up by `by`; those between keep what they were
abbrev pub shifted : List ℕ → ℕ → ℕ → ℕ → List ℕ
shifted l from end by = take (from + by) l ++ (take (end - from) (drop from l) ++ drop (end + by) l)

-- the bytes from `from` to `end` are those that stood `by` above
abbrev pub lowered : List ℕ → ℕ → ℕ → ℕ → List ℕ
lowered l from end by = take from l ++ (take (end - from) (drop (from + by) l) ++ drop end l)
