-- Two tables that hold the same words, whatever their order and however often a word stands in them.
use Rattle.std.specs.Prelude.{◌≡◌, ℕ, ◌≤◌, ◌<◌, Bool, true, List, length, get_or}

-- the word stands among the first n
pub record Among (word : ℕ) (words : List ℕ) (n : ℕ) : Type 0 where
  pub place : ℕ
  pub low : place < n
  pub there : get_or words place 0 ≡ word

-- an answer that is yes only where it does
pub record OnlyIfAmong (word : ℕ) (words : List ℕ) (n : ℕ) (answer : Bool) : Type 0 where
  pub among : answer ≡ true → Among word words n

-- the first m words of one table are those of the first n of the other, and no more of them
pub record SameWords (rules : List ℕ) (n : ℕ) (words : List ℕ) (m : ℕ) : Type 0 where
  pub room : m ≤ length words
  pub fewer : m ≤ n
  pub all : (k : ℕ) → k < n → Among (get_or rules k 0) words m
  pub only : (j : ℕ) → j < m → Among (get_or words j 0) rules n
