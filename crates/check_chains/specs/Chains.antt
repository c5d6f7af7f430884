-- Words chained by their place: which of the first n words of a list stand at a place is found from the last to the first, with no other
-- looked at. The index has for each place the number after the last word there, and for each word the number after the one before it at
-- its place; 0 says that there is none.
use Rattle.std.specs.Prelude.{◌≡◌, ℕ, ◌+◌, ◌-◌, ◌%◌, ◌≤◌, ◌<◌, List, length, get_or, Option, None, Some}

-- how many places there are, and the place of a word
abbrev pub places : ℕ
places = 512

abbrev pub place_of : ℕ → ℕ
place_of word = word % places

-- the number after a word that is found, 0 where none is
abbrev pub after : Option ℕ → ℕ
after None = 0
after (Some j) = j + 1

-- the number after the last of the first n words that stands at place h; 0 where none does
pub record Last (words : List ℕ) (n h at : ℕ) : Type 0 where
  pub low : at ≤ n
  pub here : 0 < at → place_of (get_or words (at - 1) 0) ≡ h
  pub above : (i : ℕ) → at ≤ i → i < n → place_of (get_or words i 0) ≡ h → ⊥

-- the index of the first n words
pub record Chains (words : List ℕ) (n : ℕ) (index : List ℕ) : Type 0 where
  pub few : n ≤ places
  pub head : (h : ℕ) → h < places → Last words n h (get_or index h 0)
  pub link : (j : ℕ) → j < n → Last words j (place_of (get_or words j 0)) (get_or index (places + j) 0)

-- how many numbers an index has
abbrev pub index_words : ℕ
index_words = 1024

-- a full index of all of these words
abbrev pub Indexes : List ℕ → List ℕ → Type 0
Indexes words index = Chains words (length words) index × (index_words ≤ length index)

-- an index of no words
pub record Cleared (index : List ℕ) : Type 0 where
  pub long : length index ≡ index_words
  pub zero : (h : ℕ) → h < places → get_or index h 0 ≡ 0
