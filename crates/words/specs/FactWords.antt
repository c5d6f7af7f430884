-- A fact's word bit for bit: what its fields do not say is zero, so that two such words are one fact exactly where they are one number
-- (Laws/WholeFacts). And several fields as one number, for 02's T-03: "take a record, as read, as one 64-bit word and compare predicate
-- and first object together" (Laws/FactHeads).
use Rattle.std.specs.Prelude.{◌≡◌, ℕ, ◌+◌, ◌*◌, ◌/◌, ◌%◌, ◌^◌, ◌<◌, List, get_or}
use Rattle.words.specs.Limits.{word_width, object_bound}
use Rattle.words.specs.Records.{field, fact_kind, fact_zeros, fact_first, fact_second}

pub record FactWord (f : ℕ) : Type 0 where
  -- the three zero bits are zero
  pub zeros : fact_zeros word_width f ≡ 0
  -- and so is the second place of a concept's fact
  pub empty : fact_kind word_width f ≡ 0 → fact_second word_width f ≡ 0
  -- the objects are those of a sheet
  pub first_low : fact_first word_width f < object_bound
  pub second_low : fact_second word_width f < object_bound

-- each of a table's first n words is one
pub record FactWords (table : List ℕ) (n : ℕ) : Type 0 where
  pub each : (i : ℕ) → i < n → FactWord (get_or table i 0)

-- ---- several fields as one number; w is the width of an object's number

-- the word without its second object: kind, zero bits, number and first object
abbrev pub fact_head : ℕ → ℕ → ℕ
fact_head w f = field w (16 + w) f

-- its predicate alone: kind, zero bits and number
abbrev pub fact_predicate : ℕ → ℕ → ℕ
fact_predicate w f = field (2 * w) 16 f

-- the same made of fields, with zero bits between kind and number
abbrev pub predicate_of : ℕ → ℕ → ℕ
predicate_of kind name = kind * 2 ^ 15 + name

abbrev pub head_of : ℕ → ℕ → ℕ → ℕ
head_of w predicate first = predicate * 2 ^ w + first

-- a word of 64 bits without its lowest ones, which hold what is below the bound
abbrev pub without : ℕ → ℕ → ℕ
without bound f = f % 2 ^ 64 / bound

-- the three zero bits of each of a table's first n words are zero
pub record ZeroBits (table : List ℕ) (n : ℕ) : Type 0 where
  pub each : (i : ℕ) → i < n → fact_zeros word_width (get_or table i 0) ≡ 0

-- the word with its two objects exchanged: its predicate, its second object, its first
abbrev pub exchanged : ℕ → ℕ → ℕ
exchanged w f = head_of w (head_of w (fact_predicate w f) (fact_second w f)) (fact_first w f)
