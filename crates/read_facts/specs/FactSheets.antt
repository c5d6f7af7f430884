-- What reading a fact sheet gives, and a fact's word by its fields.
use Rattle.std.specs.Prelude.{◌≡◌, ℕ, ◌/◌, List, length}
use Rattle.theory.specs.Refusals.{first_refusal}
use Rattle.words.specs.FactWords.{FactWords}
use Rattle.words.specs.Limits.{sheet_width, word_width, most_facts, record_bytes}
use Rattle.words.specs.Records.{fact_kind, fact_zeros, fact_name, fact_first, fact_second}
use Rattle.words.specs.Words.{facts_in}
use Rattle.sheets.specs.Reading.{facts_as_read}
use Rattle.sheets.specs.Refusals.{number_of, fact_refusals}
use Rattle.read_records.specs.ReadInto.{ReadInto}

pub record FactsRead (partners s table : List ℕ) (number count : ℕ) : Type 0 where
  -- the number is that of the first of 12 and 13 that applies; where none does, the table's first `count` words are the sheet's facts as
  -- read, and the count is their number
  pub sheet : ReadInto
      (number_of (first_refusal (fact_refusals sheet_width s))) (facts_as_read partners sheet_width s)
      (facts_in table) most_facts number count
  -- they are so bit for bit
  pub words : FactWords table count

-- the table begins with the sheet's facts as read, bit for bit
pub record HoldsFacts (partners s table : List ℕ) : Type 0 where
  pub facts : facts_in table (length s / record_bytes sheet_width) ≡ facts_as_read partners sheet_width s
  pub words : FactWords table (length s / record_bytes sheet_width)

-- the word has the record's fields
pub record Widened (x f : ℕ) : Type 0 where
  pub kind_is : fact_kind word_width f ≡ fact_kind sheet_width x
  pub zeros_are : fact_zeros word_width f ≡ fact_zeros sheet_width x
  pub name_is : fact_name word_width f ≡ fact_name sheet_width x
  pub first_is : fact_first word_width f ≡ fact_first sheet_width x
  pub second_is : fact_second word_width f ≡ fact_second sheet_width x

-- the word with these fields, and zero bits where a fact has them
pub record HasFields (kind name first second f : ℕ) : Type 0 where
  pub kind_is : fact_kind word_width f ≡ kind
  pub zeros : fact_zeros word_width f ≡ 0
  pub name_is : fact_name word_width f ≡ name
  pub first_is : fact_first word_width f ≡ first
  pub second_is : fact_second word_width f ≡ second
