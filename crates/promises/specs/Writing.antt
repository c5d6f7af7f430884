-- What writing a union gives, with only bytes in it (02, T-02, "Our own unions"). Everything follows from the two sheets and the length of
-- the lent one, `room`.
use Rattle.std.specs.Prelude.{◌≡◌, ◌↔◌, ℕ, ◌-◌, ◌≤◌, ◌<◌, List, [], ◌∷◌, ◌++◌, ltb, length, take, drop, replicate}
use Rattle.std.proofs.Math.Option.{Option, none, some, or_else}
use Rattle.theory.specs.Lists.{guard}
use Rattle.theory.specs.Syntax.{UCQ}
use Rattle.theory.specs.Writing.{written_union, MoreThan}
use Rattle.words.specs.Limits.{sheet_width, most_members}
use Rattle.sheets.specs.Packing.{pack_union, union_sheet}
use Rattle.sheets.specs.Refusals.{Sheets, writing}
use Rattle.promises.specs.TheSheets.{the_rules, the_question, the_union, the_refusal, NotRefused, the_conditions}
use Rattle.promises.specs.Checking.{SoundAndAccepted}

-- number, count, length and every byte of the lent sheet
pub record WriteOutcome : Type 0 where
  pub number : ℕ
  pub count : ℕ
  pub size : ℕ
  pub sheet : List ℕ

-- "Here and later a refusal leaves zeros in all that was lent for writing." Else the members, with roles as read, by the packing of 01's
-- sheets: "the lent sheet is zero after them, and the count of members is returned".
abbrev pub write_outcome_by : ℕ → UCQ → Option ℕ → WriteOutcome
write_outcome_by room union (some n) = record { number = n; count = 0; size = 0; sheet = replicate room 0 }
write_outcome_by room union none = record {
  number = 0;
  count = length union;
  size = length (pack_union sheet_width union);
  sheet = union_sheet sheet_width room union;
}

module _ (rules question : List ℕ) where
  abbrev pub two_sheets : Sheets
  two_sheets = record { rules = rules; question = question; union = []; facts = [] }

  -- the sheets meet none of 1, 2, 17, 3 to 5 and 18
  abbrev pub SoundToWrite : Type 0
  SoundToWrite = NotRefused writing two_sheets

  -- the union that the sheets' rules and question make, where at most 512 members are allowed
  abbrev pub the_written : UCQ
  the_written = written_union most_members (the_rules rules) (the_question question)

  -- 15: "more than 512 unlike questions"
  abbrev pub TooMany : Type 0
  TooMany = MoreThan most_members (the_rules rules) (the_question question)

  -- its length in bytes
  abbrev pub union_bytes : ℕ
  union_bytes = length (pack_union sheet_width the_written)

  module _ (room : ℕ) where
    -- "after 5 in that order", and after 18 (02, T-04): the first of 1, 2, 17, 3 to 5 and 18 that applies, by the one list of refusals;
    -- else 15; and else 16, "the lent sheet is shorter than the union"
    abbrev pub refusal_to_write : Option ℕ
    refusal_to_write =
        or_else (or_else (the_refusal writing two_sheets) (guard (ltb most_members (length the_written)) 15))
        (guard (ltb room union_bytes) 16)

    -- the list whole, each condition in the papers' words
    abbrev pub write_conditions : List {1} (ℕ × Type 0)
    write_conditions = the_conditions writing two_sheets ++ ((15, TooMany) ∷ (16, room < union_bytes) ∷ [])

    -- THE OUTCOME of a call: its number, its count, its length and every byte of the lent sheet.
    unfoldable pub write_outcome : WriteOutcome
    unfolding or_else
    write_outcome = write_outcome_by room the_written refusal_to_write

    -- THE PLEDGE of `write`: what number, count and length it returns, and what the lent sheet holds then.
    pub record UnionWritten (number count size : ℕ) (sheet : List ℕ) : Type 0 where
      -- all four are the outcome's
      pub number_is : number ≡ write_outcome.number
      pub count_is : count ≡ write_outcome.count
      pub size_is : size ≡ write_outcome.size
      pub sheet_is : sheet ≡ write_outcome.sheet
      -- 0 exactly where the sheets are sound, at most 512 unlike questions are reached, and the union fits
      pub zero : (number ≡ 0) ↔ (SoundToWrite × (¬ TooMany) × (union_bytes ≤ room))
      -- "15 comes only where its condition truly holds", and wherever it does, however short the sheet
      pub fifteen : (number ≡ 15) ↔ (SoundToWrite × TooMany)
      -- 16 exactly where all that is wrong is the length of the sheet
      pub sixteen : (number ≡ 16) ↔ (SoundToWrite × (¬ TooMany) × (room < union_bytes))
      -- "The written union is one the desk accepts": demand 2's own words, of the bytes written
      pub accepted : number ≡ 0 → SoundAndAccepted rules question (take size sheet)
      -- which say the union, and no more of them than the count says
      pub reads : number ≡ 0 → (the_union (take size sheet) ≡ the_written) × (count ≡ length (the_union (take size sheet)))
      -- "the lent sheet is zero after them"
      pub rest : number ≡ 0 → drop size sheet ≡ replicate (room - size) 0
      -- "a refusal leaves zeros in all that was lent for writing"
      pub refused : (number ≡ 0 → ⊥) → (count ≡ 0) × (size ≡ 0) × (sheet ≡ replicate room 0)
