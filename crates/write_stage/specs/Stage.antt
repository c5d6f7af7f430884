-- What writing gives once rules and question are read: the union, or 15, and else 16.
use Rattle.std.specs.Prelude.{◌≡◌, ℕ, List, ltb, length, Result}
use Rattle.std.proofs.Math.Option.{Option, or_else}
use Rattle.theory.specs.Lists.{guard}
use Rattle.theory.specs.Syntax.{UCQ}
use Rattle.words.specs.Limits.{sheet_width, most_members}
use Rattle.words.specs.Refusals.{number_in}
use Rattle.words.specs.declared.refusals.Refusal.{Refusal}
use Rattle.sheets.specs.Packing.{pack_union}
use Rattle.promises.specs.Writing.{WriteOutcome, write_outcome_by}
use Rattle.write_stage.specs.declared.Written.{Written}
use Rattle.write_stage.specs.Counted.{count_written, size_written}

-- the call gives this outcome
pub record GivesOutcome (outcome : WriteOutcome) (r : Result Written Refusal) (sheet : List ℕ) : Type 0 where
  pub number_is : number_in r ≡ outcome.number
  pub count_is : count_written r ≡ outcome.count
  pub size_is : size_written r ≡ outcome.size
  pub sheet_is : sheet ≡ outcome.sheet

-- 15, and else 16
abbrev pub refusal_of_union : UCQ → ℕ → Option ℕ
refusal_of_union union room = or_else (guard (ltb most_members (length union)) 15)
    (guard (ltb room (length (pack_union sheet_width union))) 16)

-- from rules and question that were read
abbrev pub GivesUnion : UCQ → ℕ → Result Written Refusal → List ℕ → Type 0
GivesUnion union room r sheet = GivesOutcome (write_outcome_by room union (refusal_of_union union room)) r sheet
