-- A call that is refused, and one that is not: what it gives is the outcome.
use Rattle.std.specs.Prelude.{◌≡◌, ℕ, List, length, replicate, Result, Ok, Err, refl}
use Rattle.std.proofs.Common.{sym, subst}
use Rattle.std.proofs.Math.Option.{Option, none, some}
use Rattle.theory.specs.Syntax.{UCQ}
use Rattle.words.specs.Limits.{sheet_width}
use Rattle.words.specs.Refusals.{code, number_in}
use Rattle.words.specs.declared.refusals.Refusal.{Refusal}
use Rattle.sheets.specs.Packing.{pack_union, union_sheet}
use Rattle.promises.specs.Writing.{write_outcome_by}
use Rattle.write_stage.specs.declared.Written.{Written}
use Rattle.write_stage.specs.Counted.{count_written, size_written}
use Rattle.write_stage.specs.Stage.{GivesOutcome}

module _ (union : UCQ) (room : ℕ) (o : Option ℕ) (sheet : List ℕ) where
  pub gives_refusal : (refusal : Refusal) (r : Result Written Refusal) → o ≡ some (code refusal) → r ≡ Err refusal
      → sheet ≡ replicate room 0 → GivesOutcome (write_outcome_by room union o) r sheet
  gives_refusal refusal r e is zeros =
      let P : Option ℕ → Type 0 = λ o. GivesOutcome (write_outcome_by room union o) (Err refusal) sheet in
      let Q : Result Written Refusal → Type 0 = λ r. GivesOutcome (write_outcome_by room union o) r sheet in
      subst Q (sym is) (subst P (sym e) record { number_is = refl; count_is = refl; size_is = refl; sheet_is = zeros })

  -- the same, said of numbers
  pub gives_number : (n : ℕ) (r : Result Written Refusal) → o ≡ some n → number_in r ≡ n → count_written r ≡ 0 → size_written r ≡ 0
      → sheet ≡ replicate room 0 → GivesOutcome (write_outcome_by room union o) r sheet
  gives_number n r e number count size zeros =
      subst (λ o. GivesOutcome (write_outcome_by room union o) r sheet) (sym e)
      record { number_is = number; count_is = count; size_is = size; sheet_is = zeros }

  pub gives_union : (w : Written) → o ≡ none → w.count ≡ length union → w.length ≡ length (pack_union sheet_width union)
      → sheet ≡ union_sheet sheet_width room union → GivesOutcome (write_outcome_by room union o) (Ok w) sheet
  gives_union w e count size bytes =
      let P : Option ℕ → Type 0 = λ o. GivesOutcome (write_outcome_by room union o) (Ok w) sheet in
      subst P (sym e) record { number_is = refl; count_is = count; size_is = size; sheet_is = bytes }
