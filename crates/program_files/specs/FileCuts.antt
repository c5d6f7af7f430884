-- What was read of a file into its buffer is the file as far as one byte beyond its limit.
use Rattle.std.specs.Prelude.{◌≡◌, ℕ, suc, ◌≤◌, List, length, take}
use Rattle.std.proofs.Common.{sym, ap, ◌∙◌, inl, inr, arith, take_all}
use Rattle.promises.specs.Laws.Cut.{cut_to}
use Rattle.program_files.specs.Files.{HoldsFile}

-- what was read of a file into a buffer with room for one byte beyond the limit
pub read_first : (limit : ℕ) (file buffer : List ℕ) (count : ℕ) → length buffer ≡ suc limit → count ≤ length buffer
    → HoldsFile file buffer count
    → take count buffer ≡ cut_to limit file
read_first limit file buffer count room within read =
    read.bytes
    ∙ elim read.ended [
      | inl e ↦ take_all count file (omega arith) ∙ sym (take_all (suc limit) file (omega arith))
      | inr e ↦ ap (λ n. take n file) (e ∙ room)
    ]
