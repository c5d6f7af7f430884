-- A sheet refused, a sheet read, and what a reader's caller takes from either.
use Rattle.std.specs.Prelude.{◌≡◌, ℕ, ◌≤◌, true, List, leb, length}
use Rattle.std.proofs.Common.{◌∙◌, arith, leb-true}
use Rattle.read_records.specs.ReadInto.{ReadInto}

module _ {X : Type 0} (refusal : ℕ) (values : List X) (held : ℕ → List X) (most number count : ℕ) where
  -- k is the number that a reader refuses by
  pub sheet_refused : (k : ℕ) → number ≡ k → leb 1 k ≡ true → k ≡ refusal → count ≡ 0 → ReadInto refusal values held most number count
  sheet_refused k e some is zero =
      let l : 1 ≤ k = leb-true 1 k some in
      record {
        number_is = e ∙ is;
        read = λ none. absurd (omega arith);
        counted = λ none. absurd (omega arith);
        none = λ refused. zero;
        few = omega arith;
      }

  pub sheet_read : number ≡ 0 → 0 ≡ refusal → held count ≡ values → count ≡ length values → count ≤ most
      → ReadInto refusal values held most number count
  sheet_read e is read counted few = record {
    number_is = e ∙ is;
    read = λ none. read;
    counted = λ none. counted;
    none = λ refused. absurd (refused e);
    few = few;
  }

  module _ (r : ReadInto refusal values held most number count) where
    pub read_there : number ≡ 0 → held count ≡ values
    read_there e = r.read e

    pub count_there : number ≡ 0 → count ≡ length values
    count_there e = r.counted e

pub ruleset reading_laws = (read_there, count_there)
