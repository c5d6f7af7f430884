-- Going along a chain by numbers, as an index holds them: the number after a word, and 0 where there is none. These are the laws of the
-- walk over options, said of the numbers themselves.
use Rattle.std.specs.Prelude.{◌≡◌, ℕ, zero, suc, ◌+◌, ◌-◌, ◌≤◌, ◌<◌, Bool, true, false, ◌||◌, List, length, get_or}
use Rattle.std.proofs.Common.{sym, ap, ◌∙◌, inl, inr, arith}
use Rattle.std.proofs.Math.Bool.{or-true}
use Rattle.theory.specs.Lists.{any, numbers}
use Rattle.theory.specs.Laws.Options.{three_ways}
use Rattle.theory.specs.Laws.Scans.{some_from, some_begins, some_next, some_past, skip}
use Rattle.check_chains.specs.Chains.{place_of, Last, Chains, index_words}
use Rattle.check_chains.specs.WalkLaws.{Walked}

-- a full index is one of the first n words; a shorter one says nothing, and the words are gone through
pub record Indexed (words : List ℕ) (n : ℕ) (index : List ℕ) : Type 0 where
  pub chained : index_words ≤ length index → Chains words n index

pub is_indexed : (words index : List ℕ) (n : ℕ) → Indexed words n index → 1024 ≤ length index → Chains words n index
is_indexed words index n ix h = ix.chained h

module _ (p : ℕ → Bool) (words : List ℕ) (h n at : ℕ) where
  pub walk_on : (next from : ℕ) (b : Bool) → Walked p words h n at → from < at → b ≡ p (at - 1) → b ≡ false
      → Last words (at - 1) (place_of (get_or words (at - 1) 0)) next → Walked p words h n next
  walk_on next from b walked more e f last = record {
    only = walked.only;
    low = let l = last.low in let g = walked.low in omega arith;
    here = λ g. last.here g ∙ walked.here pos;
    none = record { each = each };
  }
    where
      pos : 0 < at
      pos = omega arith

      each : (k : ℕ) → next ≤ k → k < n → p k ≡ false
      each k g l =
          elim (three_ways k (at - 1)) [
            | inl below ↦ walked.only.each k l (λ there. last.above k g below (there ∙ sym (walked.here pos)))
            | inr (inl d) ↦ ap p d ∙ sym e ∙ f
            | inr (inr above) ↦ walked.none.each k (omega arith) l
          ]

-- one passes
some_at : (p : ℕ → Bool) (n k d from : ℕ) → from + d ≡ k → k < n → p k ≡ true → some_from p from n ≡ true
some_at p n k zero from e l t =
    let same : k ≡ from = omega arith in
    some_next p from n (omega arith) ∙ simp (sym (ap p same) ∙ t)
some_at p n k (suc d) from e l t =
    some_next p from n (omega arith) ∙ ap (λ b. p from || b) (some_at p n k d (from + 1) (omega arith) l t) ∙ or-true (p from)

-- r says whether one from number `from` on passes
module _ (p : ℕ → Bool) (words : List ℕ) (h n at from : ℕ) (r : Bool) (left : some_from p from n ≡ r) (walked : Walked p words h n at) where
  pub walk_found : (b : Bool) → from < at → b ≡ p (at - 1) → b ≡ true → true ≡ r
  walk_found b l e t =
      let low = walked.low in
      sym (some_at p n (at - 1) (at - 1 - from) from (omega arith) (omega arith) (sym e ∙ t)) ∙ left

  pub walk_ends : at ≤ from → from ≤ n → false ≡ r
  walk_ends g l =
      sym (skip p n n (n - from) from (omega arith) (omega arith) (λ i k m. walked.none.each i (omega arith) m)
      ∙ some_past p n n (omega arith)) ∙ left

-- whether one of the first n passes
module _ (p : ℕ → Bool) (words : List ℕ) (h n at : ℕ) (walked : Walked p words h n at) where
  pub one_found : (b : Bool) → 0 < at → b ≡ p (at - 1) → b ≡ true → true ≡ any p (numbers 0 n)
  one_found = walk_found p words h n at 0 (any p (numbers 0 n)) (some_begins p n) walked

  pub none_found : at ≤ 0 → false ≡ any p (numbers 0 n)
  none_found g = walk_ends p words h n at 0 (any p (numbers 0 n)) (some_begins p n) walked g (omega arith)

-- ---- the loop's bounds

module _ (p : ℕ → Bool) (words : List ℕ) (h n at from : ℕ) (walked : Walked p words h n at) where
  pub walk_low : at ≤ n
  walk_low = walked.low

  pub walk_within : from < at → at - 1 < n
  walk_within l = let g = walked.low in omega arith

  pub walk_before : from < at → (0 < at) × (at ≤ n)
  walk_before l = (omega arith, walked.low)

pub walk_less : (words : List ℕ) (h at from next : ℕ) → from < at → Last words (at - 1) h next → next < at
walk_less words h at from next l last = let g = last.low in omega arith
