-- Going along a chain: only what stands at its place can pass a test, so that when the chain ends nothing is left that could.
use Rattle.std.specs.Prelude.{◌≡◌, ℕ, zero, suc, ◌+◌, ◌-◌, ◌≤◌, ◌<◌, Bool, true, false, ◌||◌, List, get_or, replicate, Option, None, Some}
use Rattle.std.proofs.Common.{sym, ap, subst, ◌∙◌, inl, inr, arith}
use Rattle.std.proofs.Math.Bool.{or-true}
use Rattle.std.proofs.lemmas.List.{length-replicate, get_or-replicate}
use Rattle.theory.specs.Lists.{any, numbers}
use Rattle.theory.specs.Laws.Options.{three_ways}
use Rattle.theory.specs.Laws.Scans.{some_from, some_begins, some_next, some_past, skip, NoneIn}
use Rattle.check_chains.specs.Chains.{place_of, after, Last, Cleared}

-- of the first n words only those at place h pass the test
pub record OnlyAt (p : ℕ → Bool) (words : List ℕ) (h n : ℕ) : Type 0 where
  pub each : (i : ℕ) → i < n → (place_of (get_or words i 0) ≡ h → ⊥) → p i ≡ false

-- all from number `at` on were looked at or stand elsewhere, and none passes; the one before it stands at place h
pub record Walked (p : ℕ → Bool) (words : List ℕ) (h n at : ℕ) : Type 0 where
  pub only : OnlyAt p words h n
  pub low : at ≤ n
  pub here : 0 < at → place_of (get_or words (at - 1) 0) ≡ h
  pub none : NoneIn p at n

module _ (p : ℕ → Bool) (words : List ℕ) (h n at : ℕ) where
  pub walk_begins : OnlyAt p words h n → Last words n h at → Walked p words h n at
  walk_begins only last = record {
    only = only;
    low = last.low;
    here = last.here;
    none = record { each = λ k g l. only.each k l (last.above k g l) };
  }

-- word j is looked at
module _ (p : ℕ → Bool) (words : List ℕ) (h n j : ℕ) (walked : Walked p words h n (j + 1)) where
  pub walk_within : j < n
  walk_within = let g = walked.low in omega arith

  there_lem : place_of (get_or words j 0) ≡ h
  there_lem = let e : j + 1 - 1 ≡ j = omega arith in ap (λ i. place_of (get_or words i 0)) (sym e) ∙ walked.here (omega arith)

  -- and does not pass
  pub walk_on : (next : ℕ) (b : Bool) → b ≡ p j → b ≡ false → Last words j (place_of (get_or words j 0)) next → Walked p words h n next
  walk_on next b e f last = record {
    only = walked.only;
    low = let l = last.low in let g = walked.low in omega arith;
    here = λ g. last.here g ∙ there_lem;
    none = record { each = each };
  }
    where
      each : (k : ℕ) → next ≤ k → k < n → p k ≡ false
      each k g l =
          elim (three_ways k j) [
            | inl below ↦ walked.only.each k l (λ there. last.above k g below (there ∙ sym there_lem))
            | inr (inl d) ↦ ap p d ∙ sym e ∙ f
            | inr (inr above) ↦ walked.none.each k (omega arith) l
          ]

-- one passes
some_at : (p : ℕ → Bool) (n k d from : ℕ) → from + d ≡ k → k < n → p k ≡ true → some_from p from n ≡ true
some_at p n k zero from e l t =
    let same : k ≡ from = omega arith in
    some_next p from n (omega arith) ∙ simp (sym (ap p same) ∙ t)
some_at p n k (suc d) from e l t =
    some_next p from n (omega arith) ∙ ap (λ b. p from || b) (some_at p n k d (from + 1) (omega arith) l t) ∙ or-true (p from)

-- r says whether one from number `from` on passes
module _ (p : ℕ → Bool) (words : List ℕ) (h n from : ℕ) (r : Bool) (left : some_from p from n ≡ r) where
  module _ (j : ℕ) (walked : Walked p words h n (j + 1)) where
    pub walk_found : (b : Bool) → from ≤ j → b ≡ p j → b ≡ true → true ≡ r
    walk_found b l e t =
        let low = walked.low in
        sym (some_at p n j (j - from) from (omega arith) (omega arith) (sym e ∙ t)) ∙ left

    pub walk_past : j < from → from ≤ n → false ≡ r
    walk_past g l =
        sym (skip p n n (n - from) from (omega arith) (omega arith) (λ i k m. walked.none.each i (omega arith) m)
        ∙ some_past p n n (omega arith)) ∙ left

  pub walk_ends : Walked p words h n 0 → from ≤ n → false ≡ r
  walk_ends walked l =
      sym (skip p n n (n - from) from (omega arith) (omega arith) (λ i k m. walked.none.each i (omega arith) m)
      ∙ some_past p n n (omega arith)) ∙ left

-- whether one of the first n passes
module _ (p : ℕ → Bool) (words : List ℕ) (h n : ℕ) where
  pub one_found : (j : ℕ) (b : Bool) → Walked p words h n (j + 1) → b ≡ p j → b ≡ true → true ≡ any p (numbers 0 n)
  one_found j b walked = walk_found p words h n 0 (any p (numbers 0 n)) (some_begins p n) j walked b (omega arith)

  pub none_found : Walked p words h n 0 → false ≡ any p (numbers 0 n)
  none_found walked = walk_ends p words h n 0 (any p (numbers 0 n)) (some_begins p n) walked (omega arith)

-- what the loop looks at
module _ (p : ℕ → Bool) (words : List ℕ) (h n : ℕ) (at : Option ℕ) (walked : Walked p words h n (after at)) where
  pub walk_at : (j : ℕ) → at ≡ Some j → Walked p words h n (j + 1)
  walk_at j e = subst (λ o. Walked p words h n (after o)) e walked

  pub walk_out : at ≡ None → Walked p words h n 0
  walk_out e = subst (λ o. Walked p words h n (after o)) e walked

pub walk_less : (words : List ℕ) (h j : ℕ) (at next : Option ℕ) → at ≡ Some j → Last words j h (after next) → after next < after at
walk_less words h j at next e last = subst (λ o. after next < after o) (sym e) (let l = last.low in omega arith)

pub ruleset walks = (walk_begins, walk_on, walk_within, walk_at, walk_out, walk_less)

-- ---- the index

pub cleared : Cleared (replicate 1024 0)
cleared = record { long = length-replicate {A = ℕ} 1024 0; zero = λ h l. get_or-replicate {A = ℕ} 1024 h 0 0 (omega arith) }
