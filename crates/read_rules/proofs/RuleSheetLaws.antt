-- A rule sheet, record by record: the tests of 2 and 17 on it, and its pairs counted.
use mathlib.Core.Path.{◌≡◌, sym, ap, ◌∙◌}
use Prim.Native.Nat.{ℕ, suc, ◌+◌, ◌/◌, ◌≤◌, ◌<◌}
use native.Mathlib.Omega.{arith}
use mathlib.Core.Bool.{Bool, true, false, not, ◌&&◌}
use mathlib.Core.List.{List}
use lib.Dec.{eqb}
use lib.ListN.{length}
use borrow.Author.Rules.{rules}
use borrow.Author.Tests.{eq-eqb, ne_eqb}
use Rattle.theory.specs.Lists.{pick, count}
use Rattle.words.specs.Limits.{rule_bytes}
use Rattle.words.specs.Records.{rule_kind}
use Rattle.sheets.specs.Format.{rule_records, pairs_in}
use Rattle.sheets.specs.Tests.{follows, pairs_sound}
use Rattle.read_rules.specs.Filling.{rest}
use Rattle.sheets.specs.Laws.RecordLoops.{Nth}
use Rattle.sheets.proofs.Laws.RecordLoops.{left_all, left_next, left_none, row_laws}

pub ruleset all_laws = (rules, row_laws)

-- ---- pairs

module _ (s : List ℕ) where
  pub pairs_begin : pairs_sound false (rest s 0) ≡ pairs_sound false (rule_records s)
  pairs_begin = ap (pairs_sound false) (left_all rule_bytes s 0 (length s / rule_bytes))

  -- b is what is asked for
  module _ (i : ℕ) (waits b : Bool) (so_far : pairs_sound waits (rest s i) ≡ b) where
    pub pairs_end : length s / rule_bytes ≤ i → (r : Bool) → r ≡ not waits → r ≡ b
    unfolding pairs_sound
    pairs_end h r e = e ∙ sym (ap (pairs_sound waits) (left_none rule_bytes s 0 (length s / rule_bytes) i h)) ∙ so_far

    module _ (h : i < length s / rule_bytes) (x : ℕ) (here : Nth rule_bytes s 0 i x) (t : Bool) (e : t ≡ follows waits x) where
      next : (t && pairs_sound (eqb (rule_kind x) 3) (rest s (i + 1))) ≡ b
      unfolding pairs_sound
      next =
          rw (e, here.is) (sym (ap (pairs_sound waits) (left_next rule_bytes s 0 (length s / rule_bytes) i h)) ∙ so_far)

      pub pairs_fail : t ≡ false → false ≡ b
      pairs_fail d = rw d at next

      pub pairs_go_on : t ≡ true → (k : ℕ) (w : Bool) → k ≡ rule_kind x → w ≡ eqb k 3 → pairs_sound w (rest s (i + 1)) ≡ b
      pairs_go_on d k w ek ew = let n : pairs_sound (eqb (rule_kind x) 3) (rest s (i + 1)) ≡ b = rw d at next in rw (ew, ek) n

pub ruleset sound_laws = (rules, row_laws, pairs_begin, pairs_end, pairs_fail, pairs_go_on)

-- ---- how many

module _ (s : List ℕ) where
  pub count_begins : 0 + pairs_in (rest s 0) ≡ pairs_in (rule_records s)
  count_begins = let e : 0 + pairs_in (rest s 0) ≡ pairs_in (rest s 0) = omega arith in
      e ∙ ap pairs_in (left_all rule_bytes s 0 (length s / rule_bytes))

  module _ (i pairs total : ℕ) (so_far : pairs + pairs_in (rest s i) ≡ total) where
    pub count_ends : length s / rule_bytes ≤ i → pairs ≡ total
    unfolding pairs_in count
    count_ends h =
        let e : pairs_in (rest s i) ≡ 0 = ap pairs_in (left_none rule_bytes s 0 (length s / rule_bytes) i h) in omega arith

    -- with the record at i, whose kind is k
    module _ (h : i < length s / rule_bytes) (x k : ℕ) (here : Nth rule_bytes s 0 i x) (e : k ≡ rule_kind x) (later : ℕ) where
      left_there : pairs_in (rest s i) ≡ pick (eqb (rule_kind x) 3) (suc (pairs_in (rest s (i + 1)))) (pairs_in (rest s (i + 1)))
      unfolding pairs_in count
      left_there = ap pairs_in (left_next rule_bytes s 0 (length s / rule_bytes) i h) ∙ rw here.is

      pub pair_counted : k ≡ 3 → later ≡ pairs + 1 → later + pairs_in (rest s (i + 1)) ≡ total
      pair_counted d g =
          let n : pairs_in (rest s i) ≡ suc (pairs_in (rest s (i + 1))) =
          left_there ∙ rw (eq-eqb (rule_kind x) 3 (sym e ∙ d)) in omega arith

      pub rule_passed : (k ≡ 3 → ⊥) → later ≡ pairs → later + pairs_in (rest s (i + 1)) ≡ total
      rule_passed d g =
          let n : pairs_in (rest s i) ≡ pairs_in (rest s (i + 1)) =
          left_there ∙ rw (ne_eqb (rule_kind x) 3 (λ f. d (e ∙ f))) in omega arith

pub ruleset count_laws = (rules, row_laws, count_begins, count_ends, pair_counted, rule_passed)
