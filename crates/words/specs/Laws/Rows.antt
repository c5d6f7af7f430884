-- The members and the rules in their tables, by number.
use Rattle.std.specs.Prelude.{◌≡◌, ℕ, ◌+◌, ◌-◌, ◌*◌, ◌≤◌, ◌<◌, List, [], ◌∷◌, map, length, get_or, drop}
use Rattle.std.proofs.Common.{ap, ◌∙◌, add-zero, arith, get_or-drop}
use Rattle.std.proofs.Math.Option.{none}
use Rattle.std.proofs.Math.ListN.{get_elem?}
use Rattle.theory.specs.Lists.{At, numbers}
use Rattle.theory.specs.Laws.Scans.{places_from, places_cons, places_nil, place_at_lem, records_length, record_at_lem, record_past}
use Rattle.words.specs.Records.{rule_in, step_of}
use Rattle.words.specs.Words.{rules_in, union_in, member_of}
use Rattle.words.specs.Rows.{Row, Rows, row_at, member_in}

-- ---- rows

module _ (table : List ℕ) (n j : ℕ) (r : Rows table n) (h : j < n) where
  pub row_within : 16 * j + 16 ≤ length table
  row_within = let l = r.long in omega arith

  pub row_there : Row (row_at table j)
  row_there = r.each j h

  -- its step is its first word
  pub step_within : 16 * j < length table
  step_within = let l = r.long in omega arith

-- the step that it says
pub step_there : (table : List ℕ) (k : ℕ) → (member_in table k).step ≡ step_of (get_or table (16 * k) 0)
unfolding member_of
step_there table k = ap step_of (get_or-drop (16 * k) table 0 0 ∙ ap (λ a. get_or table a 0) (add-zero (16 * k)))

-- a member before one that there is
module _ (table : List ℕ) (n k j : ℕ) (r : Rows table n) (g : k < n) (h : j < k) where
  pub earlier_within : 16 * j + 16 ≤ length table
  earlier_within = row_within table n j r (omega arith)

  pub earlier_there : Row (row_at table j)
  earlier_there = row_there table n j r (omega arith)

-- ---- members

module _ (table : List ℕ) (n : ℕ) where
  -- the members from number i on: member i and those after it, or none
  pub union_from : (i : ℕ) → drop i (union_in table n) ≡ map (member_in table) (numbers i (n - i))
  unfolding union_in
  union_from = places_from (member_in table) n

  pub next_member : (i : ℕ) → i < n → drop i (union_in table n) ≡ member_in table i ∷ drop (i + 1) (union_in table n)
  unfolding union_in
  next_member = places_cons (member_in table) n

  pub no_member : (i : ℕ) → n ≤ i → drop i (union_in table n) ≡ []
  unfolding union_in
  no_member = places_nil (member_in table) n

  -- member j of the union
  pub union_at : (j : ℕ) → j < n → At (union_in table n) j (member_in table j)
  unfolding union_in
  union_at = place_at_lem (member_in table) n

-- ---- rules

module _ (rules : List ℕ) (count : ℕ) (within : count ≤ length rules) where
  pub rules_length : length (rules_in rules count) ≡ count
  unfolding rules_in
  rules_length = records_length rule_in rules count within

  pub rule_there : (k : ℕ) → k < count → At (rules_in rules count) k (rule_in (get_or rules k 0))
  unfolding rules_in
  rule_there = record_at_lem rule_in rules count within

  pub no_rule_there : (k : ℕ) → count ≤ k → get_elem? (rules_in rules count) k ≡ none
  unfolding rules_in
  no_rule_there = record_past rule_in rules count

pub ruleset rows = (row_within, row_there, earlier_within, earlier_there)
