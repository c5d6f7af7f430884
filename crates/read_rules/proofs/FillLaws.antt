-- The table filled with the rules as read, rule by rule: one record for one place, or a pair of records for three.
use mathlib.Core.Path.{◌≡◌, refl, sym, ap, ap₂, ◌∙◌, subst}
use mathlib.Core.Logic.{inl, inr}
use Prim.Native.Nat.{ℕ, ◌+◌, ◌-◌, ◌*◌, ◌/◌, ◌≤◌, ◌<◌}
use native.Mathlib.Numerals.{add-one}
use native.Mathlib.Omega.{arith}
use mathlib.Core.Bool.{true, false}
use mathlib.Core.List.{List, [], ◌∷◌, ◌++◌, map, flat_map, append_assoc, append-nil, map-append}
use lib.Dec.{T}
use lib.ListN.{length, take, set, length-append, length-map, length-set}
use lib.Seq.{take-suc-set, length-take-le}
use borrow.Author.Rules.{rules}
use Rattle.theory.specs.Lists.{all}
use Rattle.theory.specs.Syntax.{Rule}
use Rattle.theory.specs.Qualified.{WrittenRule, read_as, placed_from, first_helper, rules_read}
use Rattle.theory.specs.Laws.Options.{T_and, is_true}
use Rattle.theory.proofs.Laws.QualifiedPlaces.{rules_from}
use Rattle.words.specs.Limits.{sheet_width, name_bound, rule_bytes, most_rules}
use Rattle.words.specs.Records.{rule_kind, is_rule, kind3_forms, rule_in, qualified_in}
use Rattle.words.specs.Words.{rules_in}
use Rattle.sheets.specs.Format.{rule_records, written_in, written_of}
use Rattle.sheets.specs.Partners.{rule_as_read, written_as_read}
use Rattle.sheets.specs.Reading.{rules_as_written, rules_as_read}
use Rattle.sheets.specs.Tests.{passes2, pairs_sound}
use Rattle.sheets.proofs.Laws.Tests.{lt_or_le}
use Rattle.sheets.specs.Laws.RecordLoops.{Nth}
use Rattle.sheets.proofs.Laws.RecordLoops.{left_all, left_next, left_none, row_laws}
use Rattle.sheets.proofs.Laws.RuleSheets.{written_rule, written_pair, sound_three, sound_four, sound_other}
use Rattle.read_rule.specs.PairPut.{PairPut}
use Rattle.read_rules.specs.Filling.{FewRules, rest, rules_of_rest, FillingRules}

pub fill_begins : (p s table : List ℕ) → all passes2 (rule_records s) ≡ true → pairs_sound false (rule_records s) ≡ true
    → FewRules p s → most_rules ≤ length table → FillingRules p s table 0 0 4095
unfolding rules_as_read rules_read rules_as_written written_of
fill_begins p s table named sound allowed room =
    let e = left_all rule_bytes s 0 (length s / rule_bytes) in
    record {
      filled = ap (λ (records : List ℕ). rules_of_rest p records 0 4095) e;
      named = ap (all passes2) e ∙ named;
      sound = ap (pairs_sound false) e ∙ sound;
      few = allowed.few;
      most = omega arith;
      room = room;
      within = omega arith;
      highest = omega arith;
      lowest = omega arith;
    }

module _ (p s table : List ℕ) (i count helper : ℕ) (so_far : FillingRules p s table i count helper) where
  few : length (rules_as_read p sheet_width s) ≤ most_rules
  few = so_far.few

  most : count ≤ most_rules
  most = so_far.most

  room : most_rules ≤ length table
  room = so_far.room

  fits : count ≤ length table
  fits = let m = most in let r = room in omega arith

  -- the places filled and the rules to come are all
  places : count + length (rules_of_rest p (rest s i) count helper) ≤ most_rules
  places =
      let so : length (map rule_in (take count table)) ≡ count = length-map (take count table) rule_in ∙ length-take-le count table fits in
      let all : length (map rule_in (take count table)) + length (rules_of_rest p (rest s i) count helper)
      ≡ length (rules_as_read p sheet_width s) =
      sym (length-append (map rule_in (take count table)) (rules_of_rest p (rest s i) count helper)) ∙ ap length so_far.filled in
      let l = few in
      omega arith

  pub fill_ends : length s / rule_bytes ≤ i → rules_in table (length (rules_as_read p sheet_width s)) ≡ rules_as_read p sheet_width s
  unfolding rules_in written_in placed_from flat_map
  fill_ends h =
      let none : rules_of_rest p (rest s i) count helper ≡ [] =
      ap (λ (records : List ℕ). rules_of_rest p records count helper) (left_none rule_bytes s 0 (length s / rule_bytes) i h) in
      let whole : map rule_in (take count table) ≡ rules_as_read p sheet_width s =
      sym (append-nil (map rule_in (take count table))) ∙ ap (λ (l : List Rule). map rule_in (take count table) ++ l) (sym none)
      ∙ so_far.filled in
      let so : length (rules_as_read p sheet_width s) ≡ count =
      ap length (sym whole) ∙ length-map (take count table) rule_in ∙ length-take-le count table fits in
      ap (λ k. map rule_in (take k table)) so ∙ whole

  module _ (h : i < length s / rule_bytes) (x : ℕ) (here : Nth rule_bytes s 0 i x) where
    -- the records left begin with x
    first : rest s i ≡ x ∷ rest s (i + 1)
    first = left_next rule_bytes s 0 (length s / rule_bytes) i h ∙ ap (λ y. y ∷ rest s (i + 1)) (sym here.is)

    sound_first : T (pairs_sound false (x ∷ rest s (i + 1)))
    sound_first = subst T (sym (ap (pairs_sound false) (sym first) ∙ so_far.sound)) tt

    named_first : T (passes2 x) × T (all passes2 (rest s (i + 1)))
    unfolding all
    named_first =
        (T_and (passes2 x) (all passes2 (rest s (i + 1)))).0 (subst T (sym (ap (all passes2) (sym first) ∙ so_far.named)) tt)

    -- ---- one record

    module _ (other : rule_kind x ≡ 3 → ⊥) where
      parts : T (is_rule x) × T (pairs_sound false (rest s (i + 1)))
      parts = sound_other x (rest s (i + 1)) sound_first named_first.0 other

      pub one_is_rule : is_rule x ≡ true
      one_is_rule = is_true (is_rule x) parts.0

      one_rule : rules_of_rest p (rest s i) count helper ≡ rule_as_read p (rule_in x) ∷ rules_of_rest p (rest s (i + 1)) (count + 1) helper
      unfolding placed_from flat_map written_as_read
      one_rule =
          let same : helper - 0 ≡ helper = omega arith in
          ap (λ (records : List ℕ). rules_of_rest p records count helper) first
          ∙ ap (λ (ws : List WrittenRule). rules_from count helper (map (written_as_read p) ws)) (written_rule x (rest s (i + 1)) parts.0)
          ∙ ap (λ H. rule_as_read p (rule_in x) ∷ rules_of_rest p (rest s (i + 1)) (count + 1) H) same

      pub one_fits : count + 1 ≤ most_rules
      one_fits = let e = ap length one_rule in let l = places in omega arith

      pub one_within : count < length table
      one_within = let l = one_fits in let r = room in omega arith

      pub fill_one : (v : ℕ) → rule_in v ≡ rule_as_read p (rule_in x) → FillingRules p s (set table count v) (i + 1) (count + 1) helper
      fill_one v word =
          let put : take (count + 1) (set table count v) ≡ take count table ++ (v ∷ []) =
          rw add-one (take-suc-set table count v one_within) in
          let later : List Rule = rules_of_rest p (rest s (i + 1)) (count + 1) helper in
          record {
            filled =
                ap (λ l. map rule_in l ++ later) put
                ∙ ap (λ (l : List Rule). l ++ later) (map-append rule_in (take count table) (v ∷ []))
                ∙ append_assoc (map rule_in (take count table)) (rule_in v ∷ []) later
                ∙ ap (λ r. map rule_in (take count table) ++ (r ∷ later)) word
                ∙ ap (λ (l : List Rule). map rule_in (take count table) ++ l) (sym one_rule)
                ∙ so_far.filled;
            named = is_true (all passes2 (rest s (i + 1))) named_first.1;
            sound = is_true (pairs_sound false (rest s (i + 1))) parts.1;
            few = few;
            most = one_fits;
            room = rw (length-set table count v) room;
            within = omega arith;
            highest = so_far.highest;
            lowest = let l : first_helper ≤ helper + count = so_far.lowest in omega arith;
          }

    -- ---- a pair

    module _ (three : rule_kind x ≡ 3) where
      opened : T (kind3_forms x) × T (pairs_sound true (rest s (i + 1)))
      opened = sound_three x (rest s (i + 1)) sound_first three

      pub pair_forms_lem : kind3_forms x ≡ true
      pair_forms_lem = is_true (kind3_forms x) opened.0

      -- its kind 4 is there
      pub next_there : i + 1 < length s / rule_bytes
      unfolding pairs_sound
      next_there = elim (lt_or_le (i + 1) (length s / rule_bytes)) [
        | inl l ↦ l
        | inr l ↦ absurd (waits (subst (λ (records : List ℕ). T (pairs_sound true records))
            (left_none rule_bytes s 0 (length s / rule_bytes) (i + 1) l) opened.1))
      ]
        where
          waits : ¬ T (pairs_sound true [])
          waits t = t

      pub pair_passed : i + 2 ≤ length s / rule_bytes
      pair_passed = let l = next_there in omega arith

      pub next_within : rule_bytes * (i + 1) + 4 ≤ length s
      next_within = let l = next_there in omega arith

      module _ (y : ℕ) (next : Nth rule_bytes s 0 (i + 1) y) where
        second : rest s (i + 1) ≡ y ∷ rest s (i + 2)
        second =
            let e : (i + 1) + 1 ≡ i + 2 = omega arith in
            left_next rule_bytes s 0 (length s / rule_bytes) (i + 1) next_there
            ∙ ap₂ (λ z j. z ∷ rest s j) (sym next.is) e

        closed : (rule_kind y ≡ 4) × T (pairs_sound false (rest s (i + 2)))
        closed =
            let c = sound_four y (rest s (i + 2)) (subst (λ (records : List ℕ). T (pairs_sound true records)) second opened.1) in
            (c.0, c.2)

        three_rules : rules_of_rest p (rest s i) count helper
            ≡ read_as helper (written_as_read p (qualified_in x y)) ++ rules_of_rest p (rest s (i + 2)) (count + 3) (helper - 1)
        unfolding placed_from flat_map written_as_read qualified_in
        three_rules =
            ap (λ (records : List ℕ). rules_of_rest p records count helper) (first ∙ ap (λ (l : List ℕ). x ∷ l) second)
            ∙ ap (λ (ws : List WrittenRule). rules_from count helper (map (written_as_read p) ws))
            (written_pair x y (rest s (i + 2)) three closed.0)

        named_later : T (all passes2 (rest s (i + 2)))
        unfolding all
        named_later =
            ((T_and (passes2 y) (all passes2 (rest s (i + 2)))).0
            (subst (λ (records : List ℕ). T (all passes2 records)) second named_first.1)).1

        pub pair_fits : count + 3 ≤ most_rules
        unfolding written_as_read qualified_in
        pair_fits =
            let three : length (read_as helper (written_as_read p (qualified_in x y))) ≡ 3 = refl in
            let e = ap length three_rules ∙ length-append (read_as helper (written_as_read p (qualified_in x y)))
            (rules_of_rest p (rest s (i + 2)) (count + 3) (helper - 1)) in
            let l = places in
            omega arith

        pub pair_within : count + 3 ≤ length table
        pair_within = let l = pair_fits in let r = room in omega arith

        pub fill_pair : (table' : List ℕ) → PairPut p x y helper count table table' → length table' ≡ length table
            → FillingRules p s table' (i + 2) (count + 3) (helper - 1)
        fill_pair table' pair same =
            let later : List Rule = rules_of_rest p (rest s (i + 2)) (count + 3) (helper - 1) in
            let low : first_helper ≤ helper + count = so_far.lowest in
            let high : helper ≤ first_helper = so_far.highest in
            record {
              filled =
                  ap (λ (l : List Rule). l ++ later) pair.put
                  ∙ append_assoc (map rule_in (take count table)) (read_as helper (written_as_read p (qualified_in x y))) later
                  ∙ ap (λ (l : List Rule). map rule_in (take count table) ++ l) (sym three_rules)
                  ∙ so_far.filled;
              named = is_true (all passes2 (rest s (i + 2))) named_later;
              sound = is_true (pairs_sound false (rest s (i + 2))) closed.1;
              few = few;
              most = pair_fits;
              room = rw same room;
              within = pair_passed;
              highest = omega arith;
              lowest = omega arith;
            }

-- a helper is there to be used, and a next one after it
module _ (p s table : List ℕ) (i count helper : ℕ) (so_far : FillingRules p s table i count helper) where
  pub helper_some : 1 ≤ helper
  helper_some = let l : first_helper ≤ helper + count = so_far.lowest in let m : count ≤ most_rules = so_far.most in omega arith

  pub helper_named : helper < name_bound
  helper_named = let l : helper ≤ first_helper = so_far.highest in omega arith

  pub places_low : count ≤ most_rules
  places_low = so_far.most

-- a kind that the code took of a record
pub kind_three : (x k : ℕ) → k ≡ rule_kind x → k ≡ 3 → rule_kind x ≡ 3
kind_three x k e d = sym e ∙ d

pub kind_another : (x k : ℕ) → k ≡ rule_kind x → (k ≡ 3 → ⊥) → rule_kind x ≡ 3 → ⊥
kind_another x k e f d = f (e ∙ d)

pub ruleset fill_laws = (
  rules,
  row_laws,
  fill_begins,
  fill_ends,
  kind_three,
  kind_another,
  helper_some,
  helper_named,
  places_low,
  one_is_rule,
  one_fits,
  one_within,
  fill_one,
  pair_forms_lem,
  next_there,
  pair_passed,
  next_within,
  pair_fits,
  pair_within,
  fill_pair,
)
