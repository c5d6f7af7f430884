-- Rules by the name of their right side, and rules each once: neither changes what leads outside.
use mathlib.Core.Path.{◌≡◌, refl, sym, ap, ap₂, ◌∙◌, subst}
use Prim.Native.Nat.{ℕ, zero, suc, ◌%◌, ◌≤◌, ◌<◌}
use native.Mathlib.Omega.{arith}
use mathlib.Core.Bool.{Bool, true, false, not, ◌&&◌, and-false, ◌||◌}
use mathlib.Core.List.{List, [], ◌∷◌, map}
use lib.ListN.{length, get_or, take}
use lib.Seq.{take-length}
use Rattle.std.proofs.Common.{length-take-le}
use lib.Dec.{T, eqb, eqb→eq}
use borrow.Author.Rules.{rules}
use Rattle.theory.specs.Lists.{any, numbers}
use Rattle.theory.specs.Syntax.{Query, UCQ}
use Rattle.theory.specs.Rewriting.{rule_step, steps}
use Rattle.theory.specs.Union.{refuses11}
use Rattle.theory.specs.Laws.Lists.{any_iff, numbers_iff}
use Rattle.theory.specs.Laws.Options.{same_test, is_true}
use Rattle.words.specs.Records.{rule_in, right_name}
use Rattle.words.specs.Words.{query_of, Small, rules_in, word_name}
use Rattle.words.specs.declared.QueryWords.{QueryWords}
use Rattle.words.specs.Laws.Rows.{rows, rules_length, rule_there}
use Rattle.query_rule.proofs.RuleLaws.{number_differs}
use Rattle.std.specs.Prelude.{Option, Some, None, IfSome, is_none}
use Rattle.check_chains.specs.Chains.{places, place_of, after, Last}
use Rattle.check_chains.specs.WalkLaws.{OnlyAt, Walked, walk_begins, walk_on, walk_at, walk_out, walk_within, walk_less}
use Rattle.check_chains.specs.WalkLaws.{none_found, cleared}
use Rattle.check_rules.specs.SameWords.{SameWords}
use Rattle.check_closed.specs.Outside.{outside, leads_outside, rule_out, rules_out, merges_out}
use Rattle.check_closed.specs.Rules.{stands_earlier, TriedOnce}
use Rattle.check_closed.proofs.ClosureLaws.{rule_passed, each_step, any_agree}

-- ---- a rule that stands twice

module _ (rules : List ℕ) (count : ℕ) (union : UCQ) (q : Query) (i : ℕ) where
  -- rule k leads outside, and its word stands nowhere earlier
  abbrev pub first_out : ℕ → Bool
  first_out k = rule_out union q (rules_in rules count) i k && not (stands_earlier rules k)

  -- equal words are equal steps
  pub same_step : (j k : ℕ) → count ≤ length rules → j < count → k < count → get_or rules j 0 ≡ get_or rules k 0
      → rule_step (rules_in rules count) q i j ≡ rule_step (rules_in rules count) q i k
  unfolding rule_step
  same_step j k within g h e = simp (rule_there rules count within j g, rule_there rules count within k h, e)

  -- a rule that leads outside is the first with its word, or one before it does
  earlier_or_first : count ≤ length rules → (k : ℕ) → k < count → rule_out union q (rules_in rules count) i k ≡ true
      → ((j : ℕ) → j < k → rule_out union q (rules_in rules count) i j ≡ true → T (any first_out (numbers 0 count)))
      → (b : Bool) → stands_earlier rules k ≡ b → T (any first_out (numbers 0 count))
  earlier_or_first within k h t before false e =
      (any_iff first_out (numbers 0 count)).1 (k, (numbers_iff count k).1 h, subst T (sym (ap₂ (λ a b. a && not b) t e)) tt)
  earlier_or_first within k h t before true e =
      let (j, m, s) = (any_iff (λ j. eqb (get_or rules j 0) (get_or rules k 0)) (numbers 0 k)).0 (subst T (sym e) tt) in
      let l = (numbers_iff k j).0 m in
      before j l
      (ap (leads_outside union) (same_step j k within (omega arith) h (eqb→eq (get_or rules j 0) (get_or rules k 0) s)) ∙ t)

  -- where a rule leads outside, so does the first with its word
  first_leads : count ≤ length rules → (fuel k : ℕ) → k < fuel → k < count → rule_out union q (rules_in rules count) i k ≡ true
      → T (any first_out (numbers 0 count))
  first_leads within zero k f h t = absurd (omega arith)
  first_leads within (suc fuel) k f h t =
      earlier_or_first within k h t (λ j l. first_leads within fuel j (omega arith) (omega arith)) (stands_earlier rules k) refl

  -- where no first one leads outside, none does
  pub none_leads : count ≤ length rules → false ≡ any first_out (numbers 0 count)
      → false ≡ any (rule_out union q (rules_in rules count) i) (numbers 0 count)
  none_leads within e = go (any (rule_out union q (rules_in rules count) i) (numbers 0 count)) refl
    where
      go : (b : Bool) → any (rule_out union q (rules_in rules count) i) (numbers 0 count) ≡ b
          → false ≡ any (rule_out union q (rules_in rules count) i) (numbers 0 count)
      go false d = sym d
      go true d =
          let (k, m, s) = (any_iff (rule_out union q (rules_in rules count) i) (numbers 0 count)).0 (subst T (sym d) tt) in
          let l = (numbers_iff count k).0 m in
          absurd (subst T (sym e) (first_leads within (suc k) k (omega arith) l (is_true (rule_out union q (rules_in rules count) i k) s)))

  module _ (at : Option ℕ) (h k : ℕ) (b : Bool) (within : count ≤ length rules) (walked : Walked first_out rules h count (after at))
      (e : at ≡ Some k) (tried : TriedOnce (rule_out union q (rules_in rules count) i k) (stands_earlier rules k) b) where
    pub tried_found : b ≡ true → true ≡ any (rule_out union q (rules_in rules count) i) (numbers 0 count)
    tried_found t =
        let there = walk_at first_out rules h count at walked k e in
        let low = there.low in
        let found =
        (any_iff (rule_out union q (rules_in rules count) i) (numbers 0 count)).1
        (k, (numbers_iff count k).1 (omega arith), subst T (sym (tried.sound t)) tt) in
        sym (is_true (any (rule_out union q (rules_in rules count) i) (numbers 0 count)) found)

    pub tried_on : (next : Option ℕ) → b ≡ false → Last rules k (place_of (get_or rules k 0)) (after next)
        → Walked first_out rules h count (after next)
    tried_on next f last =
        walk_on first_out rules h count k (walk_at first_out rules h count at walked k e) (after next) false (sym (tried.whole f)) refl last

  pub tried_all : (at : Option ℕ) (h : ℕ) → count ≤ length rules → Walked first_out rules h count (after at) → at ≡ None
      → false ≡ any (rule_out union q (rules_in rules count) i) (numbers 0 count)
  tried_all at h within walked e =
      none_leads within (none_found first_out rules h count (walk_out first_out rules h count at walked e))

-- what holds anyhow holds where there is an index
with_index : {X P : Type 0} (index : Option X) → P → IfSome index (λ numbers. P)
with_index None p = tt
with_index (Some x) p = p

-- for `indexed`: what a tried rule gives; where there is no index nothing is to be shown
module _ {X : Type 0} (b c : Bool) where
  pub tried_each : (index : Option X) → b ≡ c → IfSome index (λ numbers. b ≡ c)
  tried_each index e = with_index index e

  pub no_index : (index : Option X) → is_none index ≡ true → IfSome index (λ numbers. b ≡ c)
  no_index None e = tt
  no_index (Some x) e = absurd (subst T (sym e) tt)

-- the rules from number `at` on were looked at or stand elsewhere: none that is the first with its word leads outside, and where there is
-- an index none does
pub record Passed {X : Type 0} (index : Option X) (rules : List ℕ) (count : ℕ) (union : UCQ) (q : Query) (i h at : ℕ) : Type 0 where
  pub firsts : Walked (first_out rules count union q i) rules h count at
  pub each : IfSome index (λ numbers. Walked (rule_out union q (rules_in rules count) i) rules h count at)

module _ {X : Type 0} (rules : List ℕ) (count : ℕ) (union : UCQ) (q : Query) (i h : ℕ) (at next : Option ℕ) (k : ℕ) (b : Bool)
    (e : at ≡ Some k) (tried : TriedOnce (rule_out union q (rules_in rules count) i k) (stands_earlier rules k) b) (f : b ≡ false)
    (last : Last rules k (place_of (get_or rules k 0)) (after next)) where
  each_on : (index : Option X) → IfSome index (λ numbers. Walked (rule_out union q (rules_in rules count) i) rules h count (after at))
      → IfSome index (λ numbers. b ≡ rule_out union q (rules_in rules count) i k)
      → IfSome index (λ numbers. Walked (rule_out union q (rules_in rules count) i) rules h count (after next))
  each_on None walked g = tt
  each_on (Some x) walked g =
      let p = rule_out union q (rules_in rules count) i in
      walk_on p rules h count k (walk_at p rules h count at walked k e) (after next) b g f last

  -- both after rule k was looked at and does not lead outside
  pub passed_on : (index : Option X) → count ≤ length rules → Passed index rules count union q i h (after at)
      → IfSome index (λ numbers. b ≡ rule_out union q (rules_in rules count) i k) → Passed index rules count union q i h (after next)
  passed_on index within passed g = record {
    firsts = tried_on rules count union q i at h k b within passed.firsts e tried next f last;
    each = each_on index passed.each g;
  }

-- a rule that is tried, and one that is passed over
pub tried_now : (out earlier b : Bool) → b ≡ out → TriedOnce out earlier b
tried_now out earlier b e = record { sound = λ t. sym e ∙ t; whole = λ f. ap (λ x. x && not earlier) (sym e ∙ f) }

pub tried_earlier : (out earlier b : Bool) → b ≡ earlier → b ≡ true → TriedOnce out earlier false
tried_earlier out earlier b e t = record {
  sound = λ z. absurd (subst T (sym z) tt);
  whole = λ z. ap (λ x. out && not x) (sym e ∙ t) ∙ and-false out;
}

-- ---- rules by name

module _ (rules : List ℕ) (count : ℕ) (q : QueryWords) (i : ℕ) (union : UCQ) (within : count ≤ length rules) (eight : length q.atoms ≡ 8)
    (s : Small q) (h : i < q.size) where
  -- a rule at another place has another name on its right side
  rules_only : OnlyAt (rule_out union (query_of q) (rules_in rules count) i) rules (place_of (word_name (get_or q.atoms i 0))) count
  rules_only = record { each = each }
    where
      low_bits : (x : ℕ) → right_name x % 512 ≡ x % 512
      low_bits x = omega arith

      each : (k : ℕ) → k < count → (place_of (get_or rules k 0) ≡ place_of (word_name (get_or q.atoms i 0)) → ⊥)
          → rule_out union (query_of q) (rules_in rules count) i k ≡ false
      each k l elsewhere =
          sym (rule_passed rules count q i k union false within l eight s h
          (number_differs (get_or rules k 0) (get_or q.atoms i 0) (right_name (get_or rules k 0)) (word_name (get_or q.atoms i 0)) refl refl
          (λ d. elsewhere (sym (low_bits (get_or rules k 0)) ∙ ap (λ x. x % 512) d))) refl)

  -- the walk begins, for a test that only rules at the place pass
  begins : (p : ℕ → Bool) (number at : ℕ) → OnlyAt p rules (place_of (word_name (get_or q.atoms i 0))) count
      → number ≡ word_name (get_or q.atoms i 0) → Last rules count (place_of number) at
      → Walked p rules (place_of (word_name (get_or q.atoms i 0))) count at
  begins p number at only e last =
      walk_begins p rules (place_of (word_name (get_or q.atoms i 0))) count at only (subst (λ x. Last rules count (place_of x) at) e last)

  pub rules_begin : (number at : ℕ) → number ≡ word_name (get_or q.atoms i 0) → Last rules count (place_of number) at
      → Walked (rule_out union (query_of q) (rules_in rules count) i) rules (place_of (word_name (get_or q.atoms i 0))) count at
  rules_begin number at = begins (rule_out union (query_of q) (rules_in rules count) i) number at rules_only

  -- the same of `first_out`: a rule that is the first with its word
  pub firsts_begin : (number at : ℕ) → number ≡ word_name (get_or q.atoms i 0) → Last rules count (place_of number) at
      → Walked (first_out rules count union (query_of q) i) rules (place_of (word_name (get_or q.atoms i 0))) count at
  firsts_begin number at =
      begins (first_out rules count union (query_of q) i) number at
      (record { each = λ k l elsewhere. ap (λ b. b && not (stands_earlier rules k)) (rules_only.each k l elsewhere) })

  -- both at the start of the walk
  pub passed_begins : {X : Type 0} (index : Option X) (number at : ℕ) → number ≡ word_name (get_or q.atoms i 0)
      → Last rules count (place_of number) at
      → Passed index rules count union (query_of q) i (place_of (word_name (get_or q.atoms i 0))) at
  passed_begins index number at e last =
      record { firsts = firsts_begin number at e last; each = with_index index (rules_begin number at e last) }

-- ---- each rule once

module _ (rules : List ℕ) (count : ℕ) (words : List ℕ) (m : ℕ) (within : count ≤ length rules)
    (same : SameWords rules count words m) (union : UCQ) where
  -- equal words are equal steps
  equal_steps : (q : Query) (i j k : ℕ) → j < m → k < count → get_or words j 0 ≡ get_or rules k 0
      → rule_step (rules_in words m) q i j ≡ rule_step (rules_in rules count) q i k
  unfolding rule_step
  equal_steps q i j k g h e = simp (rule_there words m same.room j g, rule_there rules count within k h, e)

  same_out : (q : Query) (i : ℕ) → rules_out union q (rules_in words m) m i ≡ rules_out union q (rules_in rules count) count i
  same_out q i = same_test (rules_out union q (rules_in words m) m i) (rules_out union q (rules_in rules count) count i) (there, back)
    where
      there : T (rules_out union q (rules_in words m) m i) → T (rules_out union q (rules_in rules count) count i)
      there t =
          let (j, g, o) = (any_iff (rule_out union q (rules_in words m) i) (numbers 0 m)).0 t in
          let l = (numbers_iff m j).0 g in
          let a = same.only j l in
          (any_iff (rule_out union q (rules_in rules count) i) (numbers 0 count)).1 (
            a.place,
            (numbers_iff count a.place).1 a.low,
            subst T (ap (leads_outside union) (equal_steps q i j a.place l a.low (sym a.there))) o,
          )

      back : T (rules_out union q (rules_in rules count) count i) → T (rules_out union q (rules_in words m) m i)
      back t =
          let (k, g, o) = (any_iff (rule_out union q (rules_in rules count) i) (numbers 0 count)).0 t in
          let l = (numbers_iff count k).0 g in
          let a = same.all k l in
          (any_iff (rule_out union q (rules_in words m) i) (numbers 0 m)).1 (
            a.place,
            (numbers_iff m a.place).1 a.low,
            subst T (sym (ap (leads_outside union) (equal_steps q i a.place k a.low l a.there))) o,
          )

  same_steps : (q : Query) → any (outside union) (steps (rules_in words m) q) ≡ any (outside union) (steps (rules_in rules count) q)
  same_steps q =
      each_step union (rules_in words m) q
      ∙ ap (λ b. b || any (merges_out union q (length q.atoms)) (numbers 0 (length q.atoms)))
      (any_agree (rules_out union q (rules_in words m) (length (rules_in words m)))
      (rules_out union q (rules_in rules count) (length (rules_in rules count))) (numbers 0 (length q.atoms)) agree)
      ∙ sym (each_step union (rules_in rules count) q)
    where
      agree : (i : ℕ) → rules_out union q (rules_in words m) (length (rules_in words m)) i
          ≡ rules_out union q (rules_in rules count) (length (rules_in rules count)) i
      agree i =
          ap (λ n. rules_out union q (rules_in words m) n i) (rules_length words m same.room) ∙ same_out q i
          ∙ sym (ap (λ n. rules_out union q (rules_in rules count) n i) (rules_length rules count within))

  same_eleven : (q : Query) → refuses11 (rules_in words m) q union ≡ refuses11 (rules_in rules count) q union
  unfolding refuses11 any
  same_eleven q = go union
    where
      go : (ms : UCQ) → any (λ n. any (outside union) (steps (rules_in words m) n.query)) ms
          ≡ any (λ n. any (outside union) (steps (rules_in rules count) n.query)) ms
      go [] = refl
      go (n ∷ ms) = ap₂ ◌||◌ (same_steps n.query) (go ms)

-- a table's first words, as a table of their own
rules_taken : (words : List ℕ) (m : ℕ) → rules_in (take m words) (length (take m words)) ≡ rules_in words m
unfolding rules_in
rules_taken words m = ap (map rule_in) (take-length (take m words))

module _ (rules words : List ℕ) (m : ℕ) (same : SameWords rules (length rules) words m) where
  pub eleven_too : (table : List ℕ) (union : UCQ) (b : Bool) (q : Query) → table ≡ take m words
      → ((p : Query) → b ≡ refuses11 (rules_in table (length table)) p union) → b ≡ refuses11 (rules_in rules (length rules)) q union
  eleven_too table union b q e f =
      f q ∙ ap (λ t. refuses11 (rules_in t (length t)) q union) e ∙ ap (λ rs. refuses11 rs q union) (rules_taken words m)
      ∙ same_eleven rules (length rules) words m (omega arith) same union q

  pub words_few : length rules ≤ places → length (take m words) ≤ places
  words_few few = let l = same.fewer in rw (length-take-le m words same.room) (omega arith)

pub ruleset laws = (rules, rows, eleven_too, cleared, words_few)

-- for the loop along a chain
pub ruleset chain_laws = (
  rules,
  rows,
  rules_begin,
  firsts_begin,
  passed_begins,
  passed_on,
  tried_found,
  tried_on,
  tried_all,
  walk_at,
  walk_within,
  walk_less,
)

-- for a rule that is tried once
pub ruleset once_laws = (rules, tried_now, tried_earlier, tried_each, no_index)
