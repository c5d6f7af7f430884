-- The index grows by one word: it goes before the others of its place.
use mathlib.Core.Path.{◌≡◌, sym, ap, ◌∙◌, subst}
use mathlib.Core.Logic.{◌≢◌}
use Prim.Native.Nat.{ℕ, ◌+◌, ◌-◌, ◌≤◌, ◌<◌}
use native.Mathlib.Decide.{ℕ_discrete}
use native.Mathlib.Omega.{arith}
use mathlib.Core.List.{List}
use lib.ListN.{length, get_or, set, length-set}
use lib.Seq.{get_or-set_same, get_or-set_other}
use borrow.Author.Count.{below_more}
use borrow.Author.Rules.{rules}
use Rattle.check_chains.specs.Chains.{places, place_of, Last, Chains, Cleared}

-- ---- what is stored

pub place_within : (index : List ℕ) (h i v : ℕ) → h < places → length index ≡ 1024 → h < length (set index i v)
place_within index h i v g l = simp length-set (omega arith)

pub put_is : (index : List ℕ) (h word j : ℕ) → h ≡ place_of word
    → set (set index (places + j) (get_or index h 0)) h (j + 1)
    ≡ set (set index (places + j) (get_or index (place_of word) 0)) (place_of word) (j + 1)
put_is index h word j e = ap (λ x. set (set index (places + j) (get_or index x 0)) x (j + 1)) e

-- ---- the last word at a place

module _ (words : List ℕ) (j h : ℕ) where
  -- word j itself
  pub last_here : place_of (get_or words j 0) ≡ h → Last words (j + 1) h (j + 1)
  last_here e = record {
    low = omega arith;
    here = λ g. (let d : j + 1 - 1 ≡ j = omega arith in ap (λ i. place_of (get_or words i 0)) d ∙ e);
    above = λ i g l. absurd (omega arith);
  }

  -- word j stands elsewhere
  pub last_stays : (at : ℕ) → (place_of (get_or words j 0) ≡ h → ⊥) → Last words j h at → Last words (j + 1) h at
  last_stays at other last = record {
    low = let l = last.low in omega arith;
    here = last.here;
    above = λ i g l. below_more (λ i. at ≤ i → place_of (get_or words i 0) ≡ h → ⊥) j (λ i l g. last.above i g l) (λ g. other) i l g;
  }

-- ---- the index

pub no_chains : (words index : List ℕ) → Cleared index → Chains words 0 index
no_chains words index c = record {
  few = omega arith;
  head = λ h l. subst (Last words 0 h) (sym (c.zero h l)) (record {
    low = omega arith;
    here = λ g. absurd (omega arith);
    above = λ i g l. absurd (omega arith);
  });
  link = λ j l. absurd (omega arith);
}

module _ (words index : List ℕ) (n j : ℕ) (ch : Chains words j index) (long : length index ≡ 1024) (more : j < n) (few : n ≤ places) where
  abbrev linked : List ℕ
  linked = set index (places + j) (get_or index (place_of (get_or words j 0)) 0)

  abbrev grown : List ℕ
  grown = set linked (place_of (get_or words j 0)) (j + 1)

  place_low : place_of (get_or words j 0) < places
  place_low = omega arith

  new_head : (h : ℕ) → h < places → Last words (j + 1) h (get_or grown h 0)
  new_head h l = elim (ℕ_discrete h (place_of (get_or words j 0))) [ yes d ↦ this_place d | no other ↦ other_place other ]
    where
      this_place : h ≡ place_of (get_or words j 0) → Last words (j + 1) h (get_or grown h 0)
      this_place d =
          subst (Last words (j + 1) h)
          (sym (ap (λ x. get_or grown x 0) d
          ∙ get_or-set_same linked (place_of (get_or words j 0)) (j + 1) 0 (simp length-set (omega arith))))
          (last_here words j h (sym d))

      other_place : h ≢ place_of (get_or words j 0) → Last words (j + 1) h (get_or grown h 0)
      other_place other =
          subst (Last words (j + 1) h)
          (sym (get_or-set_other linked (place_of (get_or words j 0)) h (j + 1) 0 other
          ∙ get_or-set_other index (places + j) h (get_or index (place_of (get_or words j 0)) 0) 0 (λ d. omega arith)))
          (last_stays words j h (get_or index h 0) (λ d. other (sym d)) (ch.head h l))

  old_link : (i : ℕ) → i < j → Last words i (place_of (get_or words i 0)) (get_or grown (places + i) 0)
  old_link i l =
      subst (Last words i (place_of (get_or words i 0)))
      (sym (get_or-set_other linked (place_of (get_or words j 0)) (places + i) (j + 1) 0 (λ d. omega (arith, place_low))
      ∙ get_or-set_other index (places + j) (places + i) (get_or index (place_of (get_or words j 0)) 0) 0 (λ d. omega arith)))
      (ch.link i l)

  new_link : Last words j (place_of (get_or words j 0)) (get_or grown (places + j) 0)
  new_link =
      subst (Last words j (place_of (get_or words j 0)))
      (sym (get_or-set_other linked (place_of (get_or words j 0)) (places + j) (j + 1) 0 (λ d. omega (arith, place_low))
      ∙ get_or-set_same index (places + j) (get_or index (place_of (get_or words j 0)) 0) 0 (omega arith)))
      (ch.head (place_of (get_or words j 0)) place_low)

  pub one_more : (next : List ℕ) → next ≡ grown → Chains words (j + 1) next
  one_more next e = subst (Chains words (j + 1)) (sym e) (record {
    few = omega arith;
    head = new_head;
    link = below_more (λ i. Last words i (place_of (get_or words i 0)) (get_or grown (places + i) 0)) j old_link new_link;
  })

pub all_chained : (words index : List ℕ) (n j : ℕ) → Chains words j index → j ≤ n → n ≤ j → Chains words n index
all_chained words index n j ch h g =
    let e : j ≡ n = omega arith in
    subst (λ k. Chains words k index) e ch

pub ruleset laws = (rules, place_within, put_is, no_chains, one_more, all_chained)
