-- Keys: a member with another key is not alike, so that passing over it changes nothing.
use mathlib.Core.Path.{◌≡◌, sym, ap, ◌∙◌, subst}
use Prim.Native.Nat.{ℕ, zero, suc, ◌+◌, ◌-◌, ◌≤◌, ◌<◌}
use native.Mathlib.Omega.{arith}
use mathlib.Core.Bool.{Bool, true, false, ◌||◌}
use mathlib.Core.List.{List}
use lib.ListN.{length, get_or, drop, set}
use lib.Seq.{get_or-set_same, get_or-set_other}
use borrow.Author.Count.{below_more}
use borrow.Author.Rules.{rules}
use Rattle.theory.specs.Lists.{Unrepeated, any, numbers}
use Rattle.theory.specs.Syntax.{Rule, Query}
use Rattle.theory.specs.Renaming.{alike}
use Rattle.theory.specs.Union.{refuses10}
use Rattle.theory.specs.Laws.Lists.{any_map}
use Rattle.theory.specs.Laws.Scans.{some_from, number_scans, skip, some_next, some_found}
use Rattle.words.specs.Words.{query_of, union_in}
use Rattle.words.specs.declared.QueryWords.{QueryWords}
use Rattle.words.specs.Rows.{Rows, member_in}
use Rattle.words.specs.Laws.Rows.{rows, union_from, next_member}
use Rattle.query_key.specs.Key.{key}
use Rattle.query_key.proofs.KeyLaws.{unlike_keys}
use Rattle.check_chains.specs.Chains.{place_of}
use Rattle.check_chains.specs.WalkLaws.{OnlyAt, walk_found, walk_past, walk_ends, walks}
use Rattle.check_distinct.specs.Keys.{Keys}

-- ---- the keys are filled in

-- the first j keys stand
abbrev pub KeysBelow : List ℕ → List ℕ → ℕ → Type 0
KeysBelow table keys j = (i : ℕ) → i < j → get_or keys i 0 ≡ key (member_in table i).query

pub no_keys : (table keys : List ℕ) → KeysBelow table keys 0
no_keys table keys i h = absurd (omega arith)

pub keys_more : (table keys first : List ℕ) (n j v : ℕ) (q : QueryWords) → KeysBelow table keys j → query_of q ≡ (member_in table j).query
    → v ≡ key (query_of q) → j < n → n ≤ length first → length keys ≡ length first → KeysBelow table (set keys j v) (j + 1)
keys_more table keys first n j v q below e f h g l =
    below_more (λ i. get_or (set keys j v) i 0 ≡ key (member_in table i).query) j
    (λ i k. get_or-set_other keys j i v 0 (λ d. (let z : i < i = subst (λ x. i < x) (sym d) k in omega arith)) ∙ below i k)
    (get_or-set_same keys j v 0 (omega arith) ∙ f ∙ ap key e)

pub all_keys : (table keys first : List ℕ) (n j : ℕ) → KeysBelow table keys j → j ≤ n → n ≤ j → n ≤ length first
    → length keys ≡ length first → Keys table n keys
all_keys table keys first n j below h g room l = record { room = omega arith; each = λ i k. below i (omega arith) }

pub key_room : (table keys : List ℕ) (n : ℕ) → Keys table n keys → n ≤ length keys
key_room table keys n ks = ks.room

-- ---- a question and the members from a number on

abbrev pub alike_at : Query → List ℕ → ℕ → Bool
alike_at q table j = alike q (member_in table j).query

pub members_from_lem : (q : Query) (table : List ℕ) (n i : ℕ)
    → some_from (alike_at q table) i n ≡ any (λ m. alike q m.query) (drop i (union_in table n))
members_from_lem q table n i =
    sym (ap (any (λ m. alike q m.query)) (union_from table n i) ∙ any_map (λ m. alike q m.query) (member_in table) (numbers i (n - i)))

-- a member that was compared
pub found_alike : (q m : QueryWords) (table : List ℕ) (j : ℕ) (b : Bool) → query_of m ≡ (member_in table j).query
    → b ≡ alike (query_of q) (query_of m) → b ≡ alike_at (query_of q) table j
found_alike q m table j b e f = f ∙ ap (alike (query_of q)) e

-- ---- by the index

-- a member at another place has another key
pub keys_only : (q : QueryWords) (wanted : ℕ) (table keys : List ℕ) (n : ℕ) → Unrepeated (query_of q).atoms → wanted ≡ key (query_of q)
    → Rows table n → Keys table n keys → OnlyAt (alike_at (query_of q) table) keys (place_of wanted) n
keys_only q wanted table keys n u e rows ks = record {
  each = λ i l elsewhere. unlike_keys (query_of q) (member_in table i).query u (rows.each i l).distinct
      (λ d. elsewhere (ap place_of (ks.each i l ∙ sym d ∙ sym e)));
}

pub other_key : (q : QueryWords) (wanted : ℕ) (table keys : List ℕ) (n j : ℕ) → Unrepeated (query_of q).atoms → wanted ≡ key (query_of q)
    → Rows table n → Keys table n keys → j < n → (get_or keys j 0 ≡ wanted → ⊥) → false ≡ alike_at (query_of q) table j
other_key q wanted table keys n j u e rows ks h differ =
    sym (unlike_keys (query_of q) (member_in table j).query u (rows.each j h).distinct (λ d. differ (ks.each j h ∙ sym d ∙ sym e)))

-- ---- two members

pub member_distinct : (table : List ℕ) (n j : ℕ) (q : QueryWords) → Rows table n → j < n → query_of q ≡ (member_in table j).query
    → Unrepeated (query_of q).atoms
member_distinct table n j q rows h e = subst (λ p. Unrepeated p.atoms) (sym e) (rows.each j h).distinct

pub member_key : (table keys : List ℕ) (n j : ℕ) (q : QueryWords) → Keys table n keys → j < n → query_of q ≡ (member_in table j).query
    → get_or keys j 0 ≡ key (query_of q)
member_key table keys n j q ks h e = ks.each j h ∙ ap key (sym e)

module _ (table : List ℕ) (n : ℕ) where
  -- member i is alike to a later one
  abbrev pub twin_at : ℕ → Bool
  twin_at i = any (λ m. alike (member_in table i).query m.query) (drop (i + 1) (union_in table n))

  ten_from : (rules : List Rule) (q : Query) (k i : ℕ) → i + k ≡ n → refuses10 rules q (drop i (union_in table n)) ≡ some_from twin_at i n
  unfolding refuses10 any numbers
  ten_from rules q zero i e = ap (refuses10 rules q) (union_from table n i) ∙ (let d : n - i ≡ 0 = omega arith in rw d)
  ten_from rules q (suc k) i e =
      ap (refuses10 rules q) (next_member table n i (omega arith)) ∙ ap (λ b. twin_at i || b) (ten_from rules q k (i + 1) (omega arith))
      ∙ sym (some_next twin_at i n (omega arith))

  pub is_ten : (b : Bool) (rules : List Rule) (q : Query) → b ≡ some_from twin_at 0 n → b ≡ refuses10 rules q (union_in table n)
  is_ten b rules q e = e ∙ sym (ten_from rules q n 0 (omega arith))

  pub has_twin : (i : ℕ) (q : QueryWords) (b : Bool) → query_of q ≡ (member_in table i).query
      → b ≡ any (λ m. alike (query_of q) m.query) (drop (i + 1) (union_in table n)) → b ≡ twin_at i
  has_twin i q b e f = f ∙ ap (λ p. any (λ m. alike p m.query) (drop (i + 1) (union_in table n))) e

  pub twin_found : (i : ℕ) (q : QueryWords) (b : Bool) (rules : List Rule) (p : Query) → some_from twin_at i n ≡ some_from twin_at 0 n
      → i < n
      → query_of q ≡ (member_in table i).query → b ≡ any (λ m. alike (query_of q) m.query) (drop (i + 1) (union_in table n)) → b ≡ true
      → true ≡ refuses10 rules p (union_in table n)
  twin_found i q b rules p left h e f t =
      is_ten true rules p (some_found twin_at i n (some_from twin_at 0 n) left b h (has_twin i q b e f) t)

pub ruleset laws = (
  rules,
  number_scans,
  rows,
  no_keys,
  keys_more,
  all_keys,
  key_room,
  members_from_lem,
  found_alike,
  member_distinct,
  member_key,
  other_key,
  is_ten,
  has_twin,
  twin_found,
)

-- for the loop along a chain
pub ruleset chain_laws = (rules, rows, key_room, members_from_lem, keys_only, walks, walk_found, walk_past, walk_ends)
