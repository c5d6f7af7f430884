-- The members found so far, in a table: what the search for the union that is written hands from one function to the next.
use Rattle.std.specs.Prelude.{◌≡◌, ℕ, ◌+◌, ◌≤◌, ◌<◌, List, length, Result, Ok, Err}
use Rattle.std.proofs.Math.Option.{some}
use Rattle.theory.specs.Syntax.{Rule, Query, UCQ}
use Rattle.theory.specs.Rewriting.{rule_step}
use Rattle.theory.specs.Laws.WritingGrows.{AlikeIn}
use Rattle.words.specs.Limits.{most_members}
use Rattle.words.specs.Refusals.{code}
use Rattle.words.specs.Words.{union_in, table_words}
use Rattle.words.specs.Rows.{Rows}
use Rattle.words.specs.declared.refusals.Refusal.{Refusal}
use Rattle.check_distinct.specs.Keys.{Keys}

-- n members stand in the table, no more than are allowed, and their keys in a list; both have room for all that are allowed
pub record MembersFound (table keys : List ℕ) (n : ℕ) : Type 0 where
  pub few : n ≤ most_members
  pub room : table_words ≤ length table
  pub key_room : most_members ≤ length keys
  pub rows : Rows table n
  pub keyed : Keys table n keys

-- these members are the union's
pub record Held (union : UCQ) (table keys : List ℕ) (n : ℕ) : Type 0 where
  pub found : MembersFound table keys n
  pub union_is : union_in table n ≡ union

-- 15: the union has more members than are allowed
pub record TooMany (union : UCQ) (refusal : Refusal) : Type 0 where
  pub number_is : code refusal ≡ 15
  pub many : most_members < length union

-- one or the other, by what a function gives
abbrev pub Appended : UCQ → List ℕ → List ℕ → Result ℕ Refusal → Type 0
Appended union table keys (Ok n) = Held union table keys n
Appended union table keys (Err refusal) = TooMany union refusal

-- n is the number of the union's members, which stand in the table; or it is more than allowed, and so is the number of the members
pub record HoldsUnion (union : UCQ) (table : List ℕ) (n : ℕ) : Type 0 where
  pub rows : n ≤ most_members → Rows table n
  pub union_is : n ≤ most_members → union_in table n ≡ union
  pub many : most_members < n → most_members < length union

-- how many members a call gives, one more than allowed where there are too many
abbrev pub members_in : Result ℕ Refusal → ℕ
members_in (Ok n) = n
members_in (Err refusal) = most_members + 1

-- what the first k rules make of atom i is alike to members
pub record Tried (rules : List Rule) (q : Query) (i k : ℕ) (union : UCQ) : Type 0 where
  pub each : (j : ℕ) (r : Query) → j < k → rule_step rules q i j ≡ some r → AlikeIn r union
