-- A question appended to the members, or found to be alike to one.
use mathlib.Core.Path.{◌≡◌, refl, sym, ap, ◌∙◌, subst}
use Prim.Native.Nat.{ℕ, ◌+◌, ◌*◌, ◌≤◌, ◌<◌}
use native.Mathlib.Omega.{arith}
use mathlib.Core.Bool.{Bool, true, false}
use mathlib.Core.List.{List, [], ◌∷◌, ◌++◌}
use lib.ListN.{length, get_or, set, length-append, length-set}
use lib.Seq.{paste, length-paste, get_or-set_same, get_or-set_other}
use borrow.Author.Count.{below_more}
use borrow.Author.Rules.{rules}
use Rattle.theory.specs.Lists.{Unrepeated, any, pick}
use Rattle.theory.specs.Syntax.{Step, Member, UCQ}
use Rattle.theory.specs.Renaming.{alike}
use Rattle.theory.specs.Writing.{stepped, appended, appended_all}
use Rattle.theory.specs.Laws.Lists.{numbered_length}
use Rattle.words.specs.Limits.{most_members}
use Rattle.words.specs.Records.{step_of}
use Rattle.words.specs.Words.{query_of, Small, union_in, stride}
use Rattle.words.specs.declared.QueryWords.{QueryWords}
use Rattle.words.specs.Rows.{Rows, member_in, RowOf}
use Rattle.words.specs.Laws.Rows.{rows}
use Rattle.words.specs.Laws.NewRows.{old_member, new_member, longer_union, longer_rows}
use Rattle.query_key.specs.Key.{key}
use Rattle.std.specs.Prelude.{Option as Made, Some, None, Result}
use Rattle.words.specs.declared.refusals.Refusal.{Refusal}
use Rattle.words.specs.declared.refusals.Refusal.TheVariants.{TooManyQuestions}
use Rattle.query_steps.specs.StepResults.{query_found}
use Rattle.check_distinct.specs.Keys.{Keys}
use Rattle.write_members.specs.Members.{MembersFound, Held, TooMany, Appended}

pub members_length : (table : List ℕ) (n : ℕ) → length (union_in table n) ≡ n
unfolding union_in
members_length table n = numbered_length (member_in table) n

-- ---- what is known of a table of members

module _ (table keys : List ℕ) (n : ℕ) (f : MembersFound table keys n) where
  pub found_rows : Rows table n
  found_rows = f.rows

  pub found_keys : Keys table n keys
  found_keys = f.keyed

  pub room_for_row : n < most_members → stride * n + stride ≤ length table
  room_for_row h = let r = f.room in omega arith

  pub room_for_key : n < most_members → n < length keys
  room_for_key h = let r = f.key_room in omega arith

-- the table as it is holds the union that it holds
pub holds_itself : (union : UCQ) (table keys : List ℕ) (n : ℕ) → MembersFound table keys n → union_in table n ≡ union
    → Held union table keys n
holds_itself union table keys n f e = record { found = f; union_is = e }

-- ---- a new member

module _ (table keys : List ℕ) (n : ℕ) (f : MembersFound table keys n) (q : QueryWords) (step : ℕ) where
  abbrev member : Member
  member = record { step = step_of step; query = query_of q }

  -- there is no room
  pub no_room : most_members ≤ n → TooMany (union_in table n ++ (member ∷ [])) TooManyQuestions
  no_room h =
      let l : length (union_in table n ++ (member ∷ [])) ≡ length (union_in table n) + 1 = length-append (union_in table n) (member ∷ []) in
      let m = members_length table n in
      record { number_is = refl; many = omega arith }

  module _ (h : n < most_members) (small : Small q) (distinct : Unrepeated (query_of q).atoms) (row : List ℕ) (r : RowOf member row) where
    abbrev longer : List ℕ
    longer = paste table (stride * n) row stride

    longer_keys : (v : ℕ) → v ≡ key (query_of q) → Keys longer (n + 1) (set keys n v)
    longer_keys v e =
        let room = room_for_row table keys n f h in record {
          room = let k = f.key_room in let l : length (set keys n v) ≡ length keys = length-set keys n v in omega arith;
          each = below_more (λ j. get_or (set keys n v) j 0 ≡ key (member_in longer j).query) n
              (λ j l. get_or-set_other keys n j v 0 (λ d. (let z : j < j = subst (λ x. j < x) (sym d) l in omega arith)) ∙ f.keyed.each j l
              ∙ ap (λ (m : Member). key m.query) (sym (old_member table row n member r f.rows room j l)))
              (get_or-set_same keys n v 0 (room_for_key table keys n f h) ∙ e
              ∙ ap (λ (m : Member). key m.query) (sym (new_member table row n member r f.rows room)));
        }

    pub holds_longer : (later : List ℕ) (v : ℕ) → later ≡ paste table (stride * n) row stride → v ≡ key (query_of q)
        → Held (union_in table n ++ (member ∷ [])) later (set keys n v) (n + 1)
    holds_longer later v e k =
        subst (λ t. Held (union_in table n ++ (member ∷ [])) t (set keys n v) (n + 1)) (sym e)
        (holds_itself (union_in table n ++ (member ∷ [])) longer (set keys n v) (n + 1) found
        (longer_union table row n member r f.rows (room_for_row table keys n f h)))
      where
        found : MembersFound longer (set keys n v) (n + 1)
        found = record {
          few = omega arith;
          room = (let l : length longer ≡ length table =
              length-paste table (stride * n) row stride (let x = room_for_row table keys n f h in omega arith)
              (let x = r.full in omega arith)
              in let x = f.room in omega arith);
          key_room = (let l : length (set keys n v) ≡ length keys = length-set keys n v in let x = f.key_room in omega arith);
          rows = longer_rows table row n member r f.rows (room_for_row table keys n f h) (small.variables, distinct);
          keyed = longer_keys v k;
        }

-- ---- what a step leads to

module _ (table keys : List ℕ) (n : ℕ) (r : Made QueryWords) (s : Step) where
  -- nothing
  pub nothing_appended : MembersFound table keys n → r ≡ None
      → Held (appended_all (union_in table n) (stepped s (query_found r))) table keys n
  unfolding appended_all stepped
  nothing_appended f e =
      holds_itself (appended_all (union_in table n) (stepped s (query_found r))) table keys n f
      (sym (ap (λ o. appended_all (union_in table n) (stepped s (query_found o))) e))

  module _ (q : QueryWords) (made : r ≡ Some q) where
    abbrev is_alike : Bool
    is_alike = any (λ m. alike (query_of q) m.query) (union_in table n)

    one_appended : appended_all (union_in table n) (stepped s (query_found r))
        ≡ pick is_alike (union_in table n) (union_in table n ++ (record { step = s; query = query_of q } ∷ []))
    unfolding appended_all appended stepped
    one_appended = ap (λ o. appended_all (union_in table n) (stepped s (query_found o))) made

    pub alike_appended : (b : Bool) → MembersFound table keys n → b ≡ is_alike → b ≡ true
        → Held (appended_all (union_in table n) (stepped s (query_found r))) table keys n
    alike_appended b f g h =
        holds_itself (appended_all (union_in table n) (stepped s (query_found r))) table keys n f
        (sym (one_appended
        ∙ ap (λ x. pick x (union_in table n) (union_in table n ++ (record { step = s; query = query_of q } ∷ []))) (sym g ∙ h)))

    pub new_appended : (b : Bool) (later later-keys : List ℕ) (m : Result ℕ Refusal) → b ≡ is_alike → b ≡ false
        → Appended (union_in table n ++ (record { step = s; query = query_of q } ∷ [])) later later-keys m
        → Appended (appended_all (union_in table n) (stepped s (query_found r))) later later-keys m
    new_appended b later later-keys m g h =
        subst (λ u. Appended u later later-keys m)
        (sym (one_appended
        ∙ ap (λ x. pick x (union_in table n) (union_in table n ++ (record { step = s; query = query_of q } ∷ []))) (sym g ∙ h)))

pub ruleset laws = (
  rules,
  rows,
  found_rows,
  found_keys,
  room_for_row,
  room_for_key,
  no_room,
  holds_longer,
  nothing_appended,
  alike_appended,
  new_appended,
)
