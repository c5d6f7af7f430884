-- A member put on a sheet, and the members that are left: how long they are, and one more of them put.
use mathlib.Core.Path.{◌≡◌, refl, sym, ap, ap₂, ◌∙◌}
use Prim.Native.Nat.{ℕ, ◌+◌, ◌*◌, ◌%◌, ◌^◌, ◌≤◌, ◌<◌}
use native.Mathlib.Nat.{mod-lt}
use native.Mathlib.Omega.{arith}
use mathlib.Core.List.{List, [], ◌++◌, flat_map}
use lib.ListN.{length, get_or, drop, length-append}
use borrow.Author.Rules.{rules}
use mir.Syntax.{w64}
use mir.Val.{Fits}
use Rattle.theory.specs.Syntax.{Member}
use Rattle.words.specs.Limits.{sheet_width, rule_bound, step_bytes}
use Rattle.words.specs.Records.{field, step_of}
use Rattle.words.specs.Words.{query_of, member_of, union_in}
use Rattle.words.specs.declared.QueryWords.{QueryWords}
use Rattle.words.specs.Rows.{member_in}
use Rattle.words.specs.Laws.Rows.{rows, next_member, no_member}
use Rattle.sheets.specs.Packing.{bytes_of, step_number, pack_query, pack_member}
use Rattle.sheets.proofs.Laws.PackingBytes.{get_d_drop, length_bytes_of}
use Rattle.sheets.proofs.Laws.PackingNumbers.{step_code}
use Rattle.sheets.proofs.Laws.PackingSheets.{whole_sheet}
use Rattle.sheets.proofs.Laws.PackingUnions.{length_member}
use Rattle.write_sheet.specs.PutAt.{put_at, members_bytes}
use Rattle.write_sheet.proofs.PutLaws.{Remaining, put_length, put_then, remaining_next, remaining_done, remaining_same}
use Rattle.write_sheet.proofs.NumberLaws.{number_long}

-- ---- a member

-- a step has the lowest 32 bits of its word
low_step : (x : ℕ) → step_of (x % rule_bound) ≡ step_of x
unfolding step_of
low_step x =
    let kind : field 30 2 (x % rule_bound) ≡ field 30 2 x = omega arith in
    let parent : field 20 10 (x % rule_bound) ≡ field 20 10 x = omega arith in
    let atom : field 16 4 (x % rule_bound) ≡ field 16 4 x = omega arith in
    let other : field 0 16 (x % rule_bound) ≡ field 0 16 x = omega arith in
    λ i. record { kind = kind i; parent = parent i; atom = atom i; other = other i }

step_number_lem : (x : ℕ) → x % rule_bound ≡ step_number (step_of x)
step_number_lem x = sym (step_code.again (x % rule_bound) (mod-lt x (omega arith)) tt) ∙ ap step_number (low_step x)

parts : (m : Member) → bytes_of step_bytes (step_number m.step) ++ pack_query sheet_width m.query ≡ pack_member sheet_width m
unfolding pack_member
parts m = refl

module _ (table : List ℕ) (j : ℕ) where
  step_there : get_or table (16 * j) 0 % rule_bound ≡ step_number (member_in table j).step
  unfolding member_of
  step_there = ap (λ x. x % rule_bound) (sym (get_d_drop table (16 * j) 0)) ∙ step_number_lem (get_or (drop (16 * j) table) 0 0)

  module _ (q : QueryWords) (loaded : query_of q ≡ (member_in table j).query) where
    pub member_long : length (pack_member sheet_width (member_in table j)) ≡ 4 + length (pack_query sheet_width (query_of q))
    member_long =
        length_member sheet_width whole_sheet (member_in table j) ∙ ap (λ p. 4 + length (pack_query sheet_width p)) (sym loaded)

    packed : bytes_of 4 (get_or table (16 * j) 0 % rule_bound) ++ pack_query sheet_width (query_of q)
        ≡ pack_member sheet_width (member_in table j)
    packed = ap₂ (λ x p. bytes_of 4 x ++ pack_query sheet_width p) step_there loaded ∙ parts (member_in table j)

    module _ (first : List ℕ) (at : ℕ) (room : at + length (pack_member sheet_width (member_in table j)) ≤ length first) where
      pub step_room : at + 4 ≤ length first
      step_room = let l = member_long in omega arith

      pub step_fits : length first * 1 < 2 ^ 63 → Fits w64 (at + 4)
      step_fits f = let l = step_room in omega arith

      pub end_fits : (r : ℕ) → r ≡ length (pack_query sheet_width (query_of q)) → length first * 1 < 2 ^ 63 → Fits w64 (at + 4 + r)
      end_fits r e f = let l = member_long in omega arith

      module _ (one : List ℕ) (x : ℕ) (e : one ≡ put_at first at (bytes_of 4 x)) where
        one_long : length one ≡ length first
        one_long = number_long first one at 4 x e step_room

        pub question_room : at + 4 + length (pack_query sheet_width (query_of q)) ≤ length one
        question_room =
            let l = member_long in
            let d = one_long in
            omega arith

        module _ (two : List ℕ) (g : two ≡ put_at one (at + 4) (pack_query sheet_width (query_of q))) where
          pub member_put : x ≡ get_or table (16 * j) 0 % rule_bound → two ≡ put_at first at (pack_member sheet_width (member_in table j))
          member_put d =
              let l : length (bytes_of 4 x) ≡ 4 = length_bytes_of 4 x in
              let r : at + 4 ≤ length first = step_room in
              let s : at + 4 ≡ at + length (bytes_of 4 x) = omega arith in
              g ∙ ap₂ (λ t k. put_at t k (pack_query sheet_width (query_of q))) e s
              ∙ put_then first at (bytes_of 4 x) (omega arith) (pack_query sheet_width (query_of q))
              ∙ ap (λ n. put_at first at (bytes_of 4 n ++ pack_query sheet_width (query_of q))) d ∙ ap (put_at first at) packed

          pub member_same : length two ≡ length first
          member_same =
              let r : at + 4 + length (pack_query sheet_width (query_of q)) ≤ length one = question_room in
              ap length g ∙ put_length one (at + 4) (pack_query sheet_width (query_of q)) r ∙ one_long

    pub member_end_lem : (at r : ℕ) → r ≡ length (pack_query sheet_width (query_of q))
        → at + 4 + r ≡ at + length (pack_member sheet_width (member_in table j))
    member_end_lem at r e = let l = member_long in omega arith

-- ---- the members that are left

-- the bytes of those from number j on
unfoldable pub members_from : List ℕ → ℕ → ℕ → List ℕ
unfolding pack_member flat_map union_in
members_from table n j = flat_map (pack_member sheet_width) (drop j (union_in table n))

module _ (table : List ℕ) (n : ℕ) where
  pub members_all : members_from table n 0 ≡ members_bytes table n
  unfolding members_from
  members_all = refl

  module _ (j : ℕ) where
    members_cons : j < n → members_from table n j ≡ pack_member sheet_width (member_in table j) ++ members_from table n (j + 1)
    unfolding members_from
    members_cons h = ap (flat_map (pack_member sheet_width)) (next_member table n j h)

    pub members_nil : n ≤ j → members_from table n j ≡ []
    unfolding members_from
    members_nil h = ap (flat_map (pack_member sheet_width)) (no_member table n j h)

    pub members_length : j < n
        → length (members_from table n j) ≡ length (pack_member sheet_width (member_in table j)) + length (members_from table n (j + 1))
    members_length h = ap length (members_cons h)
        ∙ length-append (pack_member sheet_width (member_in table j)) (members_from table n (j + 1))

-- ---- the loop that puts them

pub members_begin : (table : List ℕ) (n : ℕ) (s : List ℕ) → Remaining s 2 (members_bytes table n) s 2 (members_from table n 0)
members_begin table n s = record { same = refl; makes = ap (put_at s 2) (members_all table n) }

pub members_start : (table : List ℕ) (n : ℕ) → 2 + length (members_from table n 0) ≡ 2 + length (members_bytes table n)
members_start table n = ap (λ l. 2 + length l) (members_all table n)

module _ (table : List ℕ) (n j at : ℕ) (first sheet : List ℕ)
    (left : Remaining first 2 (members_bytes table n) sheet at (members_from table n j))
    (ends : at + length (members_from table n j) ≡ 2 + length (members_bytes table n)) where
  pub member_room : 2 + length (members_bytes table n) ≤ length first → j < n
      → at + length (pack_member sheet_width (member_in table j)) ≤ length sheet
  member_room room h =
      let s = left.same in
      let l = members_length table n j h in
      omega arith

  pub member_next : (later : List ℕ) (to : ℕ) → later ≡ put_at sheet at (pack_member sheet_width (member_in table j))
      → to ≡ at + length (pack_member sheet_width (member_in table j)) → 2 + length (members_bytes table n) ≤ length first → j < n
      → Remaining first 2 (members_bytes table n) later to (members_from table n (j + 1))
  member_next later to e d room h =
      let l = members_length table n j h in
      remaining_next first 2 (members_bytes table n) sheet at (members_from table n j) left
      (pack_member sheet_width (member_in table j)) later
      (members_from table n (j + 1)) to (members_cons table n j h) d (omega arith) e

  pub members_ends : (to : ℕ) → to ≡ at + length (pack_member sheet_width (member_in table j)) → j < n
      → to + length (members_from table n (j + 1)) ≡ 2 + length (members_bytes table n)
  members_ends to d h = let l = members_length table n j h in omega arith

  pub members_done : n ≤ j → sheet ≡ put_at first 2 (members_bytes table n)
  members_done h = remaining_done first 2 (members_bytes table n) sheet at (members_from table n j) left (members_nil table n j h)

  pub members_end : n ≤ j → at ≡ 2 + length (members_bytes table n)
  members_end h = let l : length (members_from table n j) ≡ 0 = ap length (members_nil table n j h) in omega arith

pub ruleset laws = (rules, rows, step_room, step_fits, end_fits, question_room, member_put, member_same, member_end_lem)

pub ruleset loop_laws = (
  rules,
  rows,
  remaining_same,
  members_begin,
  members_start,
  member_room,
  member_next,
  members_ends,
  members_done,
  members_end,
)
