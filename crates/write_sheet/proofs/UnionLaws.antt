-- The whole union: its length, and its bytes at the beginning of a sheet with zeros after them.
use mathlib.Core.Path.{◌≡◌, sym, ap, ap₂, ◌∙◌}
use Prim.Native.Nat.{ℕ, ◌+◌, ◌-◌, ◌≤◌, ◌<◌}
use native.Mathlib.Omega.{arith}
use mathlib.Core.List.{List, [], ◌++◌, append-nil}
use lib.ListN.{length, take, drop, replicate, length-drop, drop_of_length-le}
use lib.Seq.{length-take-le}
use borrow.Author.Rules.{rules}
use borrow.Rule.Slice.PartMut.{put_mid}
use Rattle.theory.specs.Laws.Lists.{numbered_length}
use Rattle.words.specs.Limits.{sheet_width}
use Rattle.words.specs.Words.{query_of, union_in}
use Rattle.words.specs.declared.QueryWords.{QueryWords}
use Rattle.words.specs.Rows.{member_in}
use Rattle.words.specs.Laws.Rows.{rows}
use Rattle.sheets.specs.Packing.{bytes_of, pack_query, pack_union, union_sheet}
use Rattle.sheets.proofs.Laws.PackingBytes.{length_bytes_of, length_number}
use Rattle.write_sheet.specs.PutAt.{put_at, members_bytes}
use Rattle.write_sheet.proofs.PutLaws.{put_length, put_before, put_then}
use Rattle.write_sheet.proofs.NumberLaws.{number_long}
use Rattle.write_sheet.proofs.MemberLaws.{members_from, member_long, members_all, members_nil, members_length}

module _ (table : List ℕ) (n : ℕ) where
  abbrev union : List ℕ
  union = pack_union sheet_width (union_in table n)

  union_count : length (union_in table n) ≡ n
  unfolding union_in
  union_count = numbered_length (member_in table) n

  packed : bytes_of 2 n ++ members_bytes table n ≡ union
  unfolding pack_union
  packed = ap (λ k. bytes_of 2 k ++ members_bytes table n) (sym union_count)

  union_long : length union ≡ 2 + length (members_bytes table n)
  union_long = ap length (sym packed) ∙ length_number 2 n (members_bytes table n)

  -- ---- its length

  pub length_begins : 2 + length (members_from table n 0) ≡ length union
  length_begins = ap (λ l. 2 + length l) (members_all table n) ∙ sym union_long

  module _ (j total : ℕ) (left : total + length (members_from table n j) ≡ length union) where
    pub length_next : (q : QueryWords) (r : ℕ) → query_of q ≡ (member_in table j).query → r ≡ length (pack_query sheet_width (query_of q))
        → j < n → total + (4 + r) + length (members_from table n (j + 1)) ≡ length union
    length_next q r e d h =
        let l = members_length table n j h in
        let m = member_long table j q e in
        omega arith

    pub length_done : n ≤ j → total ≡ length union
    length_done h = let l : length (members_from table n j) ≡ 0 = ap length (members_nil table n j h) in omega arith

  -- ---- its bytes

  module _ (first : List ℕ) (room : length union ≤ length first) where
    pub count_room : 0 + 2 ≤ length first
    count_room = let l = union_long in omega arith

    module _ (one : List ℕ) (e : one ≡ put_at first 0 (bytes_of 2 n)) where
      one_long : length one ≡ length first
      one_long = number_long first one 0 2 n e count_room

      pub members_room : 2 + length (members_bytes table n) ≤ length one
      members_room =
          let l = union_long in
          let d = one_long in
          omega arith

      module _ (two : List ℕ) (end : ℕ) (g : two ≡ put_at one 2 (members_bytes table n))
          (h : end ≡ 2 + length (members_bytes table n)) where
        union_put : two ≡ put_at first 0 union
        union_put =
            let l : length (bytes_of 2 n) ≡ 2 = length_bytes_of 2 n in
            let r : 0 + 2 ≤ length first = count_room in
            let s : 2 ≡ 0 + length (bytes_of 2 n) = omega arith in
            g ∙ ap₂ (λ t k. put_at t k (members_bytes table n)) e s
            ∙ put_then first 0 (bytes_of 2 n) (omega arith) (members_bytes table n) ∙ ap (put_at first 0) packed

        long : 0 + length union ≤ length first
        long = omega arith

        pub two_long : length two ≡ length first
        two_long = ap length union_put ∙ put_length first 0 union long

        pub end_within : end ≤ length two
        end_within =
            let l = union_long in
            let d = two_long in
            omega arith

        front : take end two ≡ union
        front =
            let l = union_long in
            let s : end ≡ 0 + length union = omega arith in
            ap₂ take s union_put ∙ put_before first 0 union long

        module _ (k : ℕ) (d : k ≡ length two - end) (part : List ℕ) (c : part ≡ replicate (length (take k (drop end two))) 0) where
          nothing_after : drop k (drop end two) ≡ []
          nothing_after = drop_of_length-le (drop end two) {i = k} (rw (length-drop end two) (omega arith))

          cleared : part ≡ replicate (length first - length union) 0
          cleared =
              let a : length (drop end two) ≡ length two - end = length-drop end two in
              let b : length (take k (drop end two)) ≡ k = length-take-le k (drop end two) (omega arith) in
              let l = union_long in
              let t = two_long in
              let m : length (take k (drop end two)) ≡ length first - length union = omega arith in
              c ∙ ap (λ m. replicate m 0) m

          pub sheet_written : put_mid end k two part ≡ union_sheet sheet_width (length first) (union_in table n)
          unfolding union_sheet
          sheet_written =
              ap (λ l. take end two ++ (part ++ l)) nothing_after ∙ ap (λ l. take end two ++ l) (append-nil part)
              ∙ ap₂ ◌++◌ front cleared

pub ruleset length_laws = (rules, rows, length_begins, length_next, length_done)

pub ruleset laws = (rules, count_room, members_room, two_long, end_within, sheet_written)
