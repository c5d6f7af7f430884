-- Unions: what was packed in range is read again and meets no refusal of the format, and a sheet that meets none is the packing of
-- what is read from it, which is in range.
use Rattle.std.specs.Prelude.{◌≡◌, refl, ◌↔◌, Bool}
use Rattle.std.proofs.Math.Path.{sym, ap, ap₂, subst}
use Rattle.std.proofs.Common.{◌∙◌, zero-add, suc-add, add-suc, arith, length-append}
use Rattle.std.proofs.Math.Logic.Iff
use Prim.Native.Nat.{ℕ, zero, suc, ◌+◌, ◌^◌, ◌≤◌, ◌<◌}
use Rattle.std.proofs.Math.Nat.{add-zero, add_assoc}
use mathlib.Core.List.Memᴰ
use mathlib.Core.List.{List, [], ◌∷◌, ◌++◌, map, flat_map}
use Rattle.std.proofs.Math.Dec.{T}
use Rattle.std.proofs.Math.ListN.{length}
use Rattle.theory.specs.Lists.{◌∈◌, all, numbers}
use Rattle.theory.specs.Syntax.{Query, Member, UCQ}
use Rattle.theory.specs.Laws.Options.{T_and}
use Rattle.theory.specs.Laws.Lists.{all_iff, forall_cons, here, mem_along, numbered_length}
use Rattle.words.specs.Records.{step_of}
use Rattle.sheets.specs.Bits.{number_at}
use Rattle.sheets.specs.Format.{term_count, query_at, member_count, member_start, member_at, union_of}
use Rattle.sheets.specs.Partners.{query_as_read}
use Rattle.sheets.specs.Tests.{question_sound, refuses4, refuses5, member_sound, refuses6}
use Rattle.sheets.specs.Packing.{bytes_of, pack_query, step_number, pack_member, pack_union, All, IsByte, MemberInRange, UnionInRange}
use Rattle.sheets.specs.Packing.{WholeBytes}
use Rattle.sheets.proofs.Laws.Tests.{itself, by_pass, not_tells, and_tells, or_tells, eqb_tells, leb_tells}
use Rattle.sheets.proofs.Laws.PackingBytes.{Stands, stands_nil, stands_whole, stands_all, stands_first, stands_second, stands_append}
use Rattle.sheets.proofs.Laws.PackingBytes.{number_below, number_stands, number_first, number_then, number_append, length_number}
use Rattle.sheets.proofs.Laws.PackingNumbers.{step_code}
use Rattle.sheets.proofs.Laws.PackingSheets.{unmet}
use Rattle.sheets.proofs.Laws.PackingQueries.{question_read, answers_count, length_again, question_again, question_in}

module _ (w : ℕ) (whole : WholeBytes w) where
  abbrev pack_members : UCQ → List ℕ
  pack_members ms = flat_map (pack_member w) ms

  -- where member j's question begins, and whether it is sound; so many members from the k-th on
  module _ (s : List ℕ) where
    abbrev question_start : ℕ → ℕ
    question_start j = member_start w s j + 4

    abbrev sound : ℕ → Bool
    sound j = question_sound w s (question_start j)

    abbrev members_from : ℕ → ℕ → UCQ
    members_from k n = map (member_at w s) (numbers k n)

  -- ---- packed members that stand in a sheet

  pub length_member : (m : Member) → length (pack_member w m) ≡ 4 + length (pack_query w m.query)
  unfolding pack_member
  length_member m = length_number 4 (step_number m.step) (pack_query w m.query)

  module _ (s : List ℕ) where
    member_read : (m : Member) (j : ℕ) → MemberInRange w m → Stands (pack_member w m) (member_start w s j) s
        → (member_at w s j ≡ m) × T (sound s j) × (member_start w s (suc j) ≡ member_start w s j + length (pack_member w m))
    unfolding pack_member member_at member_start
    member_read m j h t =
        let at : ℕ = member_start w s j in
        let x : ℕ = step_number m.step in
        let q : List ℕ = pack_query w m.query in
        let step : step_of (number_at s at 4) ≡ m.step = ap step_of (number_first 4 x at q s (step_code.below m.step h.0) t)
        ∙ step_code.read m.step h.0 in
        let r = question_read w whole m.query s (at + 4) h.1 (number_then 4 x at q s t) in (
          λ i. record { step = step i; query = r.0 i },
          r.1,
          ap (λ k. at + 4 + k) r.2 ∙ add_assoc at 4 (length q) ∙ ap (λ k. at + k) (sym (length_member m)),
        )

    members_read : (k : ℕ) (ms : UCQ) → All (MemberInRange w) ms → Stands (pack_members ms) (member_start w s k) s
        → (members_from s k (length ms) ≡ ms) × T (all (sound s) (numbers k (length ms)))
        × (member_start w s (k + length ms) ≡ member_start w s k + length (pack_members ms))
    unfolding numbers all flat_map
    members_read k [] h t = (refl, tt, ap (member_start w s) (add-zero k) ∙ sym (add-zero (member_start w s k)))
    members_read k (m ∷ ms) h t =
        let at : ℕ = member_start w s k in
        let first = member_read m k (h m here) (stands_first (pack_member w m) (pack_members ms) at s t) in
        let later : Stands (pack_members ms) (member_start w s (suc k)) s =
        rw first.2 (stands_second (pack_member w m) (pack_members ms) at s t) in
        let rest = members_read (suc k) ms (λ n i. h n (Memᴰ.tail i)) later in (
          ap₂ ◌∷◌ first.0 rest.0,
          (T_and (sound s k) (all (sound s) (numbers (suc k) (length ms)))).1 (first.1, rest.1),
          ap (member_start w s) (add-suc k (length ms) ∙ sym (suc-add k (length ms)))
              ∙ rest.2
              ∙ ap (λ n. n + length (pack_members ms)) first.2
              ∙ add_assoc at (length (pack_member w m)) (length (pack_members ms))
              ∙ ap (λ n. at + n) (sym (length-append (pack_member w m) (pack_members ms))),
        )

  -- ---- sound members that a sheet has room for

  module _ (s : List ℕ) (bytes : All IsByte s) where
    start_rises : (k n : ℕ) → member_start w s k ≤ member_start w s (k + n)
    unfolding member_start
    start_rises k zero = subst (λ j. member_start w s k ≤ member_start w s j) (sym (add-zero k)) (omega arith)
    start_rises k (suc n) =
        let below : member_start w s k ≤ member_start w s (k + n) = start_rises k n in
        subst (λ j. member_start w s k ≤ member_start w s j) (sym (add-suc k n)) (omega arith)

    member_again : (j : ℕ) → member_start w s (suc j) ≤ length s → T (sound s j)
        → Stands (pack_member w (member_at w s j)) (member_start w s j) s × MemberInRange w (member_at w s j)
        × (member_start w s (suc j) ≡ member_start w s j + length (pack_member w (member_at w s j)))
    unfolding pack_member member_at member_start
    member_again j l t =
        let at : ℕ = member_start w s j in
        let x : ℕ = number_at s at 4 in
        let below : x < 2 ^ 32 = number_below s at 4 bytes in
        let q : List ℕ = pack_query w (query_at w s (at + 4)) in (
          number_append 4 (step_number (step_of x)) at q s
              (rw (step_code.again x below tt) (number_stands s at 4 bytes (omega arith)))
              (question_again w whole s (at + 4) bytes l t),
          (step_code.within x below tt, question_in w whole s (at + 4) bytes l t),
          ap (λ k. at + 4 + k) (sym (length_again w whole s (at + 4))) ∙ add_assoc at 4 (length q)
              ∙ ap (λ k. at + k) (sym (length_member (member_at w s j))),
        )

    members_again : (k n : ℕ) → member_start w s (k + n) ≡ length s → T (all (sound s) (numbers k n))
        → Stands (pack_members (members_from s k n)) (member_start w s k) s × All (MemberInRange w) (members_from s k n)
        × (member_start w s k + length (pack_members (members_from s k n)) ≡ length s)
    unfolding numbers all flat_map
    members_again k zero e t = (
      stands_nil (member_start w s k) s,
      λ m i. absurd (Memᴰ.not-nil i),
      add-zero (member_start w s k)
          ∙ ap (member_start w s) (sym (add-zero k)) ∙ e,
    )
    members_again k (suc n) e t =
        let f : member_start w s (suc k + n) ≡ length s = ap (member_start w s) (suc-add k n ∙ sym (add-suc k n)) ∙ e in
        let u = (T_and (sound s k) (all (sound s) (numbers (suc k) n))).0 t in
        let first = member_again k (rw (← f) (start_rises (suc k) n)) u.0 in
        let rest = members_again (suc k) n f u.1 in
        let at : ℕ = member_start w s k in
        let m : List ℕ = pack_member w (member_at w s k) in
        let ms : List ℕ = pack_members (members_from s (suc k) n) in (
          stands_append m ms at s first.0 (subst (λ i. Stands ms i s) first.2 rest.0),
          forall_cons {P = MemberInRange w} first.1 rest.1,
          ap (λ j. at + j) (length-append m ms) ∙ sym (add_assoc at (length m) (length ms)) ∙ ap (λ i. i + length ms) (sym first.2)
              ∙ rest.2,
        )

  -- ---- union sheets

  union_parts : (union : UCQ) → UnionInRange w union
      → (member_count (pack_union w union) ≡ length union) × Stands (pack_members union) 2 (pack_union w union)
      × (length (pack_union w union) ≡ 2 + length (pack_members union))
  unfolding pack_union
  union_parts union h =
      let s : List ℕ = pack_union w union in
      let ms : List ℕ = pack_members union in
      let few : length union ≤ 512 = h.1 in (
        number_first 2 (length union) 0 ms s (omega arith) (stands_whole s),
        number_then 2 (length union) 0 ms s (stands_whole s),
        length_number 2 (length union) ms,
      )

  pub packed_union_read : (union : UCQ) → UnionInRange w union → union_of w (pack_union w union) ≡ union
  unfolding union_of member_start
  packed_union_read union h =
      let p = union_parts union h in
      ap (members_from (pack_union w union) 0) p.0 ∙ (members_read (pack_union w union) 0 union h.2 p.1).0

  module _ (partners : List ℕ) (arity : ℕ) where
    -- "a member would meet 3, 4 or 5, or a member's answer-term count differs from the question's": 3 aside, none of these
    abbrev pub Passes : Member → Type 0
    Passes m =
        (¬ T (refuses4 (query_as_read partners m.query))) × (¬ T (refuses5 (query_as_read partners m.query)))
        × (length m.query.answers ≡ arity)

    member_iff : (s : List ℕ) (j : ℕ) → T (member_sound partners w arity s j) ↔ (T (sound s j) × Passes (member_at w s j))
    unfolding member_sound member_at
    member_iff s j = (
      λ t. let h = tells.0 t in (h.0.0.0, (h.0.0.1, h.0.1, answers_count w whole s (question_start s j) ∙ h.1)),
      λ h. tells.1 (((h.0, h.1.0), h.1.1), sym (answers_count w whole s (question_start s j)) ∙ h.1.2),
    )
      where
        q : Query
        q = query_as_read partners (query_at w s (question_start s j))

        tells : T (member_sound partners w arity s j)
            ↔ (((T (sound s j) × (¬ T (refuses4 q))) × (¬ T (refuses5 q))) × (term_count s (question_start s j) ≡ arity))
        tells =
            (and_tells (and_tells (and_tells (itself (sound s j)) (not_tells (by_pass (refuses4 q) Iff.rfl)))
            (not_tells (by_pass (refuses5 q) Iff.rfl)))
            (eqb_tells (term_count s (question_start s j)) arity)).pass

    -- what it takes not to meet 6, where the sheet's count is n
    abbrev Passes6 : List ℕ → ℕ → Type 0
    Passes6 s n = (((1 ≤ n) × (n ≤ 512)) × (member_start w s n ≡ length s)) × T (all (member_sound partners w arity s) (numbers 0 n))

    passes6 : (s : List ℕ) → (¬ T (refuses6 partners w arity s)) ↔ Passes6 s (member_count s)
    unfolding refuses6
    passes6 s =
        let n : ℕ = member_count s in
        unmet (or_tells (or_tells (not_tells (and_tells (leb_tells 1 n) (leb_tells n 512)))
        (not_tells (eqb_tells (member_start w s n) (length s))))
        (not_tells (itself (all (member_sound partners w arity s) (numbers 0 n)))))

    pub packed_union_passes : (union : UCQ) → UnionInRange w union → All Passes union → ¬ T (refuses6 partners w arity (pack_union w union))
    unfolding member_start
    packed_union_passes union h passes =
        let s : List ℕ = pack_union w union in
        let n : ℕ = length union in
        let p = union_parts union h in
        let r = members_read s 0 union h.2 p.1 in
        let in-union : (j : ℕ) → j ∈ numbers 0 n → member_at w s j ∈ union = λ j i. mem_along r.0 (Memᴰ.map (member_at w s) i) in
        let each : All (λ j. T (member_sound partners w arity s j)) (numbers 0 n) =
        λ j i. (member_iff s j).1 ((all_iff (sound s) (numbers 0 n)).0 r.1 j i, passes (member_at w s j) (in-union j i)) in
        let all-fits : Passes6 s n = (
          ((h.0, h.1), ap (member_start w s) (sym (zero-add n)) ∙ r.2 ∙ sym p.2),
          (all_iff (member_sound partners w arity s) (numbers 0 n)).1 each,
        ) in
        (passes6 s).1 (subst (Passes6 s) (sym p.0) all-fits)

    module _ (s : List ℕ) (bytes : All IsByte s) (f : ¬ T (refuses6 partners w arity s)) where
      members : Stands (pack_members (union_of w s)) 2 s × All (MemberInRange w) (union_of w s)
          × (2 + length (pack_members (union_of w s)) ≡ length s)
      unfolding union_of member_start
      members =
          let n : ℕ = member_count s in
          let p = (passes6 s).0 f in
          let each : All (λ j. T (sound s j)) (numbers 0 n) =
          λ j i. ((member_iff s j).0 ((all_iff (member_sound partners w arity s) (numbers 0 n)).0 p.1 j i)).0 in
          members_again s bytes 0 n (ap (member_start w s) (zero-add n) ∙ p.0.1) ((all_iff (sound s) (numbers 0 n)).1 each)

      union_count : length (union_of w s) ≡ member_count s
      unfolding union_of
      union_count = numbered_length (member_at w s) (member_count s)

      pub read_union_packed : pack_union w (union_of w s) ≡ s
      unfolding pack_union
      read_union_packed =
          let n : ℕ = length (union_of w s) in
          let ms : List ℕ = pack_members (union_of w s) in
          let end : 2 + length ms ≡ length s = members.2 in
          let len : length (bytes_of 2 n ++ ms) ≡ 2 + length ms = length_number 2 n ms in
          let count : Stands (bytes_of 2 n) 0 s =
          subst (λ k. Stands (bytes_of 2 k) 0 s) (sym union_count) (number_stands s 0 2 bytes (omega arith)) in
          stands_all (bytes_of 2 n ++ ms) s (number_append 2 n 0 ms s count members.0) (omega arith)

      pub read_union_in : UnionInRange w (union_of w s)
      read_union_in = let p = ((passes6 s).0 f).0.0 in (rw union_count p.0, rw union_count p.1, members.1)
