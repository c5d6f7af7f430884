-- Showing a member: where it begins, whether it is there, and the part of the sheet that holds its question.
use mathlib.Core.Path.{◌≡◌, refl, sym, ap, ◌∙◌, subst}
use Prim.Native.Nat.{ℕ, ◌+◌, ◌-◌, ◌≤◌, ◌<◌}
use native.Mathlib.Omega.{arith}
use mathlib.Core.Bool.{Bool, true, false, not, ◌&&◌}
use mathlib.Core.List.{List}
use lib.Dec.{T, leb, ltb, ltb→lt}
use lib.ListN.{length, take, drop, length-drop}
use lib.Seq.{length-take-le}
use borrow.Author.Rules.{rules}
use borrow.Author.Tests.{leb-true}
use mir.Syntax.{w64}
use mir.Val.{Fits}
use Rattle.theory.specs.Laws.Options.{T_and, is_true}
use Rattle.words.specs.Limits.{sheet_width, step_bytes, most_union_bytes}
use Rattle.sheets.specs.Format.{question_length, term_count, member_count, member_start, first_question}
use Rattle.sheets.specs.Showing.{has_member, member_part, part_start, Placed}
use Rattle.sheets.specs.Tests.{refuses6}
use Rattle.sheets.proofs.Laws.UnionLengths.{first_begins, accepted, at_least, at_most, refused}
use Rattle.read_walk.specs.Ends.{member_end}
use Rattle.read_walk.specs.EndLaws.{end_begins, end_within, start_within}

pub start_reached : (s : List ℕ) (at j m : ℕ) → at ≡ member_start sheet_width s j → j ≤ m → m ≤ j → at ≡ member_start sheet_width s m
start_reached s at j m e h k = let d : j ≡ m = omega arith in e ∙ ap (member_start sheet_width s) d

module _ (p s : List ℕ) (m : ℕ) where
  pub short_has_none : length s ≤ first_question → false ≡ has_member p sheet_width s m
  short_has_none h =
      ap (λ b. b && ltb m (member_count s))
      (refused p s (term_count s first_question) (λ t. let l : 7 ≤ length s = at_least p s (term_count s first_question) t in omega arith))

  -- by member 0's answer terms
  module _ (terms : ℕ) (c : terms ≡ term_count s first_question) (r : Bool) (e : r ≡ not (refuses6 p sheet_width terms s)) where
    on_its_own : r ≡ not (refuses6 p sheet_width (term_count s first_question) s)
    on_its_own = e ∙ ap (λ x. not (refuses6 p sheet_width x s)) c

    pub refused_has_none : r ≡ false → false ≡ has_member p sheet_width s m
    refused_has_none f = rw (← on_its_own, f)

    pub has_counted : r ≡ true → (count : ℕ) → count ≡ member_count s → ltb m count ≡ has_member p sheet_width s m
    has_counted t count d = rw (← on_its_own, t, ← d)

  module _ (b : Bool) (e : b ≡ has_member p sheet_width s m) where
    pub not_placed : b ≡ false → Placed p sheet_width s m 0 0
    unfolding member_part part_start
    not_placed f = record { start_is = rw (← e, f); size_is = rw (← e, f); within = omega arith; part = rw (← e, f) }

    module _ (t : b ≡ true) where
      parts : T (not (refuses6 p sheet_width (term_count s first_question) s)) × T (ltb m (member_count s))
      parts = (T_and (not (refuses6 p sheet_width (term_count s first_question) s)) (ltb m (member_count s))).0 (subst T (sym t ∙ e) tt)

      sound : not (refuses6 p sheet_width (term_count s first_question) s) ≡ true
      sound = is_true (not (refuses6 p sheet_width (term_count s first_question) s)) parts.0

      ends : member_end s (member_start sheet_width s m) ≤ length s
      ends =
          let a = accepted p s (term_count s first_question) sound in
          end_within s (member_start sheet_width s m) m (member_count s) refl (ltb→lt m (member_count s) parts.1) (omega arith)

      pub shown_short : length s ≤ most_union_bytes sheet_width
      shown_short = at_most p s (term_count s first_question) sound

      pub shown_begins : member_start sheet_width s m ≤ length s
      shown_begins = let h : member_end s (member_start sheet_width s m) ≤ length s = ends in omega arith

      module _ (start : ℕ) (d : start ≡ member_start sheet_width s m) where
        -- a byte of the step, or the question's first
        module _ (k : ℕ) (h : leb k step_bytes ≡ true) where
          pub byte_fits : Fits w64 (start + k)
          byte_fits =
              let g : member_end s (member_start sheet_width s m) ≤ length s = ends in
              let l : length s ≤ most_union_bytes sheet_width = shown_short in
              omega (arith, leb-true k step_bytes h)

          pub byte_within : start + k < length s
          byte_within = let g : member_end s (member_start sheet_width s m) ≤ length s = ends in omega (arith, leb-true k step_bytes h)

        pub placed : (size : ℕ) → size ≡ question_length sheet_width s (start + step_bytes)
            → Placed p sheet_width s m (start + step_bytes) size
        unfolding member_part part_start
        placed size c =
            let g : member_end s start ≡ member_end s (member_start sheet_width s m) = ap (λ a. member_end s a) d in
            let h : member_end s (member_start sheet_width s m) ≤ length s = ends in
            let within : start + step_bytes + size ≤ length s = omega arith in
            let part : take size (drop (start + step_bytes) s) ≡ member_part p sheet_width s m = rw (← e, t, c, d) in
            record {
              start_is = rw (← e, t, d);
              size_is = sym (ap length (sym part) ∙ length-take-le size (drop (start + step_bytes) s) (simp length-drop (omega arith)));
              within = within;
              part = part;
            }

-- ---- the part at a place

module _ (p s : List ℕ) (m start size : ℕ) (at : Placed p sheet_width s m start size) where
  pub part_ends : start + size ≤ length s
  part_ends = at.within

  pub part_shown : take (start + size - start) (drop start s) ≡ member_part p sheet_width s m
  part_shown = let k : start + size - start ≡ size = omega arith in rw k at.part

pub ruleset laws = (
  rules,
  first_begins,
  end_begins,
  start_within,
  start_reached,
  short_has_none,
  refused_has_none,
  has_counted,
  not_placed,
  shown_short,
  shown_begins,
  byte_fits,
  byte_within,
  placed,
  part_ends,
  part_shown,
)
