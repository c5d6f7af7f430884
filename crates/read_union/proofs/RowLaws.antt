-- The rows of a table, and a union read into them.
use mathlib.Core.Path.{◌≡◌, refl, sym, ap, ◌∙◌, subst}
use Prim.Native.Nat.{ℕ, zero, suc, ◌+◌, ◌*◌, ◌≤◌, ◌<◌}
use native.Mathlib.Omega.{arith}
use mathlib.Core.Bool.{Bool, true, false, not}
use mathlib.Core.List.{List, map}
use lib.ListN.{length, take, drop, take-append-drop, length-map}
use lib.Seq.{paste, get_or-take}
use borrow.Author.Count.{below_more}
use borrow.Author.Rules.{rules}
use borrow.Author.Tests.{not-true, not-false}
use mir.Syntax.{w64}
use mir.Val.{Fits}
use Rattle.theory.specs.Lists.{pick, numbers}
use Rattle.theory.specs.Syntax.{Member}
use Rattle.theory.specs.Laws.Options.{is_true}
use Rattle.theory.specs.Laws.Lists.{numbered_length}
use Rattle.words.specs.Records.{step_of}
use Rattle.words.specs.Words.{query_of, member_of, union_in, stride, table_words}
use Rattle.words.specs.declared.QueryWords.{QueryWords}
use Rattle.words.specs.Limits.{sheet_width, most_members, count_bytes, step_bytes, most_union_bytes}
use Rattle.words.specs.Rows.{NarrowRow, NarrowRows, RowOf}
use Rattle.words.specs.Laws.NewRows.{pasted_there, pasted_kept}
use Rattle.sheets.specs.Bits.{number_at}
use Rattle.sheets.specs.Format.{query_at, member_count, member_start, question_start, member_at, union_of}
use Rattle.sheets.proofs.Laws.QuestionRefusals.{question_sound_tells}
use Rattle.sheets.specs.Partners.{query_as_read, member_as_read}
use Rattle.sheets.specs.Reading.{union_as_read}
use Rattle.sheets.specs.Tests.{question_sound, refuses6}
use Rattle.sheets.proofs.Laws.UnionLengths.{first_begins, accepted, at_least, at_most}
use Rattle.read_records.specs.ReadIntoLaws.{sheet_refused, sheet_read}
use Rattle.read_question.specs.QuestionWords.{ReadFrom}
use Rattle.read_walk.specs.Ends.{member_end}
use Rattle.read_walk.specs.EndLaws.{end_begins, end_within, start_within}
use Rattle.read_union.specs.UnionRows.{Readable, UnionRead}

-- ---- the rows of a table

-- the first n rows are the union's first n members, as read
pub record RowsBelow (p s table : List ℕ) (n : ℕ) : Type 0 where
  pub each : (i : ℕ) → i < n → RowOf (member_as_read p (member_at sheet_width s i)) (take stride (drop (stride * i) table))

pub no_rows : (p s table : List ℕ) → RowsBelow p s table 0
no_rows p s table = record { each = λ i h. absurd (omega arith) }

-- one more member read
module _ (p s : List ℕ) (at j : ℕ) (begins : at ≡ member_start sheet_width s j)
    (step : ℕ) (q : QueryWords) (e : step ≡ number_at s at step_bytes) (d : ReadFrom p s (at + step_bytes) q)
  where
    as_read : member_as_read p (member_at sheet_width s j)
        ≡ record {
          step = step_of (number_at s (member_start sheet_width s j) step_bytes);
          query = query_as_read p (query_at sheet_width s (question_start sheet_width s j));
        }
    unfolding member_as_read member_at
    as_read = refl

    member_read : ◌≡◌ {A = Member} record { step = step_of step; query = query_of q } (member_as_read p (member_at sheet_width s j))
    member_read = rw (as_read, ← begins, ← e, ← d.query_is)

    pub rows_more : (first table later row : List ℕ) (count : ℕ)
        → RowOf (record { step = step_of step; query = query_of q }) row → later ≡ paste table (stride * j) row stride
        → RowsBelow p s table j → length table ≡ length first → table_words ≤ length first → j < count → count ≤ most_members
        → RowsBelow p s later (j + 1)
    rows_more first table later row count r f below same large more few =
        let room : stride * j + stride ≤ length table = omega arith in
        record {
          each = below_more (λ i. RowOf (member_as_read p (member_at sheet_width s i)) (take stride (drop (stride * i) later))) j
              (λ i h. subst (λ l. RowOf (member_as_read p (member_at sheet_width s i)) l) (sym (kept i h)) (below.each i h))
              (rw (f, pasted_there table row (stride * j) r.full room, ← member_read) r);
        }
      where
        kept : (i : ℕ) → i < j → take stride (drop (stride * i) later) ≡ take stride (drop (stride * i) table)
        kept i h =
            ap (λ t. take stride (drop (stride * i) t)) f
            ∙ pasted_kept table row (stride * j) r.full (omega arith) (stride * i) (omega arith)

-- the members in a table of rows
mapped : (f : ℕ → Member) (g : Member → Member) (h : ℕ → Member) (start n : ℕ) → ((i : ℕ) → i < start + n → f i ≡ g (h i))
    → map f (numbers start n) ≡ map g (map h (numbers start n))
unfolding numbers
mapped f g h start zero agree = refl
mapped f g h start (suc n) agree =
    let here : f start ≡ g (h start) = agree start (omega arith) in
    let rest = mapped f g h (suc start) n (λ i l. agree i (omega arith)) in
    cc

pub rows_read : (p s table : List ℕ) (j count : ℕ) → RowsBelow p s table j → j ≤ count → count ≤ j
    → union_in table count ≡ map (member_as_read p) (map (member_at sheet_width s) (numbers 0 count))
unfolding union_in
rows_read p s table j count below h k =
    mapped (λ i. member_of (drop (stride * i) table)) (member_as_read p) (member_at sheet_width s) 0 count
    (λ i l. ap member_of (sym (take-append-drop stride (drop (stride * i) table)))
    ∙ (below.each i (omega arith)).holds (drop stride (drop (stride * i) table)))

-- and they are narrow
pub rows_narrow : (p s table : List ℕ) (j count : ℕ) → RowsBelow p s table j → count ≤ j → NarrowRows table count
rows_narrow p s table j count below k = record { each = λ i h. all_of (drop (stride * i) table) (below.each i (omega arith)).narrow }
  where
    all_of : (row : List ℕ) → NarrowRow (take stride row) → NarrowRow row
    all_of row n = record {
      few_terms = rw (get_or-take stride row 1 0 (omega arith)) at n.few_terms;
      few_atoms = rw (get_or-take stride row 6 0 (omega arith)) at n.few_atoms;
      answer_words = λ i l. rw (get_or-take stride row (2 + i) 0 (omega arith)) at (n.answer_words i l);
    }

-- ---- the loop that reads members

module _ (s : List ℕ) (at j count : ℕ) (begins : at ≡ member_start sheet_width s j) where
  module _ (h : j < count) (r : Readable s count) where
    pub question_there : question_sound sheet_width s (at + step_bytes) ≡ true
    question_there = rw begins (r.each j h)

    pub question_within : member_end s at ≤ length s
    question_within = end_within s at j count begins h r.within

    pub step_within : at + step_bytes ≤ length s
    step_within = let e : member_end s at ≤ length s = end_within s at j count begins h r.within in omega arith

    pub step_fits : length s ≤ most_union_bytes sheet_width → Fits w64 (at + step_bytes)
    step_fits l = let e : member_end s at ≤ length s = end_within s at j count begins h r.within in omega arith

    pub begins_within : at ≤ length s
    begins_within = start_within s at j count begins h r.within

-- ---- a union that is read

union_length : (p s : List ℕ) → member_count s ≡ length (union_as_read p sheet_width s)
unfolding union_as_read union_of
union_length p s =
    sym (length-map (map (member_at sheet_width s) (numbers 0 (member_count s))) (member_as_read p)
    ∙ numbered_length (member_at sheet_width s) (member_count s))

module _ (p s : List ℕ) (arity : ℕ) (r : Bool) (e : r ≡ not (refuses6 p sheet_width arity s)) where
  -- a refusal's own table is not said
  pub union_refused : (table : List ℕ) → r ≡ false → UnionRead p s arity table 6 0
  union_refused table f = record {
    sheet =
        sheet_refused (pick (refuses6 p sheet_width arity s) 6 0) (union_as_read p sheet_width s) (union_in table) most_members 6 0
        6 refl refl (rw (not-false (refuses6 p sheet_width arity s) (sym e ∙ f))) refl;
    some = λ zero. absurd (omega arith);
    narrow = record { each = λ j h. absurd (omega arith) };
  }

  module _ (t : r ≡ true) where
    pub sound_long : count_bytes ≤ length s
    sound_long = let l : 7 ≤ length s = at_least p s arity (sym e ∙ t) in omega arith

    pub sound_short : length s ≤ most_union_bytes sheet_width
    sound_short = at_most p s arity (sym e ∙ t)

    module _ (count : ℕ) (d : count ≡ member_count s) where
      sound_some : 1 ≤ count
      sound_some = let a = accepted p s arity (sym e ∙ t) in omega arith

      pub sound_few : count ≤ most_members
      sound_few = let a = accepted p s arity (sym e ∙ t) in omega arith

      pub sound_readable : Readable s count
      sound_readable =
          let a = accepted p s arity (sym e ∙ t) in
          rw d record {
            within = omega arith;
            each = λ j h. is_true (question_sound sheet_width s (question_start sheet_width s j))
                ((question_sound_tells sheet_width s (question_start sheet_width s j)).pass.1 (a.3 j h).0);
          }

      pub union_read : (table : List ℕ) → union_in table count ≡ map (member_as_read p) (map (member_at sheet_width s) (numbers 0 count))
          → NarrowRows table count
          → UnionRead p s arity table 0 count
      unfolding union_as_read
      union_read table read narrow = record {
        sheet =
            sheet_read (pick (refuses6 p sheet_width arity s) 6 0) (union_as_read p sheet_width s) (union_in table) most_members 0 count
            refl (rw (not-true (refuses6 p sheet_width arity s) (sym e ∙ t)))
            (read ∙ ap (λ n. map (member_as_read p) (map (member_at sheet_width s) (numbers 0 n))) d) (d ∙ union_length p s) sound_few;
        some = λ zero. sound_some;
        narrow = narrow;
      }

pub ruleset laws = (
  rules,
  first_begins,
  no_rows,
  rows_more,
  rows_read,
  rows_narrow,
  end_begins,
  question_there,
  question_within,
  step_within,
  step_fits,
  begins_within,
  union_refused,
  sound_long,
  sound_short,
  sound_few,
  sound_readable,
  union_read,
)
