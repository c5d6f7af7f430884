-- What a call wrote is what goes out.
use mathlib.Core.Path.{◌≡◌, sym, ap, ap₂, ◌∙◌}
use Prim.Native.Nat.{ℕ, ◌≤◌}
use mathlib.Core.Bool.{Bool, cond}
use mathlib.Core.List.{[], List}
use lib.ListN.{length, take}
use lib.Seq.{length-take-le}
use borrow.Author.Rules.{rules}
use borrow.Author.Tests.{eq-eqb, ne_eqb}
use Rattle.words.specs.Refusals.{code}
use Rattle.words.specs.declared.refusals.Refusal.{Refusal}
use Rattle.answer_draw.specs.EntryLaws.{numbered}
use Rattle.promises.specs.Report.{refused_text, first_line, report}
use Rattle.promises.specs.Output.{sheet_room, error_line, output_for, error_for}
use Rattle.promises.specs.Writing.{UnionWritten, write_outcome}
use Rattle.promises.proofs.Laws.Printing.{refused_report}
use Rattle.promises.proofs.Laws.WritePromises.{size_within}
use Rattle.promises.specs.Counts.{IsPrefixLen}
use Rattle.program_union.specs.Laws.TwoFiles.{two_files}

-- ---- the line

pub no_line : (text : List ℕ) (number : ℕ) → number ≡ 0 → take 0 text ≡ error_line number
unfolding error_line
no_line text number e = sym (ap (λ (b : Bool). cond b [] (first_line refused_text number)) (eq-eqb number 0 e))

pub line_put : (text : List ℕ) (refusal : Refusal) (terms r : ℕ) (list : List ℕ)
    → take r text ≡ report (code refusal) 0 terms list → take r text ≡ error_line (code refusal)
unfolding error_line
line_put text refusal terms r list e =
    e ∙ refused_report (code refusal) 0 terms list (numbered refusal)
    ∙ sym (ap (λ (b : Bool). cond b [] (first_line refused_text (code refusal))) (ne_eqb (code refusal) 0 (numbered refusal)))

-- ---- the union

module _ (rules question : List ℕ) (room number count size : ℕ) (sheet : List ℕ) (is-room : room ≡ sheet_room)
    (written : UnionWritten rules question room number count size sheet) where
  pub union_out : take size sheet ≡ output_for rules question
  unfolding output_for
  union_out =
      ap₂ take written.size_is written.sheet_is
      ∙ ap (λ n. take (write_outcome rules question n).size (write_outcome rules question n).sheet) is-room

  pub union_within : IsPrefixLen size sheet
  union_within =
      let l : size ≤ length sheet = size_within rules question room number count size sheet written in
      (l, sym (length-take-le size sheet l))

  pub line_out : (line : List ℕ) → line ≡ error_line number → line ≡ error_for rules question
  unfolding error_for
  line_out line e = e ∙ ap error_line (written.number_is ∙ ap (λ n. (write_outcome rules question n).number) is-room)

pub ruleset laws = (rules, no_line, line_put, union_out, union_within, line_out, two_files)
