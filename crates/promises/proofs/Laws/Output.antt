-- What `write_union` writes: the union or "refused N"; never 16; and one byte beyond a file's limit is enough to read.
use Rattle.std.specs.Prelude.{◌≡◌, ◌≢◌, ℕ, ◌≤◌, ◌<◌, Bool, ltb, length}
use Rattle.std.proofs.Math.Path.{refl, ap}
use Rattle.std.proofs.Common.{sym, ◌∙◌, arith, eq-eqb, ne_eqb}
use Rattle.std.proofs.Math.Bool.{cond}
use Rattle.std.proofs.Math.Option.{Option, none, some, or_else}
use mathlib.Core.List.{[], List}
use Rattle.std.proofs.Math.ListN.{take}
use Rattle.theory.specs.Lists.{guard}
use Rattle.theory.specs.Refusals.{first_refusal}
use Rattle.theory.specs.Syntax.{UCQ}
use Rattle.words.specs.Limits.{sheet_width, most_members, most_rule_bytes, most_question_bytes}
use Rattle.sheets.specs.Packing.{pack_union}
use Rattle.sheets.specs.Partners.{partners01}
use Rattle.sheets.specs.Refusals.{rule_refusals, question_refusals}
use Rattle.sheets.proofs.Laws.OneList.{clash_refusals, writing_first}
use Rattle.promises.specs.Report.{refused_text, first_line}
use Rattle.promises.specs.Writing.{WriteOutcome, write_outcome_by, two_sheets, the_written, union_bytes, write_outcome}
use Rattle.promises.specs.Output.{sheet_room, error_line, program_writes, output_for, error_for}
use Rattle.promises.proofs.Laws.WritePromises.{pledge, written_bytes, longest_union}
use Rattle.promises.specs.Laws.Cut.{cut_to}
use Rattle.promises.proofs.Laws.Cut.{long_rules, long_question, one_cut}

module _ (rules question : List ℕ) where
  -- a union: its bytes, and nothing on standard error
  pub union_output : (program_writes rules question).number ≡ 0
      → (output_for rules question ≡ pack_union sheet_width (the_written rules question)) × (error_for rules question ≡ [])
  unfolding output_for error_for error_line
  union_output zero = (
    written_bytes rules question sheet_room zero,
    ap (λ (b : Bool). cond b [] (first_line refused_text (program_writes rules question).number))
        (eq-eqb (program_writes rules question).number 0 zero),
  )

  -- a refusal: nothing, and its number on standard error
  pub refused_output : (program_writes rules question).number ≢ 0
      → (output_for rules question ≡ []) × (error_for rules question ≡ first_line refused_text (program_writes rules question).number)
  unfolding output_for error_for error_line
  refused_output h = (
    ap (λ n. take n (program_writes rules question).sheet) ((pledge rules question sheet_room).refused h).1,
    ap (λ (b : Bool). cond b [] (first_line refused_text (program_writes rules question).number))
        (ne_eqb (program_writes rules question).number 0 h),
  )

  -- the program's sheet is never too short
  pub never_sixteen : (program_writes rules question).number ≢ 16
  never_sixteen e =
      let w = (pledge rules question sheet_room).sixteen.0 e in
      let l : sheet_room < union_bytes rules question = w.2 in
      let m : union_bytes rules question ≤ sheet_room = longest_union rules question w.0 w.1 in
      omega arith

-- ---- what is read of each file

module _ (room : ℕ) where
  -- by what refuses the rules and the question, and what comes after
  abbrev by_three : Option ℕ → Option ℕ → Option ℕ → UCQ → WriteOutcome
  by_three r q clash union =
      write_outcome_by room union (or_else (or_else (or_else r (or_else q clash)) (guard (ltb most_members (length union)) 15))
      (guard (ltb room (length (pack_union sheet_width union))) 16))

  abbrev of_rules : List ℕ → Option ℕ
  of_rules r = first_refusal (rule_refusals partners01 sheet_width r)

  abbrev of_clash : List ℕ → List ℕ → Option ℕ
  of_clash r q = first_refusal (clash_refusals partners01 sheet_width (two_sheets r q))

  is_by_three : (r q : List ℕ) → write_outcome r q room
      ≡ by_three (of_rules r) (first_refusal (question_refusals partners01 sheet_width q)) (of_clash r q) (the_written r q)
  unfolding write_outcome
  is_by_three r q =
      ap (λ (o : Option ℕ). write_outcome_by room (the_written r q)
      (or_else (or_else o (guard (ltb most_members (length (the_written r q))) 15)) (guard (ltb room (union_bytes r q)) 16)))
      (writing_first partners01 sheet_width (two_sheets r q))

  over_rules : (r q : List ℕ) → most_rule_bytes < length r → write_outcome r q room ≡ write_outcome_by room [] (some 1)
  unfolding or_else
  over_rules r q h =
      is_by_three r q
      ∙ ap (λ (o : Option ℕ). by_three o (first_refusal (question_refusals partners01 sheet_width q)) (of_clash r q) (the_written r q))
      (long_rules r h)

  over_question : (r q : List ℕ) → most_question_bytes sheet_width < length q
      → write_outcome r q room ≡ write_outcome_by room [] (or_else (of_rules r) (some 3))
  unfolding or_else
  over_question r q h =
      is_by_three r q
      ∙ ap (λ (o : Option ℕ). by_three (of_rules r) o (of_clash r q) (the_written r q)) (long_question q h)
      ∙ stop (of_rules r)
    where
      stop : (o : Option ℕ) → by_three o (some 3) (of_clash r q) (the_written r q) ≡ write_outcome_by room [] (or_else o (some 3))
      stop none = refl
      stop (some n) = refl

  pub write_cut_same : (r q : List ℕ)
      → write_outcome (cut_to most_rule_bytes r) (cut_to (most_question_bytes sheet_width) q) room ≡ write_outcome r q room
  write_cut_same r q =
      let q' : List ℕ = cut_to (most_question_bytes sheet_width) q in
      one_cut most_rule_bytes r (λ s. write_outcome s q' room)
      (λ l' l. over_rules (cut_to most_rule_bytes r) q' l' ∙ sym (over_rules r q' l))
      ∙ one_cut (most_question_bytes sheet_width) q (λ s. write_outcome r s room)
      (λ l' l. over_question r q' l' ∙ sym (over_question r q l))
