-- `write_union` writes for what it read what it would write for the whole files.
use Rattle.std.specs.Prelude.{◌≡◌, ℕ, List}
use Rattle.std.proofs.Math.Path.{ap}
use Rattle.std.proofs.Common.{ap₂, ◌∙◌}
use Rattle.std.proofs.Math.ListN.{take}
use Rattle.promises.specs.Output.{sheet_room, error_line, output_for, error_for}
use Rattle.promises.specs.Writing.{WriteOutcome}
use Rattle.promises.specs.Laws.Cut.{cut_to}
use Rattle.promises.proofs.Laws.Output.{write_cut_same}
use Rattle.program_files.specs.Files.{rules_limit, question_limit, TwoFilled, OutputOf}
use Rattle.program_files.specs.FileCuts.{read_first}

module _ (rules question : List ℕ) where
  -- one byte beyond each limit is enough
  output_enough : output_for (cut_to rules_limit rules) (cut_to question_limit question) ≡ output_for rules question
  unfolding output_for
  output_enough = ap (λ (o : WriteOutcome). take o.size o.sheet) (write_cut_same sheet_room rules question)

  error_enough : error_for (cut_to rules_limit rules) (cut_to question_limit question) ≡ error_for rules question
  unfolding error_for
  error_enough = ap (λ (o : WriteOutcome). error_line o.number) (write_cut_same sheet_room rules question)

-- what is written for what was read is what is written for the files
pub two_files : (rules question output error : List ℕ) (r q : ℕ) → TwoFilled rules r question q
    → output ≡ output_for (take r rules) (take q question) → error ≡ error_for (take r rules) (take q question)
    → OutputOf rules r question q output error
two_files rules question output error r q h e f = record {
  sheets_output = e;
  sheets_error = f;
  files = λ rules' question' hr hq.
      (let a = read_first rules_limit rules' rules r h.rooms.of_rules h.of_rules.0 hr in
      let b = read_first question_limit question' question q h.rooms.of_question h.of_question.0 hq in
      (e ∙ ap₂ output_for a b ∙ output_enough rules' question', f ∙ ap₂ error_for a b ∙ error_enough rules' question'));
}
