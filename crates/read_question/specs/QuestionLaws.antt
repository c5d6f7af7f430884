-- A question that was read, and not refused, is small and has no atom twice.
use Rattle.std.specs.Prelude.{◌≡◌, ℕ, List}
use Rattle.std.proofs.Common.{sym, ◌∙◌}
use Rattle.std.proofs.Math.Path.{subst}
use Rattle.std.proofs.Math.Option.{none}
use Rattle.theory.specs.Lists.{◌∈◌, Unrepeated, all}
use Rattle.theory.specs.Refusals.{first_refusal}
use Rattle.theory.specs.Syntax.{var, Query, terms}
use Rattle.words.specs.Limits.{sheet_width}
use Rattle.words.specs.Words.{query_of, Small}
use Rattle.words.specs.declared.QueryWords.{QueryWords}
use Rattle.sheets.specs.Reading.{question_as_read}
use Rattle.sheets.specs.Refusals.{question_refusals}
use Rattle.sheets.proofs.Laws.QuestionRefusals.{not3_iff, not5_unrepeated, variables_in_range}
use Rattle.sheets.proofs.Laws.OneList.{first_positive}
use Rattle.sheets.proofs.Laws.StepsInRange.{question_unrefused}
use Rattle.read_question.specs.QuestionWords.{QuestionRead}

module _ (p s : List ℕ) (q : QueryWords) (number : ℕ) (asked : QuestionRead p s number q) (zero : number ≡ 0) where
  pub question_passed : first_refusal (question_refusals p sheet_width s) ≡ none
  unfolding question_refusals all
  question_passed = (first_positive (question_refusals p sheet_width s) tt).0 (sym asked.number_is ∙ zero)

  pub question_small : Small q
  question_small =
      let read = asked.query zero in
      let sound = ((not3_iff sheet_width s).0 (question_unrefused p sheet_width s question_passed).0).0 in
      record {
        few_terms = read.few_terms;
        few_atoms = read.few_atoms;
        answer_words = read.answer_words;
        variables = λ v m. variables_in_range sheet_width s 0 sound p v (subst (λ r. var v ∈ terms r) read.query_is m);
      }

  pub question_distinct : Unrepeated (query_of q).atoms
  unfolding question_as_read
  question_distinct =
      subst (λ (r : Query). Unrepeated r.atoms) (sym (asked.query zero).query_is)
      (not5_unrepeated (question_as_read p sheet_width s) (question_unrefused p sheet_width s question_passed).2)
