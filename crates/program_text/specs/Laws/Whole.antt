-- The program prints for what it read what it would print for the whole files.
use Rattle.std.specs.Prelude.{◌≡◌, ℕ, suc, ◌/◌, List, take}
use Rattle.std.proofs.Common.{ap, ap₂, ◌∙◌, arith, get_or-take}
use Rattle.promises.specs.Drawing.{Outcome}
use Rattle.promises.specs.Report.{report}
use Rattle.promises.specs.Text.{list_room, text_for}
use Rattle.promises.specs.Laws.Cut.{cut_to}
use Rattle.promises.proofs.Laws.Cut.{cut_same}
use Rattle.program_files.specs.Files.{rules_limit, question_limit, union_limit, facts_limit, Filled, TextOf}
use Rattle.program_files.specs.FileCuts.{read_first}

-- one byte beyond each limit is enough
pub read_enough : (rules question union facts : List ℕ)
    → text_for (cut_to rules_limit rules) (cut_to question_limit question) (cut_to union_limit union) (cut_to facts_limit facts)
    ≡ text_for rules question union facts
unfolding text_for
read_enough rules question union facts =
    ap₂ (λ (o : Outcome) (n : ℕ). report o.number o.count n o.list) (cut_same list_room rules question union facts)
    (ap (λ n. n / 16) (get_or-take (suc question_limit) question 0 0 (omega arith)))

-- the text of what was read is that of the files
pub whole_files : (rules question union facts text : List ℕ) (r q u f : ℕ) → Filled rules r question q union u facts f
    → text ≡ text_for (take r rules) (take q question) (take u union) (take f facts) → TextOf rules r question q union u facts f text
whole_files rules question union facts text r q u f h e = record {
  sheets = e;
  files = λ rules' question' union' facts' hr hq hu hf.
      e
      ∙ ap₂ (λ x y. text_for x y (take u union) (take f facts))
      (read_first rules_limit rules' rules r h.rooms.of_rules h.of_rules.0 hr)
      (read_first question_limit question' question q h.rooms.of_question h.of_question.0 hq)
      ∙ ap₂ (λ x y. text_for (cut_to rules_limit rules') (cut_to question_limit question') x y)
      (read_first union_limit union' union u h.rooms.of_union h.of_union.0 hu)
      (read_first facts_limit facts' facts f h.rooms.of_facts h.of_facts.0 hf)
      ∙ read_enough rules' question' union' facts';
}
