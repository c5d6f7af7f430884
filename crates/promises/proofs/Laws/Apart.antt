-- Where no refusal of drawing's list applies, the helpers in use differ, and none of them stands as a role in rules, question or facts (02,
-- T-04): what the agreement of the readers over rules as written asks.
use Rattle.std.proofs.Common.{sym, ◌∙◌}
use Rattle.std.proofs.Math.Option.{none}
use Rattle.std.specs.Prelude.{ℕ, List, [], ◌∷◌, T}
use Rattle.theory.specs.Refusals.{first_refusal}
use Rattle.theory.specs.Qualified.{refuses18}
use Rattle.theory.proofs.Laws.QualifiedPlaces.{few_helpers_distinct}
use Rattle.theory.proofs.Laws.Qualified.{Apart}
use Rattle.words.specs.Limits.{sheet_width}
use Rattle.sheets.specs.Partners.{partners01}
use Rattle.sheets.specs.Reading.{rules_as_read}
use Rattle.sheets.specs.Refusals.{Sheets, rule_roles, question_roles, fact_roles, rule_refusals, fact_refusals}
use Rattle.sheets.proofs.Laws.OneList.{or_else_none, two_none, fact_clash, checked, unclashed_none, no_clash, rules_and_facts_lem}
use Rattle.sheets.proofs.Laws.RulesInRange.{rules_unrefused, rules_read_few}
use Rattle.promises.specs.TheSheets.{the_written_rules, the_question, the_facts, SoundFacts}
use Rattle.promises.specs.Checking.{sheets_of, AcceptedFor}

module _ (rules question union facts : List ℕ) (accepted : AcceptedFor rules question union) (sound : SoundFacts rules facts) where
  abbrev three : Sheets
  three = sheets_of rules question union

  abbrev two : Sheets
  two = record { rules = rules; question = []; union = []; facts = facts }

  -- no clash of rules and question
  no_clashes : (¬ T (refuses18 (the_written_rules rules) (rule_roles partners01 sheet_width three)))
      × (¬ T (refuses18 (the_written_rules rules) (question_roles partners01 sheet_width three)))
  no_clashes = (two_none 18 18 _ _).0 ((checked partners01 sheet_width three).0 accepted).1

  -- no clash of rules and facts
  no_fact_clash : ¬ T (refuses18 (the_written_rules rules) (fact_roles partners01 sheet_width two))
  no_fact_clash =
      let R = first_refusal (rule_refusals partners01 sheet_width rules) in
      let F = first_refusal (fact_refusals sheet_width facts) in
      let K = first_refusal ((
        18,
        refuses18 (the_written_rules rules)
            (rule_roles partners01 sheet_width two),
      ) ∷ fact_clash partners01 sheet_width two) in
      let later = ((or_else_none R _).0 (sym (rules_and_facts_lem partners01 sheet_width two) ∙ sound)).1 in
      ((two_none 18 18 _ _).0 ((or_else_none F K).0 later).1).1

  pub sheets_apart : Apart (the_written_rules rules) (the_question question) (the_facts facts)
  unfolding rules_as_read
  sheets_apart =
      let read = ((unclashed_none partners01 sheet_width three).0 ((checked partners01 sheet_width three).0 accepted).0).0 in
      let few = rules_read_few partners01 sheet_width rules (rules_unrefused partners01 sheet_width rules read).2 in
      record {
        helpers_differ = few_helpers_distinct (the_written_rules rules) few;
        clean_rules = no_clash partners01 sheet_width three (rule_roles partners01 sheet_width three) no_clashes.0;
        clean_question = no_clash partners01 sheet_width three (question_roles partners01 sheet_width three) no_clashes.1;
        clean_facts = no_clash partners01 sheet_width two (fact_roles partners01 sheet_width two) no_fact_clash;
      }
