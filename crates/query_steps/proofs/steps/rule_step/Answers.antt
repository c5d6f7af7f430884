use borrow.Author.Rules.{rules}
use Rattle.query_steps.proofs.StepLaws.{rule_laws, made_low}
use Rattle.query_steps.proofs.steps.rule_step.Goals as goal

pub returns-then-q-i-clause-step : goal.returns-then-q-i-clause-step
returns-then-q-i-clause-step c = search rule_laws

pub change_atom-requires : goal.change_atom-requires
change_atom-requires c = (
  search rules,
  search rules,
  made_low c.args.q c.args.i c.in_ok-made.made (search rules) (search rules) (search rules) c.in_ok-made.ensures.low,
)

pub returns-in_err-made-clause-step : goal.returns-in_err-made-clause-step
returns-in_err-made-clause-step c = search rule_laws

pub returns-clause-step : goal.returns-clause-step
returns-clause-step c = search rule_laws
