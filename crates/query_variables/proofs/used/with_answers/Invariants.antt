use Rattle.query_variables.specs.UsedVariables.{AddsVariables}
use Rattle.query_variables.proofs.UsedLaws.{first_answers}
use Rattle.query_variables.proofs.used.with_answers.Given as goal

abbrev pub invariant-loop-i : goal.invariant-loop-i
invariant-loop-i l = AddsVariables (first_answers l.i l.q.answers) l.set l.all
