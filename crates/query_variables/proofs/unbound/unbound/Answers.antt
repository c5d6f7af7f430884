use Rattle.query_variables.proofs.UnboundLaws.{laws}
use Rattle.query_variables.proofs.unbound.unbound.Goals as goal
use Rattle.query_variables.proofs.unbound.unbound.Goals.{then-is_variable, else-is_variable}

pub returns-then-not-in_answers : goal.returns-then-not-in_answers
returns-then-not-in_answers c = elim c.if-is_variable.branch [ then-is_variable w ↦ search laws | else-is_variable w ↦ cc ]

pub returns-else-not-in_answers : goal.returns-else-not-in_answers
returns-else-not-in_answers c = elim c.if-is_variable.branch [ then-is_variable w ↦ search laws | else-is_variable w ↦ search laws ]
