use Rattle.query_variables.specs.UsedVariables.{AddsVariables}
use Rattle.query_variables.proofs.UsedLaws.{first_places}
use Rattle.query_variables.proofs.used.with_atoms.Given as goal

abbrev pub invariant-loop-k : goal.invariant-loop-k
invariant-loop-k l = AddsVariables (first_places l.k l.q.atoms) l.set l.all
