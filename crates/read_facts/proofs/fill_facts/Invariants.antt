use Rattle.read_facts.proofs.FactLaws.{Filling}
use Rattle.read_facts.proofs.fill_facts.Given as goal

abbrev pub invariant-loop-i : goal.invariant-loop-i
invariant-loop-i l = Filling l.partners l.s l.initial.table l.table l.i
