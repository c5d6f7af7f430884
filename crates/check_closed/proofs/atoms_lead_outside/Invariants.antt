use mathlib.Core.Path.{◌≡◌}
use lib.ListN.{length}
use Rattle.theory.specs.Lists.{any, numbers}
use Rattle.theory.specs.Laws.Scans.{some_from}
use Rattle.words.specs.Words.{query_of}
use Rattle.check_distinct.specs.Union.{union_of}
use Rattle.check_closed.specs.Outside.{rules_out}
use Rattle.check_closed.specs.Rules.{rules_of}
use Rattle.check_closed.proofs.atoms_lead_outside.Given as goal

abbrev pub invariant-loop-i : goal.invariant-loop-i
invariant-loop-i l =
    some_from (rules_out (union_of l.members) (query_of l.q) (rules_of l.rules) (length l.rules.words.now)) l.i l.q.size
    ≡ any (rules_out (union_of l.members) (query_of l.q) (rules_of l.rules) (length l.rules.words.now)) (numbers 0 l.q.size)
