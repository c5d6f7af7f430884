use mathlib.Core.Path.{◌≡◌}
use Rattle.theory.specs.Lists.{any, numbers}
use Rattle.theory.specs.Laws.Scans.{some_from}
use Rattle.words.specs.Words.{query_of}
use Rattle.check_distinct.specs.Union.{union_of}
use Rattle.check_closed.specs.Outside.{merge_out}
use Rattle.check_closed.proofs.merges_lead_outside.Given as goal

abbrev pub invariant-loop-j : goal.invariant-loop-j
invariant-loop-j l =
    some_from (merge_out (union_of l.members) (query_of l.q) l.i) l.j l.q.size
    ≡ any (merge_out (union_of l.members) (query_of l.q) l.i) (numbers 0 l.q.size)
