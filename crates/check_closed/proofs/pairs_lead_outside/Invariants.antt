use mathlib.Core.Path.{◌≡◌}
use Rattle.theory.specs.Lists.{any, numbers}
use Rattle.theory.specs.Laws.Scans.{some_from}
use Rattle.words.specs.Words.{query_of}
use Rattle.check_distinct.specs.Union.{union_of}
use Rattle.check_closed.specs.Outside.{merges_out}
use Rattle.check_closed.proofs.pairs_lead_outside.Given as goal

abbrev pub invariant-loop-first : goal.invariant-loop-first
invariant-loop-first l =
    some_from (merges_out (union_of l.members) (query_of l.q) l.q.size) l.first l.q.size
    ≡ any (merges_out (union_of l.members) (query_of l.q) l.q.size) (numbers 0 l.q.size)
