use mathlib.Core.Path.{◌≡◌}
use lib.ListN.{length, drop}
use Rattle.theory.specs.Lists.{any}
use Rattle.theory.specs.Renaming.{alike}
use Rattle.theory.specs.Laws.Scans.{some_from}
use Rattle.words.specs.Words.{query_of}
use Rattle.check_chains.specs.Chains.{place_of, after}
use Rattle.check_chains.specs.WalkLaws.{Walked}
use Rattle.check_distinct.specs.Union.{union_of}
use Rattle.check_distinct.proofs.KeyLaws.{alike_at}
use Rattle.check_distinct.proofs.alike_from.Given as goal

abbrev pub invariant-loop-at : goal.invariant-loop-at
invariant-loop-at l =
    Walked (alike_at (query_of l.q) l.members.table.now) l.members.keys.words.now (place_of l.wanted) (length l.members.keys.words.now)
    (after l.at)
    × (some_from (alike_at (query_of l.q) l.members.table.now) l.from (length l.members.keys.words.now)
    ≡ any (λ m. alike (query_of l.q) m.query) (drop l.from (union_of l.members)))

abbrev pub decreases-loop-at : goal.decreases-loop-at
decreases-loop-at l = after l.at
