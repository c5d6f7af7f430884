use mathlib.Core.Path.{◌≡◌}
use mathlib.Core.List.{flat_map}
use lib.ListN.{length}
use Rattle.theory.specs.Lists.{numbers}
use Rattle.theory.specs.Writing.{by_merge, appended_all}
use Rattle.words.specs.Words.{query_of, union_in}
use Rattle.write_members.proofs.LoopLaws.{LaterLeft}
use Rattle.write_members.proofs.append_merged.Given as goal

abbrev pub invariant-loop-j : goal.invariant-loop-j
invariant-loop-j l =
    (length l.table ≡ length l.initial.table) × (length l.keys ≡ length l.initial.keys)
    × LaterLeft l.parent l.q l.i l.q.size
    (appended_all (union_in l.initial.table l.n)
    (flat_map (by_merge l.parent (query_of l.q) l.i) (numbers 0 l.q.size))) l.j l.table l.keys l.members
