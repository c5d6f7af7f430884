use mathlib.Core.Path.{◌≡◌}
use mathlib.Core.List.{flat_map}
use lib.ListN.{length}
use Rattle.theory.specs.Lists.{numbers}
use Rattle.theory.specs.Writing.{by_rule, appended_all}
use Rattle.words.specs.Words.{query_of, rules_in, union_in}
use Rattle.write_members.proofs.LoopLaws.{AtomsLeft}
use Rattle.write_members.proofs.append_by_atoms.Given as goal

abbrev pub invariant-loop-i : goal.invariant-loop-i
invariant-loop-i l =
    (length l.table ≡ length l.initial.table) × (length l.keys ≡ length l.initial.keys)
    × AtomsLeft (rules_in l.rules (length l.rules)) (length l.rules) l.parent (query_of l.q) l.q.size
    (appended_all (union_in l.initial.table l.n)
    (flat_map (λ i. flat_map (by_rule (rules_in l.rules (length l.rules)) l.parent (query_of l.q) i) (numbers 0 (length l.rules)))
    (numbers 0 l.q.size)))
    l.i l.table l.keys l.members
