use mathlib.Core.Path.{◌≡◌}
use mathlib.Core.List.{flat_map}
use lib.ListN.{length}
use Rattle.theory.specs.Lists.{numbers}
use Rattle.theory.specs.Writing.{by_rule, appended_all}
use Rattle.words.specs.Words.{query_of, rules_in, union_in}
use Rattle.write_members.proofs.LoopLaws.{RulesLeft}
use Rattle.write_members.proofs.append_by_rules.Given as goal

abbrev pub invariant-loop-k : goal.invariant-loop-k
invariant-loop-k l =
    (length l.table ≡ length l.initial.table) × (length l.keys ≡ length l.initial.keys)
    × RulesLeft (rules_in l.rules (length l.rules)) (length l.rules) l.parent (query_of l.q) l.i
    (appended_all (union_in l.initial.table l.n)
    (flat_map (by_rule (rules_in l.rules (length l.rules)) l.parent (query_of l.q) l.i) (numbers 0 (length l.rules))))
    l.k l.table l.keys l.members
