use mathlib.Core.Path.{◌≡◌}
use lib.ListN.{length}
use Rattle.theory.specs.Laws.Scans.{some_from}
use Rattle.check_closed.specs.Rules.{rules_of}
use Rattle.check_closed.proofs.ClosureLaws.{member_out}
use Rattle.check_closed.proofs.some_lead_outside.Given as goal

abbrev pub invariant-loop-m : goal.invariant-loop-m
invariant-loop-m l =
    some_from (member_out (rules_of l.rules) l.members.table.now (length l.members.keys.words.now)) l.m
    (length l.members.keys.words.now)
    ≡ some_from (member_out (rules_of l.rules) l.members.table.now (length l.members.keys.words.now)) 0
    (length l.members.keys.words.now)
