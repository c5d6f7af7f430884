use mathlib.Core.Path.{◌≡◌}
use Prim.Native.Nat.{◌-◌, ◌≤◌}
use lib.ListN.{length}
use Rattle.words.specs.Limits.{most_members}
use Rattle.words.specs.Words.{rules_in}
use Rattle.words.specs.Rows.{member_in}
use Rattle.write_members.proofs.TakeLaws.{MembersTaken}
use Rattle.write_members.proofs.take_members.Given as goal

abbrev pub invariant-loop-k : goal.invariant-loop-k
invariant-loop-k l =
    (l.members ≤ most_members) × (length l.table ≡ length l.initial.table) × (length l.keys ≡ length l.initial.keys)
    × MembersTaken (rules_in l.rules (length l.rules)) (member_in l.initial.table 0).query l.k l.table l.keys l.members

abbrev pub decreases-loop-k : goal.decreases-loop-k
decreases-loop-k l = most_members - l.k
