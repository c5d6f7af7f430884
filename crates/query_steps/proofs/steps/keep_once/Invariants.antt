use mathlib.Core.Path.{◌≡◌}
use Prim.Native.Nat.{◌≤◌}
use Rattle.words.specs.Words.{query_of}
use Rattle.query_steps.specs.StepResults.{once_each}
use Rattle.query_steps.proofs.StepLaws.{cut}
use Rattle.query_steps.proofs.steps.keep_once.Given as goal

abbrev pub invariant-loop-i : goal.invariant-loop-i
invariant-loop-i l =
    (l.kept.size ≤ l.i) × (l.kept.terms ≡ l.initial.kept.terms) × (l.kept.answers ≡ l.initial.kept.answers)
    × (query_of l.kept ≡ once_each (query_of (cut l.initial.kept l.i)))
