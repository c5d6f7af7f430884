use mathlib.Core.Path.{◌≡◌}
use Prim.Native.Nat.{ℕ, ◌≤◌, ◌<◌}
use lib.ListN.{get_or}
use Rattle.check_chains.specs.Chains.{place_of}
use Rattle.check_chains.proofs.last_before.Given as goal

-- those from number j on stand elsewhere
abbrev pub invariant-loop-j : goal.invariant-loop-j
invariant-loop-j l = (l.j ≤ l.end) × ((i : ℕ) → l.j ≤ i → i < l.end → place_of (get_or l.words i 0) ≡ l.at → ⊥)
