use mathlib.Core.Path.{◌≡◌}
use lib.ListN.{length}
use Rattle.check_chains.specs.Chains.{Chains}
use Rattle.check_chains.proofs.chain.Given as goal

abbrev pub invariant-loop-j : goal.invariant-loop-j
invariant-loop-j l = (length l.index ≡ 1024) × Chains l.words l.j l.index
