use Rattle.check_chains.specs.Chains.{after}
use Rattle.check_rules.proofs.found.Given as goal

abbrev pub decreases-loop-at : goal.decreases-loop-at
decreases-loop-at l = after l.at
