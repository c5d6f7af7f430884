use lib.ListN.{length, get_or}
use Rattle.words.specs.Words.{query_of, word_name}
use Rattle.check_chains.specs.Chains.{place_of, after}
use Rattle.check_distinct.specs.Union.{union_of}
use Rattle.check_closed.proofs.RuleTables.{Passed}
use Rattle.check_closed.proofs.rules_lead_outside.Given as goal

abbrev pub invariant-loop-at : goal.invariant-loop-at
invariant-loop-at l =
    Passed l.rules.index l.rules.words.now (length l.rules.words.now) (union_of l.members) (query_of l.q) l.i
    (place_of (word_name (get_or l.q.atoms l.i 0))) (after l.at)

abbrev pub decreases-loop-at : goal.decreases-loop-at
decreases-loop-at l = after l.at
