use mathlib.Core.Path.{◌≡◌}
use lib.ListN.{length}
use Rattle.check_rules.specs.SameWords.{SameWords}
use Rattle.check_rules.proofs.distinct.Given as goal

abbrev pub invariant-loop-k : goal.invariant-loop-k
invariant-loop-k l = (length l.words ≡ length l.initial.words) × (length l.chains ≡ 1024) × SameWords l.rules l.k l.words l.m
