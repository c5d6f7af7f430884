use mathlib.Core.Path.{◌≡◌}
use mathlib.Core.List.{map}
use lib.ListN.{length, take}
use Rattle.theory.specs.Syntax.{subst_term}
use Rattle.words.specs.Words.{TermWords, word_term}
use Rattle.query_substitution.specs.Substitutions.{subst_of}
use Rattle.query_steps.proofs.steps.apply_answers.Given as goal

abbrev pub invariant-loop-i : goal.invariant-loop-i
invariant-loop-i l =
    (length l.words ≡ 4) × TermWords l.words
    × (map word_term (take l.i l.words) ≡ map (subst_term (subst_of l.s)) (map word_term (take l.i l.q.answers)))
