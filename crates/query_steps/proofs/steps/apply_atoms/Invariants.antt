use mathlib.Core.Path.{◌≡◌}
use mathlib.Core.List.{map}
use lib.ListN.{length, take}
use Rattle.theory.specs.Syntax.{map_atom, subst_term}
use Rattle.words.specs.Words.{word_atom}
use Rattle.query_substitution.specs.Substitutions.{subst_of}
use Rattle.query_steps.proofs.steps.apply_atoms.Given as goal

abbrev pub invariant-loop-i : goal.invariant-loop-i
invariant-loop-i l =
    (length l.words ≡ 8)
    × (map word_atom (take l.i l.words) ≡ map (map_atom (subst_term (subst_of l.s))) (map word_atom (take l.i l.q.atoms)))
