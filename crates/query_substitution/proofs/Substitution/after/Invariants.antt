use Rattle.std.proofs.Common.{◌≡◌, length}
use Rattle.theory.specs.Rewriting.{after}
use Rattle.words.specs.Words.{word_term}
use Rattle.query_substitution.specs.Substitutions.{SmallTargets, subst_of}
use Rattle.query_substitution.proofs.SubstitutionLaws.{up_to}
use Rattle.query_substitution.proofs.Substitution.after.Given as goal

abbrev pub invariant-loop-i : goal.invariant-loop-i
invariant-loop-i l =
    (length l.self.to ≡ 32) × SmallTargets l.self
    × (subst_of l.self ≡ up_to l.i (after (subst_of l.initial.self) l.v (word_term l.t)) (subst_of l.initial.self))
