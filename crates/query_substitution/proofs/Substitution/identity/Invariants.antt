use Rattle.std.proofs.Common.{◌≡◌, length}
use Rattle.theory.specs.Syntax.{var}
use Rattle.query_substitution.specs.Substitutions.{SmallTargets, subst_of}
use Rattle.query_substitution.proofs.SubstitutionLaws.{up_to}
use Rattle.query_substitution.proofs.Substitution.identity.Given as goal

abbrev pub invariant-loop-i : goal.invariant-loop-i
invariant-loop-i l =
    (length l.to ≡ 32) × SmallTargets (record { to = l.to })
    × (subst_of (record { to = l.to }) ≡ up_to l.i var (subst_of (record { to = l.initial.to })))
