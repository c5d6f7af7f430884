use Rattle.std.specs.Prelude.{Bool}
use Rattle.theory.specs.Syntax.{Term, Atom}
use Rattle.query_partial.specs.Partial.{Decides}
use Rattle.query_profile.proofs.ProfileLaws.{Gathering}
use Rattle.query_profile.proofs.gathered.Given as goal

abbrev pub invariant-loop-i : goal.invariant-loop-i
invariant-loop-i g l =
    (passes : Atom Term → Bool) → Decides passes (goal.F-post g l.test) → Gathering passes l.q.size l.q.atoms l.set l.i
