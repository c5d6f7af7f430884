use native.Mathlib.Omega.{arith}
use Rattle.check_chains.specs.WalkLaws.{walk_at, walk_found}
use Rattle.check_distinct.proofs.KeyLaws.{chain_laws}
use Rattle.check_distinct.proofs.alike_from.Goals as goal

pub loop-at-init : goal.loop-at-init
loop-at-init c = search chain_laws

pub returns-then-j-from : goal.returns-then-j-from
returns-then-j-from c = search chain_laws

pub returns-then-alike_at : goal.returns-then-alike_at
returns-then-alike_at c =
    walk_found _ _ _ _ _ _ c.loop-at.invariant.1 c.in-Some.j (walk_at _ _ _ _ _ c.loop-at.invariant.0 _ c.in-Some.is) _ (omega arith)
    c.alike_at.ensures c.if-alike_at.true

pub returns : goal.returns
returns c = search chain_laws
