use Rattle.explain_steps.proofs.FillLaws.{fill_laws}
use Rattle.explain_steps.proofs.fill_back.Goals as goal

pub loop-next-init : goal.loop-next-init
loop-next-init c = search fill_laws

pub loop-next-smaller : goal.loop-next-smaller
loop-next-smaller c = search fill_laws

pub loop-next-preserved : goal.loop-next-preserved
loop-next-preserved c = search fill_laws

pub returns : goal.returns
returns c = let zeros = c.fill.ensures.after (λ y e. e) in search fill_laws
