use Rattle.explain_steps.proofs.StepsLaws.{place_laws}
use Rattle.explain_steps.proofs.place_of.Goals as goal

pub returns : goal.returns
returns c = search (place_laws, c.yielded.ensures.step)

pub unwrap-made-requires : goal.unwrap-made-requires
unwrap-made-requires c = search (place_laws, c.yielded.ensures.step)
