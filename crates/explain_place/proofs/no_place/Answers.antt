-- The struct made is the one that the definition says.
use mathlib.Core.Path.{refl}
use Rattle.explain_place.specs.Places.{no_place}
use Rattle.explain_place.proofs.no_place.Goals as goal

pub returns : goal.returns
unfolding no_place
returns c = refl
