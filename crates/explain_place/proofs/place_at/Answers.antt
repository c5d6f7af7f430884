-- Each field is the one that the definition says.
use Rattle.explain_place.proofs.FieldLaws.{laws}
use Rattle.explain_place.proofs.place_at.Goals as goal

pub returns : goal.returns
returns c = search laws
