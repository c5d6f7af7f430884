use Rattle.query_profile.proofs.ProfileLaws.{laws}
use Rattle.query_profile.proofs.beside_alike.Goals as goal

pub returns : goal.returns
returns c = search laws
