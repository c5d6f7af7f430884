use Rattle.query_profile.proofs.ProfileLaws.{laws}
use Rattle.query_profile.proofs.spread_alike.Goals as goal

pub returns-then-spread : goal.returns-then-spread
returns-then-spread c = search laws
