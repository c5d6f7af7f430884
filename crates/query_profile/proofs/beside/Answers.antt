use Rattle.query_profile.specs.Gathered.{stands_in}
use Rattle.query_profile.proofs.ProfileLaws.{laws}
use Rattle.query_profile.proofs.beside.Goals as goal

pub returns : goal.returns
returns c = c.gathered.ensures (stands_in c.args.v) (λ a b fits answers. search laws)
