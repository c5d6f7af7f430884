use Rattle.read_records.proofs.PartnerLaws.{laws}
use Rattle.read_records.proofs.partners.is_higher.Goals as goal

pub returns : goal.returns
returns c = search laws
