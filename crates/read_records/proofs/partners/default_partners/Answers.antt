use Rattle.read_records.proofs.PartnerLaws.{laws}
use Rattle.read_records.proofs.partners.default_partners.Goals as goal

pub returns : goal.returns
returns c = search laws
