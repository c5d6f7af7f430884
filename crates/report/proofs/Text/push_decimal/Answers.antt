use Rattle.report.proofs.ReportLaws.{laws}
use Rattle.report.proofs.Text.push_decimal.Goals as goal

pub push-requires : goal.push-requires
push-requires c = search laws

pub returns-clause-put : goal.returns-clause-put
returns-clause-put c = search laws
