use Rattle.report.proofs.ReportLaws.{laws}
use Rattle.report.proofs.Text.push_first.Goals as goal

pub push_decimal-requires : goal.push_decimal-requires
push_decimal-requires c = search laws

pub push_byte-requires : goal.push_byte-requires
push_byte-requires c = search laws

pub returns-clause-put : goal.returns-clause-put
returns-clause-put c = search laws

pub returns-clause-short : goal.returns-clause-short
returns-clause-short c = search laws
