use Rattle.report.proofs.ReportLaws.{laws}
use Rattle.report.proofs.Text.push_line.Goals as goal

pub loop-k-preserved : goal.loop-k-preserved
loop-k-preserved c = record { room = search laws; left = search laws; same = search laws }

pub returns-clause-put : goal.returns-clause-put
returns-clause-put c = search laws
