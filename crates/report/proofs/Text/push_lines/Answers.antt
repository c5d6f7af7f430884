use Rattle.report.proofs.ReportLaws.{laws}
use Rattle.report.proofs.Text.push_lines.Goals as goal

pub loop-answer-preserved : goal.loop-answer-preserved
loop-answer-preserved c = record { read = search laws; room = search laws; left = search laws; same = search laws }

pub returns-clause-put : goal.returns-clause-put
returns-clause-put c = search laws
