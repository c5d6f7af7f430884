-- A refusal is one line; what is accepted has the line of its count and then the lines of its answers.
use Rattle.report.proofs.ReportLaws.{laws}
use Rattle.report.proofs.put_report.Goals as goal

pub returns-then-number-ne0-clause-text : goal.returns-then-number-ne0-clause-text
returns-then-number-ne0-clause-text c = search laws

pub returns-clause-text : goal.returns-clause-text
returns-clause-text c = search laws
