use Prim.Native.Nat.{◌+◌, ◌*◌, ◌-◌, ◌≤◌}
use mathlib.Core.Path.{◌≡◌}
use lib.ListN.{length}
use Rattle.promises.specs.Report.{lines_at}
use Rattle.report.proofs.ReportLaws.{Left}
use Rattle.report.proofs.Text.push_lines.Given as goal

-- what is left of the lines would complete the text, and there is room for it
abbrev pub invariant-loop-answer : goal.invariant-loop-answer
invariant-loop-answer l = record {
  read : l.from + 2 * l.terms * (l.count - l.answer) ≤ length l.list;
  room : l.self.end + 6 * l.terms * (l.count - l.answer) ≤ length l.initial.self.out.now;
  left : Left l.initial.self.out.now l.initial.self.end (lines_at l.list 0 l.terms l.count) l.self.out.now l.self.end
      (lines_at l.list l.from l.terms (l.count - l.answer));
  same : l.self.out.ghost_name ≡ l.initial.self.out.ghost_name;
}
