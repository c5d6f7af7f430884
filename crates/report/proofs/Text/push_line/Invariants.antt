use Prim.Native.Nat.{◌+◌, ◌*◌, ◌-◌, ◌≤◌}
use mathlib.Core.Path.{◌≡◌}
use Rattle.promises.specs.Report.{line, objects_at}
use Rattle.report.proofs.ReportLaws.{Left}
use Rattle.report.proofs.Text.push_line.Given as goal

-- what is left of the line would complete the text, and there is room for it
abbrev pub invariant-loop-k : goal.invariant-loop-k
invariant-loop-k l = record {
  room : l.self.end + 6 * (l.terms - l.k) ≤ l.initial.self.end + 6 * l.terms;
  left : Left l.initial.self.out.now l.initial.self.end (line (objects_at l.list l.at l.terms)) l.self.out.now l.self.end
      (line (objects_at l.list (l.at + 2 * l.k) (l.terms - l.k)));
  same : l.self.out.ghost_name ≡ l.initial.self.out.ghost_name;
}
