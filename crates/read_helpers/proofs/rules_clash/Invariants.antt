use mathlib.Core.Path.{◌≡◌}
use Prim.Native.Nat.{◌/◌}
use lib.ListN.{length}
use Rattle.theory.specs.Qualified.{roles_of_rules}
use Rattle.theory.specs.Laws.Scans.{some_from}
use Rattle.words.specs.Limits.{sheet_width, rule_bytes}
use Rattle.sheets.specs.Reading.{rules_as_written}
use Rattle.read_helpers.specs.InUse.{clashing}
use Rattle.read_helpers.proofs.ClashLaws.{record_at}
use Rattle.read_helpers.proofs.rules_clash.Given as goal

abbrev pub invariant-loop-i : goal.invariant-loop-i
invariant-loop-i l = (some_from (record_at l.partners l.helpers l.s) l.i (length l.s / rule_bytes)
    ≡ clashing l.helpers (roles_of_rules (rules_as_written l.partners sheet_width l.s)))
