-- The loop's invariant: `at` is where the next member begins.
use mathlib.Core.Path.{◌≡◌}
use Rattle.words.specs.Limits.{sheet_width}
use Rattle.sheets.specs.Format.{member_start}
use Rattle.read_shown.proofs.member_start.Given as goal

abbrev pub invariant-loop-earlier : goal.invariant-loop-earlier
invariant-loop-earlier l = (l.at ≡ member_start sheet_width l.s l._earlier)
