-- The loop's invariant: `at` is where member `seen` begins, within the sheet, and the members before it are sound.
use mathlib.Core.Path.{◌≡◌}
use Prim.Native.Nat.{◌≤◌}
use lib.ListN.{length}
use Rattle.words.specs.Limits.{sheet_width}
use Rattle.sheets.specs.Format.{member_start}
use Rattle.read_walk.proofs.WalkLaws.{SoundBelow}
use Rattle.read_walk.proofs.members_sound.Given as goal

abbrev pub invariant-loop-seen : goal.invariant-loop-seen
invariant-loop-seen l =
    (l.at ≡ member_start sheet_width l.s l._seen) × (l.at ≤ length l.s) × SoundBelow l.partners l.arity l.s l._seen
