-- The list of steps that explaining fills (02, T-06), 40 bytes a place, high byte first: member 2, kind 1, parent 2, atom 1, other 2, and a
-- byte for each of the renaming's 32 targets. "Unused places hold zeros".
use Rattle.std.specs.Prelude.{ℕ, ◌-◌, length, replicate}
use mathlib.Core.List.{List, ◌++◌, flat_map}
use Rattle.theory.specs.Explaining.{ExplainedStep}
use Rattle.sheets.specs.Packing.{bytes_of, pack_records}

-- the bytes of a place
unfoldable pub place_bytes : ExplainedStep → List ℕ
unfolding bytes_of pack_records
place_bytes e =
    bytes_of 2 e.member
    ++ (bytes_of 1 e.step.kind
    ++ (bytes_of 2 e.step.parent ++ (bytes_of 1 e.step.atom ++ (bytes_of 2 e.step.other ++ pack_records 1 e.targets))))

-- the bytes of all places, and zeros after them: a list of `room` bytes
unfoldable pub step_list : ℕ → List ExplainedStep → List ℕ
unfolding place_bytes flat_map
step_list room steps = flat_map place_bytes steps ++ replicate (room - length (flat_map place_bytes steps)) 0
