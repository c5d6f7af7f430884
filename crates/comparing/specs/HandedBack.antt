-- What comparing two questions hands back, as a flag and 32 places: on a refusal no renaming.
use Rattle.std.specs.Prelude.{ℕ, List, Result, Ok, Err, replicate}
use Rattle.theory.specs.Targets.{places, no_target}
use Rattle.words.specs.declared.refusals.Refusal.{Refusal}
use Rattle.promises.specs.Renaming.{flagged}
use Rattle.query_renaming.specs.declared.search.Renaming.{Renaming}

abbrev pub found_in : Result Renaming Refusal → ℕ
found_in (Ok r) = flagged r.found
found_in (Err refusal) = 0

abbrev pub targets_in : Result Renaming Refusal → List ℕ
targets_in (Ok r) = r.targets
targets_in (Err refusal) = replicate places no_target
