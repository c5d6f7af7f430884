use mathlib.Core.Path.{◌≡◌, refl, ap, ◌∙◌}
use Prim.Native.Nat.{ℕ}
use lib.ListN.{length}
use Rattle.std.specs.Prelude.{Result, Ok, Err}
use Rattle.std.specs.Result.{result_unwrap_or}
use Rattle.words.specs.Refusals.{count_in}
use Rattle.words.specs.declared.refusals.Refusal.{Refusal}
use Rattle.explain_place.specs.Places.{places_in}
use Rattle.explain_packed.proofs.PackedLaws.{places_explained}
use Rattle.explaining_places.proofs.explain_places.Goals as goal

-- on a refusal no place is used
counted : (r : Result ℕ Refusal) → result_unwrap_or r 0 ≡ count_in r
counted (Ok n) = refl
counted (Err refusal) = refl

pub returns : goal.returns
returns c =
    let told = c.explain_packed-told in
    places_explained _ _ _ _ _ (length c.args.steps.now) _ _ told.new.packed c.fill_places.new.steps told.ensures
    (c.fill_places.ensures
    ∙ ap (λ n. places_in told.new.packed n (length c.args.steps.now)) (c.unwrap_or.ensures ∙ counted told.result))
