-- The steps of an explanation in bytes: 40 for each place, and each of them a byte.
use mathlib.Core.Path.{◌≡◌, sym, ap, ◌∙◌, subst}
use mathlib.Core.Logic.{inl, inr}
use Prim.Native.Nat.{ℕ, zero, suc, ◌*◌, ◌/◌, ◌%◌}
use native.Mathlib.Omega.{arith}
use mathlib.Core.List.Memᴰ
use mathlib.Core.List.{List, [], ◌∷◌, ◌++◌, flat_map}
use lib.ListN.{length}
use Rattle.theory.specs.Lists.{◌∈◌}
use Rattle.theory.specs.Syntax.{Rule, UCQ, Fact}
use Rattle.theory.specs.Explaining.{ExplainedStep, WayBack, Explains}
use Rattle.theory.specs.Laws.Lists.{flat_map_found}
use Rattle.words.specs.Limits.{place_size}
use Rattle.sheets.specs.Packing.{bytes_of, pack_records, All, IsByte}
use Rattle.sheets.specs.StepList.{place_bytes}
use Rattle.sheets.proofs.Laws.PackingBytes.{length_records}
use Rattle.promises.proofs.Laws.AnswerBytes.{length_parts}

-- ---- how many

length_place : (e : ExplainedStep) → length e.targets ≡ 32 → length (place_bytes e) ≡ place_size
unfolding place_bytes
length_place e h = simp (length_records, h)

-- each place of a way back has 32 targets
places_whole : (rules : List Rule) (union : UCQ) (k : ℕ) (steps : List ExplainedStep) → WayBack rules union k steps
    → (e : ExplainedStep) → e ∈ steps → length (place_bytes e) ≡ place_size
places_whole rules union k [] way e m = absurd (Memᴰ.not-nil m)
places_whole rules union k (f ∷ fs) (_, place, way) e m =
    elim (Memᴰ.cases_cons m) [
      | inl d ↦ length_place e (ap (λ (o : ExplainedStep). length o.targets) d ∙ place.renamed.fits.long)
      | inr r ↦ places_whole rules union f.step.parent fs way e r
    ]

pub length_steps : (rules : List Rule) (facts : List Fact) (union : UCQ) (tuple : List ℕ) (steps : List ExplainedStep)
    → Explains rules facts union tuple steps → length (flat_map place_bytes steps) ≡ place_size * length steps
length_steps rules facts union tuple steps x =
    length_parts place_bytes place_size steps (places_whole rules union x.from steps x.way)

-- ---- which

low_both : (xs ys : List ℕ) → All IsByte xs → All IsByte ys → All IsByte (xs ++ ys)
low_both xs ys h k = λ b m. elim (Memᴰ.append_cases xs m) [ inl l ↦ h b l | inr r ↦ k b r ]

low_number : (size n : ℕ) → All IsByte (bytes_of size n)
unfolding bytes_of
low_number zero n = λ b m. absurd (Memᴰ.not-nil m)
low_number (suc size) n =
    low_both (bytes_of size (n / 256)) (n % 256 ∷ []) (low_number size (n / 256))
    (λ b m. subst IsByte (sym (Memᴰ.eq_of_singleton m)) (omega arith))

low_records : (size : ℕ) (xs : List ℕ) → All IsByte (pack_records size xs)
unfolding pack_records
low_records size xs = λ b m. let f = flat_map_found (bytes_of size) xs m in low_number size f.0 b f.2

low_place : (e : ExplainedStep) → All IsByte (place_bytes e)
unfolding place_bytes
low_place e =
    low_both _ _ (low_number 2 e.member) (low_both _ _ (low_number 1 e.step.kind) (low_both _ _ (low_number 2 e.step.parent)
    (low_both _ _ (low_number 1 e.step.atom) (low_both _ _ (low_number 2 e.step.other) (low_records 1 e.targets)))))

pub low_steps : (steps : List ExplainedStep) → All IsByte (flat_map place_bytes steps)
low_steps steps = λ b m. let f = flat_map_found place_bytes steps m in low_place f.0 b f.2
