-- What refusals 12 and 13 mean. w is the width of an object's number, 16 on 01's sheets.
use Rattle.std.specs.Prelude.{◌≡◌, ◌⊎◌, ◌↔◌, ℕ, ◌%◌, ◌<◌, true, List, T, length}
use Rattle.std.proofs.Common.{inl, inr}
use Rattle.std.proofs.Math.Logic.Iff
use Rattle.words.specs.Limits.{sheet_width, record_bytes, most_fact_bytes}
use Rattle.words.specs.Records.{fact_kind, fact_zeros, fact_second}
use Rattle.sheets.specs.Format.{fact_records}
use Rattle.sheets.specs.Tests.{refuses12, fact_sound, refuses13}
use Rattle.sheets.specs.Conditions.{Meets12, FactBitSet, Meets13}
use Rattle.sheets.proofs.Laws.Tests.{sum_iff, Tells, itself, by_fail, not_tells, or_tells, and_tells, pick_tells, eqb_tells, ltb_tells}
use Rattle.sheets.proofs.Laws.Tests.{all_tells}

pub refuses12_iff : (w : ℕ) (s : List ℕ) → T (refuses12 w s) ↔ Meets12 w s
unfolding refuses12
refuses12_iff w s = (or_tells (not_tells (eqb_tells (length s % record_bytes w) 0)) (ltb_tells (most_fact_bytes w) (length s))).pass

pub refuses12_on_sheets : (s : List ℕ) → T (refuses12 sheet_width s) ↔ ((¬ (length s % 6 ≡ 0)) ⊎ (60000 < length s))
refuses12_on_sheets s = refuses12_iff sheet_width s

fact_sound_tells : (w x : ℕ) → Tells (fact_sound w x) (¬ FactBitSet w x) (FactBitSet w x)
unfolding fact_sound
fact_sound_tells w x =
    let parts = and_tells (eqb_tells (fact_zeros w x) 0)
    (pick_tells (eqb_tells (fact_kind w x) 0) (eqb_tells (fact_second w x) 0) (itself true)) in
    by_fail (fact_sound w x)
    (Iff.trans parts.fail
    (sum_iff Iff.rfl (elim [ inl f ↦ f | inr f ↦ absurd f.1 ], inl)))

pub refuses13_iff : (w : ℕ) (s : List ℕ) → T (refuses13 w s) ↔ Meets13 w s
unfolding refuses13
refuses13_iff w s = (all_tells (fact_sound_tells w) (fact_records w s)).fail
