-- What refusals 1 and 2 mean.
use Rattle.std.proofs.Common.{inl, inr, arith}
use Rattle.std.specs.Prelude.{◌↔◌, ℕ, ◌%◌, List, T, length}
use Rattle.std.proofs.Math.Logic.Iff
use Rattle.words.specs.Limits.{rule_bytes, most_rule_bytes}
use Rattle.words.specs.Records.{rule_kind, left_form, right_form, is_rule, is_paired}
use Rattle.sheets.specs.Format.{rule_records}
use Rattle.sheets.specs.Tests.{refuses1, passes2, refuses2}
use Rattle.sheets.specs.Conditions.{Meets1, Named, Paired, Meets2}
use Rattle.sheets.proofs.Laws.Tests.{Tells, by_pass, not_tells, or_tells, and_tells, pick_tells, eqb_tells, ltb_tells, all_tells}

pub refuses1_iff : (s : List ℕ) → T (refuses1 s) ↔ Meets1 s
unfolding refuses1
refuses1_iff s = (or_tells (not_tells (eqb_tells (length s % rule_bytes) 0)) (ltb_tells most_rule_bytes (length s))).pass

is_rule_tells : (x : ℕ) → Tells (is_rule x) (Named x) (¬ Named x)
unfolding is_rule
is_rule_tells x =
    let conceptForms = and_tells (ltb_tells (left_form x) 3) (ltb_tells (right_form x) 3) in
    let roleForms = and_tells (and_tells (eqb_tells (rule_kind x) 2) (eqb_tells (left_form x) 0)) (ltb_tells (right_form x) 2) in
    by_pass (is_rule x) (Iff.trans (pick_tells (eqb_tells (rule_kind x) 1) conceptForms roleForms).pass (
      elim [ inl w ↦ inl (w.0, omega arith, omega arith) | inr w ↦ inr (w.1.0.0, w.1.0.1, omega arith) ],
      elim [ inl w ↦ inl (w.0, (omega arith, omega arith)) | inr w ↦ inr (omega arith, ((w.0, w.1), omega arith)) ],
    ))

is_paired_tells : (x : ℕ) → Tells (is_paired x) (Paired x) (¬ Paired x)
unfolding is_paired
is_paired_tells x = by_pass (is_paired x) (or_tells (eqb_tells (rule_kind x) 3) (eqb_tells (rule_kind x) 4)).pass

pub refuses2_iff : (s : List ℕ) → T (refuses2 s) ↔ Meets2 s
unfolding refuses2 passes2
refuses2_iff s =
    Iff.trans (all_tells (λ x. or_tells (is_paired_tells x) (is_rule_tells x)) (rule_records s)).fail
    (λ w. (w.0, w.1, w.2.0, w.2.1), λ w. (w.0, w.1, (w.2, w.3)))
