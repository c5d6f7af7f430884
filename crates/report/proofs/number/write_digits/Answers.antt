use Rattle.std.proofs.Common.{arith, refl, ap, ◌∙◌, List, ℕ, ◌++◌, ◌-◌, append-nil, length-set}
use lib.Seq.{slice_empty, drop-set-lt}
use native.Mathlib.Nat.{le_refl}
use Rattle.report.specs.Digits.{last_digits}
use Rattle.report.proofs.DigitLaws.{digits_step}
use Rattle.report.proofs.number.write_digits.Goals as goal

pub loop-i-init : goal.loop-i-init
loop-i-init c =
    let a = c.args in
    let all = last_digits 10 a.k a.n in
    (refl, le_refl a.k, ap (λ (l : List ℕ). all ++ l) (slice_empty a.k a.out.now) ∙ append-nil all, refl)

pub loop-i-preserved : goal.loop-i-preserved
loop-i-preserved c =
    let l = c.loop-i in
    let a = c.args in (
      simp length-set l.invariant.0,
      omega arith,
      digits_step l.i a.k l.rest c.digit_code.result l.out c.loop-i-test.true l.invariant.1 (omega arith) c.digit_code.ensures
          ∙ l.invariant.2,
      drop-set-lt a.k l.out (l.i - 1) _ (omega arith) ∙ l.invariant.3,
    )
