use Rattle.std.proofs.Common.{arith, ap, ◌∙◌, ℕ, ◌/◌}
use Rattle.report.proofs.DigitLaws.{after_one, after_more, no_less, no_more}
use Rattle.report.proofs.number.digit_count.Goals as goal

pub loop-rest-init : goal.loop-rest-init
loop-rest-init c = (omega arith, omega arith, after_one c.args.n, λ h. absurd (omega arith))

pub loop-rest-smaller : goal.loop-rest-smaller
loop-rest-smaller c = omega arith

pub loop-rest-preserved : goal.loop-rest-preserved
loop-rest-preserved c =
    let l = c.loop-rest in
    let n = c.args.n in (
      omega arith,
      omega arith,
      ap (λ (m : ℕ). m / 10) l.invariant.2 ∙ after_more n l.k,
      λ _. no_less n l.k (omega arith),
    )

pub returns : goal.returns
returns c =
    let l = c.loop-rest in
    (omega arith, no_more c.args.n l.k (omega arith), λ h. l.invariant.3 h)
