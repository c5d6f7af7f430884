use Rattle.std.proofs.Common.{arith}
use Rattle.report.proofs.DigitLaws.{twenty_at_most, counted}
use Rattle.report.proofs.number.decimal.Goals as goal

pub write_digits-requires : goal.write_digits-requires
write_digits-requires c = omega (arith, twenty_at_most c.args.n c.digit_count-k.result (omega arith) c.digit_count-k.ensures)

pub returns : goal.returns
returns c = record {
  in_bounds = counted _ _ (omega (arith, twenty_at_most c.args.n c.digit_count-k.result (omega arith) c.digit_count-k.ensures));
  len = c.digit_count-k.ensures;
  digits = c.write_digits.ensures.digits;
  rest = c.write_digits.ensures.rest;
}
