use Rattle.std.proofs.Common.{arith}
use Rattle.read_fields.proofs.NumberLaws.{number_four}
use Rattle.read_fields.proofs.bytes.four.Goals as goal

pub returns : goal.returns
returns c =
    let e = c.from_be_bytes.ensures in
    let n = number_four c.args.s.now c.args.at in
    (omega arith, omega arith)
