use Rattle.std.proofs.Common.{◌+◌, arith}
use Rattle.read_fields.proofs.NumberLaws.{number_three}
use Rattle.read_fields.proofs.bytes.three.Goals as goal

pub returns : goal.returns
returns c =
    let e = c.from_be_bytes.ensures in
    let n = number_three c.args.s.now c.args.at in
    let a = c.type_inv.s c.args.at in
    let b = c.type_inv.s (c.args.at + 1) in
    let d = c.type_inv.s (c.args.at + 2) in
    (omega arith, omega arith)
