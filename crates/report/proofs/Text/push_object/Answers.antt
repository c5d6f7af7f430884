use native.Mathlib.Omega.{arith}
use Prim.Native.Nat.{◌+◌, ◌<◌}
use Rattle.report.proofs.ReportLaws.{laws}
use Rattle.report.proofs.Text.push_object.Goals as goal

pub push_decimal-requires : goal.push_decimal-requires
push_decimal-requires c =
    let high : c.from.result < 256 = omega (arith, c.type_inv.list c.args.at) in
    let low : c.from-2.result < 256 = omega (arith, c.type_inv.list (c.args.at + 1)) in
    search laws

pub push_byte-requires : goal.push_byte-requires
push_byte-requires c = search laws

pub returns-clause-put : goal.returns-clause-put
returns-clause-put c = search laws

pub returns-clause-short : goal.returns-clause-short
returns-clause-short c = search laws
