-- A turn puts what `place_in` answers where the invariant says.
use Rattle.std.proofs.Common.{◌<◌, length, set, sym, ap, ◌∙◌, arith}
use Rattle.explain_places.proofs.FillLaws.{filled_none, filled_more}
use Rattle.explain_places.proofs.fill_places.Goals as goal

pub loop-i-init : goal.loop-i-init
loop-i-init c = sym (filled_none c.args.packed.now c.args.n c.args.steps.now)

pub loop-i-preserved : goal.loop-i-preserved
loop-i-preserved c =
    let here : c.loop-i.i < length c.args.steps.now = omega arith in
    ap (λ l. set l c.loop-i.i c.place_in.result) c.loop-i.invariant
    ∙ filled_more c.args.packed.now c.args.n c.args.steps.now c.loop-i.i c.place_in.result c.place_in.ensures here
