use Rattle.std.proofs.Common.{◌≡◌, ◌<◌, ◌^◌, get_or, rules}
use Rattle.words.specs.Words.{word_atom}
use Rattle.query_profile.proofs.ProfileLaws.{laws}
use Rattle.query_profile.proofs.gathered.Goals as goal
use Rattle.query_profile.proofs.gathered.Goals.{then-test, else-test}

pub loop-i-init : goal.loop-i-init
loop-i-init g c = search laws

pub with_atom-set-requires : goal.with_atom-set-requires
with_atom-set-requires g c = search laws

pub loop-i-preserved : goal.loop-i-preserved
loop-i-preserved g c = λ passes decides.
    let before = c.loop-i.invariant passes decides in
    let fits : get_or c.args.q.atoms c.loop-i.i 0 < 2 ^ 64 = search rules in
    let answer : c.test.result ≡ passes (word_atom (get_or c.args.q.atoms c.loop-i.i 0)) =
    decides (get_or c.args.q.atoms c.loop-i.i 0) c.test.result fits c.test.ensures in
    elim c.if-test.branch [ then-test w ↦ search laws | else-test w ↦ search laws ]

pub returns : goal.returns
returns g c = λ passes decides. let before = c.loop-i.invariant passes decides in search laws
