use Rattle.std.proofs.Common.{◌≡◌, ◌<◌, ◌^◌, get_or, rules}
use Rattle.words.specs.Words.{word_atom}
use Rattle.query_partial.proofs.PartialLaws.{loop_laws}
use Rattle.query_partial.proofs.some_atom.Goals as goal

pub test-requires : goal.test-requires
test-requires g c = search loop_laws

pub returns-then-test : goal.returns-then-test
returns-then-test g c = λ passes decides.
    let before = c.loop-i.invariant passes decides in
    let fits : get_or c.args.q.atoms c.loop-i.i 0 < 2 ^ 64 = search rules in
    let answer : c.test.result ≡ passes (word_atom (get_or c.args.q.atoms c.loop-i.i 0)) =
    decides (get_or c.args.q.atoms c.loop-i.i 0) c.test.result fits c.test.ensures in
    search loop_laws

pub loop-i-preserved : goal.loop-i-preserved
loop-i-preserved g c = λ passes decides.
    let before = c.loop-i.invariant passes decides in
    let fits : get_or c.args.q.atoms c.loop-i.i 0 < 2 ^ 64 = search rules in
    let answer : c.test.result ≡ passes (word_atom (get_or c.args.q.atoms c.loop-i.i 0)) =
    decides (get_or c.args.q.atoms c.loop-i.i 0) c.test.result fits c.test.ensures in
    search loop_laws

pub returns : goal.returns
returns g c = λ passes decides. let before = c.loop-i.invariant passes decides in search loop_laws
