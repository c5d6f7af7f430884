use mathlib.Core.Path.{◌∙◌}
use lib.ListN.{take}
use Rattle.std.proofs.Common.{rules, tests}
use Rattle.std.proofs.lemmas.Iterator.{YieldsList-from_slice}
use Rattle.std.proofs.lemmas.Iterator.Search.{any_from_yields_List}
use Rattle.theory.specs.Qualified.{roles_of_atom}
use Rattle.words.specs.Words.{word_atom}
use Rattle.read_helpers.specs.InUse.{clashing}
use Rattle.read_helpers.proofs.ClashLaws.{question_clash, some_clash}
use Rattle.read_helpers.proofs.question_clashes.Goals as goal

pub returns : goal.returns
returns c =
    let k = c.args.helpers in
    let words = take c.args.q.size c.args.q.atoms in
    any_from_yields_List (λ a. clashing k (roles_of_atom (word_atom a))) _ _ _ c.any.ensures.ran (YieldsList-from_slice words cc)
    (λ x b q h. search (rules, tests))
    ∙ some_clash word_atom k words ∙ question_clash k c.args.q
