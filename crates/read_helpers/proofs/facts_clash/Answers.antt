use mathlib.Core.Path.{◌∙◌}
use Rattle.std.proofs.Common.{rules, tests}
use Rattle.std.proofs.lemmas.Iterator.{YieldsList-from_slice}
use Rattle.std.proofs.lemmas.Iterator.Search.{any_from_yields_List}
use Rattle.theory.specs.Qualified.{roles_of_atom}
use Rattle.words.specs.Words.{word_fact}
use Rattle.read_helpers.specs.InUse.{clashing}
use Rattle.read_helpers.proofs.ClashLaws.{some_clash}
use Rattle.read_helpers.proofs.facts_clash.Goals as goal

pub returns : goal.returns
returns c =
    any_from_yields_List (λ f. clashing c.args.helpers (roles_of_atom (word_fact f))) _ _ _ c.any.ensures.ran
    (YieldsList-from_slice c.args.facts.now cc) (λ x b q h. search (rules, tests))
    ∙ some_clash word_fact c.args.helpers c.args.facts.now
