use mathlib.Core.Path.{◌∙◌}
use Rattle.std.proofs.Common.{rules, tests}
use Rattle.std.proofs.lemmas.Iterator.{YieldsList-from_slice}
use Rattle.std.proofs.lemmas.Iterator.Search.{any_from_yields_List}
use Rattle.theory.specs.Syntax.{same_atom}
use Rattle.words.specs.Words.{word_atom}
use Rattle.read_question.proofs.QuestionTests.{among}
use Rattle.read_question.proofs.stands_among.Goals as goal

pub returns : goal.returns
returns c =
    any_from_yields_List (λ b. same_atom (word_atom c.args.a) (word_atom b)) _ _ _ c.any.ensures.ran
    (YieldsList-from_slice c.args.atoms.now cc) (λ x b q h. search (rules, tests))
    ∙ among c.args.a c.args.atoms.now
