use Rattle.std.proofs.Common.{◌≡◌, rules, true, false, take}
use Rattle.std.proofs.lemmas.Iterator.{cases_from_any, YieldsList-from_slice}
use borrow.Author.Tests.{tests}
use Rattle.theory.specs.Syntax.{same_atom}
use Rattle.words.specs.Words.{query_of, word_atom}
use Rattle.query_steps.proofs.StepLaws.{any_found}
use Rattle.query_steps.proofs.steps.has_atom.Goals as goal

pub returns : goal.returns
unfolding query_of
returns c =
    any_found (same_atom (word_atom c.args.a)) word_atom (take c.args.q.size c.args.q.atoms) c.any.result
    (cases_from_any _ _ _
    (λ x. same_atom (word_atom c.args.a) (word_atom x) ≡ true)
    (λ x. same_atom (word_atom c.args.a) (word_atom x) ≡ false)
    c.any.ensures.ran
    (YieldsList-from_slice (take c.args.q.size c.args.q.atoms) cc)
    (λ x q k. search (rules, tests))
    (λ x q k. search (rules, tests)))
