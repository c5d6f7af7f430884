use Rattle.explaining.proofs.EntryLaws.{laws, with_pledge}
use Rattle.explaining.proofs.explain.Goals as goal

pub returns-in-Err : goal.returns-in-Err
returns-in-Err c = with_pledge _ _ _ _ _ _ _ _ _ (search (laws, c.in-Err.ensures.rules))

pub explain_question-requires : goal.explain_question-requires
explain_question-requires c = search (laws, c.in-Ok.ensures.helpers)

pub returns : goal.returns
returns c = with_pledge _ _ _ _ _ _ _ _ _ (search (laws, c.in-Ok.ensures.rules, c.in-Ok.ensures.helpers))
