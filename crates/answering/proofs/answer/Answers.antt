use Rattle.answering.proofs.EntryLaws.{laws, with_outcome}
use Rattle.answering.proofs.answer.Goals as goal

pub returns-in-Err : goal.returns-in-Err
returns-in-Err c = with_outcome _ _ _ _ _ _ _ _ (search (laws, c.in-Err.ensures.rules))

pub returns-in-Err-read_question : goal.returns-in-Err-read_question
returns-in-Err-read_question c =
    with_outcome _ _ _ _ _ _ _ _ (search (laws, c.in-Ok.ensures.rules, c.in-Err-read_question.ensures))

pub asked_clashes-requires : goal.asked_clashes-requires
asked_clashes-requires c = (search (laws, c.in-Ok.ensures.helpers), search (laws, c.in-Ok-read_question.ensures))

pub draw_members-requires : goal.draw_members-requires
draw_members-requires c = (search (laws, c.in-Ok.ensures.helpers), search (laws, c.in-Ok-read_question.ensures))

pub returns : goal.returns
returns c =
    with_outcome _ _ _ _ _ _ _ _
    (search (laws, c.in-Ok.ensures.rules, c.in-Ok.ensures.helpers, c.in-Ok-read_question.ensures))
