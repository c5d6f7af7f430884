use Rattle.explain_stages.proofs.TellLaws.{question_laws}
use Rattle.explain_stages.proofs.explain_question.Goals as goal

pub returns-in-Err : goal.returns-in-Err
returns-in-Err c = search (question_laws, c.in-Err.ensures)

pub asked_clashes-requires : goal.asked_clashes-requires
asked_clashes-requires c = (search question_laws, search (question_laws, c.in-Ok.ensures))

pub explain_members-requires : goal.explain_members-requires
explain_members-requires c = (search question_laws, search (question_laws, c.in-Ok.ensures))

pub returns : goal.returns
returns c = search (question_laws, c.in-Ok.ensures)
