use Rattle.answer_stages.proofs.StageLaws.{fact_laws}
use Rattle.answer_stages.proofs.draw_facts.Goals as goal

pub returns-in-Err : goal.returns-in-Err
returns-in-Err c = search (fact_laws, c.in-Err.ensures.facts)

pub returns-then-drawn_clashes : goal.returns-then-drawn_clashes
returns-then-drawn_clashes c = search (fact_laws, c.in-Ok.ensures.facts)

pub draw_answers-requires : goal.draw_answers-requires
draw_answers-requires c = (
  search (fact_laws, c.in-Ok.ensures.facts),
  search (fact_laws, c.in-Ok.ensures.facts),
  search (fact_laws, c.in-Ok.ensures.facts),
  search fact_laws,
  search fact_laws,
  search fact_laws,
  search fact_laws,
  search fact_laws,
  search (fact_laws, c.in-Ok.ensures.facts),
)

pub returns : goal.returns
returns c = search (fact_laws, c.in-Ok.ensures.facts)
