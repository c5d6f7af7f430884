use Rattle.explain_stages.proofs.TellLaws.{fact_laws}
use Rattle.explain_stages.proofs.explain_facts.Goals as goal

pub returns-in-Err : goal.returns-in-Err
returns-in-Err c = search (fact_laws, c.in-Err.ensures.facts)

pub returns-then-drawn_clashes : goal.returns-then-drawn_clashes
returns-then-drawn_clashes c = search (fact_laws, c.in-Ok.ensures.facts)

pub explain_tuple-requires : goal.explain_tuple-requires
explain_tuple-requires c = (
  search (fact_laws, c.in-Ok.ensures.facts),
  search (fact_laws, c.in-Ok.ensures.facts),
  search
      (fact_laws, c.in-Ok.ensures.facts),
  search fact_laws,
  search fact_laws,
  search fact_laws,
  search fact_laws,
  search fact_laws,
  search
      fact_laws,
  search fact_laws,
)

pub returns : goal.returns
returns c = search (fact_laws, c.in-Ok.ensures.facts)
