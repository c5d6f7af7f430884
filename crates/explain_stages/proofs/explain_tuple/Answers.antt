use Rattle.explain_stages.proofs.TellLaws.{tuple_laws}
use Rattle.explain_stages.proofs.explain_tuple.Goals as goal

pub returns-then-tuple-terms : goal.returns-then-tuple-terms
returns-then-tuple-terms c = search tuple_laws

pub explain_from-requires : goal.explain_from-requires
explain_from-requires c = (search tuple_laws, search tuple_laws, search (tuple_laws, c.in-Some.ensures), search tuple_laws)

pub returns-in-Some : goal.returns-in-Some
returns-in-Some c = search (tuple_laws, c.in-Some.ensures)

pub returns-in-None : goal.returns-in-None
returns-in-None c = search (tuple_laws, c.in-None.ensures)
