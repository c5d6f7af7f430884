use Rattle.explain_stages.proofs.TellLaws.{union_laws}
use Rattle.explain_stages.proofs.explain_members.Goals as goal

pub explain_facts-requires : goal.explain_facts-requires
explain_facts-requires c = (
  search union_laws,
  search (union_laws, c.in-Ok.ensures.members),
  search union_laws,
  search
      (union_laws, c.in-Ok.ensures.members),
  search (union_laws, c.in-Ok.ensures.members),
  search
      (union_laws, c.in-Ok.ensures.members),
  search (union_laws, c.in-Ok.ensures.members),
  search (union_laws, c.in-Ok.ensures.members),
)

pub returns-in-Ok : goal.returns-in-Ok
returns-in-Ok c = search (union_laws, c.in-Ok.ensures.members)

pub returns-in-Err : goal.returns-in-Err
returns-in-Err c = search (union_laws, c.in-Err.ensures.members)
