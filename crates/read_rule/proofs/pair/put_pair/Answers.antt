use Rattle.read_rule.proofs.PairLaws.{pair_laws}
use Rattle.read_rule.proofs.pair.put_pair.Goals as goal

pub description_as_read-left-requires : goal.description_as_read-left-requires
description_as_read-left-requires c = search pair_laws

pub turned-form-requires : goal.turned-form-requires
turned-form-requires c = search pair_laws

pub returns-clause-put : goal.returns-clause-put
returns-clause-put c = search pair_laws
