use Rattle.read_helpers.proofs.ClashLaws.{record_laws}
use Rattle.read_helpers.proofs.record_clashes.Goals as goal

pub returns-then-is_helper : goal.returns-then-is_helper
returns-then-is_helper c = search record_laws

pub returns-else-is_helper : goal.returns-else-is_helper
returns-else-is_helper c = search record_laws

pub returns-in-4 : goal.returns-in-4
returns-in-4 c = search record_laws

pub returns-then-side_clashes : goal.returns-then-side_clashes
returns-then-side_clashes c = search record_laws

pub returns-else-side_clashes : goal.returns-else-side_clashes
returns-else-side_clashes c = search record_laws
