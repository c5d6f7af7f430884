use Rattle.query_renaming.proofs.SearchLaws.{laws, first_found}
use Rattle.query_renaming.proofs.search.+complete.Goals as goal

pub returns-then-v-eq32 : goal.returns-then-v-eq32
returns-then-v-eq32 t c = search laws

pub complete-requires : goal.complete-requires
complete-requires t c = search laws

pub viable-requires : goal.viable-requires
viable-requires t c = search laws

pub complete-r-requires : goal.complete-r-requires
complete-r-requires t c = (search laws, (search laws, search laws, search laws))

pub returns-then-r : goal.returns-then-r
returns-then-r t c = search first_found

pub loop-w-preserved : goal.loop-w-preserved
loop-w-preserved t c = search laws

pub returns : goal.returns
returns t c = search laws

pub loop-w-preserved-then-not-viable : goal.loop-w-preserved-then-not-viable
loop-w-preserved-then-not-viable t c = search laws
