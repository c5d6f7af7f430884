-- The union of members that are lent with their keys.
use Rattle.std.specs.Prelude.{length}
use Rattle.theory.specs.Syntax.{UCQ}
use Rattle.words.specs.Words.{union_in}
use Rattle.check_distinct.specs.declared.members.Members.{Members}

abbrev pub union_of : Members → UCQ
union_of m = union_in m.table.now (length m.keys.words.now)
