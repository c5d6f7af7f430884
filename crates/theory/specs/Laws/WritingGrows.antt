-- Queries that a union has already, up to renaming.
use Rattle.theory.specs.Lists.{◌∈◌}
use Rattle.theory.specs.Syntax.{Query, Member, UCQ}
use Rattle.theory.specs.Renaming.{Alike}

-- the union has a member that the question is alike to
abbrev pub AlikeIn : Query → UCQ → Type 0
AlikeIn r union = (n : Member) × (n ∈ union) × Alike r n.query
