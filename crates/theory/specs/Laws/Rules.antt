-- What a rule makes of an atom.
use Rattle.std.specs.Prelude.{◌≡◌, ◌⊎◌}
use Rattle.theory.specs.Lists.{◌∈◌}
use Rattle.theory.specs.Syntax.{Term, var, Atom, Query, args}
use Rattle.theory.specs.Rewriting.{fresh}

-- b has no other terms than a and the fresh variable
abbrev pub Within : Query → Atom Term → Atom Term → Type 0
Within q a b = (t : Term) → t ∈ args b → (t ∈ args a) ⊎ (t ≡ var (fresh q))
