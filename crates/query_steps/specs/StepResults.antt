-- What a step gives in words. 01: "After each step equal atoms are kept once."
use Rattle.std.proofs.Math.Option.{Option as Maybe, none, some}
use Rattle.std.specs.Prelude.{[], ◌∷◌, ◌++◌, Option, Some, None}
use Rattle.theory.specs.Lists.{pick, any}
use Rattle.theory.specs.Syntax.{Term, Atom, Query, same_atom}
use Rattle.theory.specs.Rewriting.{keep_once}
use Rattle.words.specs.Words.{query_of}
use Rattle.words.specs.declared.QueryWords.{QueryWords}

-- the query with equal atoms kept once
unfoldable pub once_each : Query → Query
unfolding keep_once
once_each q = record { answers = q.answers; atoms = keep_once q.atoms }

-- the query with one atom more, unless it stands there already
unfoldable pub with_atom : Query → Atom Term → Query
unfolding any same_atom
with_atom q a = record { answers = q.answers; atoms = pick (any (same_atom a) q.atoms) q.atoms (q.atoms ++ (a ∷ [])) }

-- the query that a step leads to, where it applies
abbrev pub query_found : Option QueryWords → Maybe Query
query_found (Some q) = some (query_of q)
query_found None = none
