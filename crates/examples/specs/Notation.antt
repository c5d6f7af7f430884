-- Short names that the tables of examples are written in.
use Rattle.std.specs.Prelude.{ℕ, List}
use Rattle.theory.specs.Syntax.{Term, var, Atom, Query, Member}
use Rattle.theory.specs.Union.{no_step}

-- concept names
abbrev pub A : ℕ
A = 1

abbrev pub B : ℕ
B = 2

-- role names, none of which has a partner
abbrev pub P : ℕ
P = 16

abbrev pub R : ℕ
R = 17

abbrev pub S : ℕ
S = 18

-- variables
abbrev pub x : Term
x = var 0

abbrev pub y : Term
y = var 1

abbrev pub z : Term
z = var 2

-- the query with these answer terms and atoms
abbrev pub ask : List Term → List (Atom Term) → Query
ask answers atoms = record { answers = answers; atoms = atoms }

-- A member with the step written beside it: none; rule k on atom i of the parent; atom i of the parent merged with the later
-- atom j.
abbrev pub first : Query → Member
first q = record { step = no_step; query = q }

abbrev pub by_rule : ℕ → ℕ → ℕ → Query → Member
by_rule parent i k q = record { step = record { kind = 1; parent = parent; atom = i; other = k }; query = q }

abbrev pub by_merge : ℕ → ℕ → ℕ → Query → Member
by_merge parent i j q = record { step = record { kind = 2; parent = parent; atom = i; other = j }; query = q }
