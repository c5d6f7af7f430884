-- A text written between quotes as the list of its ASCII codes.
use Rattle.std.specs.Prelude.{ℕ, List, [], ◌∷◌}
use Prim.Native.Char.{code}
use Prim.Native.String.{String, [] as nothing, ◌∷◌ as first}

abbrev pub ascii : String → List ℕ
ascii nothing = []
ascii (first c rest) = code c ∷ ascii rest
