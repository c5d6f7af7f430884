-- What is known of members in a table is known in one way.
use Rattle.std.specs.Prelude.{List, [], ◌∷◌}
use Rattle.std.specs.Coded.{×_prop, Unit-prop}
use Rattle.std.proofs.Props.{props}
use Rattle.theory.specs.Lists.{Unrepeated}

pub unrepeated_prop : {X : Type 0} (xs : List X) → IsProp (Unrepeated xs)
unrepeated_prop [] = Unit-prop
unrepeated_prop (x ∷ xs) = ×_prop (hlevel props) (unrepeated_prop xs)

pub ruleset facts = (props, unrepeated_prop)
