use Rattle.words.proofs.WordLaws.{laws, kind_found}
use Rattle.words.proofs.same_atom.Goals as goal
use Rattle.words.proofs.same_atom.Goals.{then-kind-kind_of, else-kind-kind_of}

pub returns-then-number_of : goal.returns-then-number_of
returns-then-number_of c = elim c.if-kind-kind_of.branch [
  | then-kind-kind_of w ↦ search laws
  | else-kind-kind_of w ↦ kind_found c.args.a c.args.b _ _ _ c.kind_of-kind.ensures.0 c.kind_of.ensures.0 w.if-kind-kind_of.false
      w.value-is c.if-number_of.true
]

pub returns-else-number_of : goal.returns-else-number_of
returns-else-number_of c = elim c.if-kind-kind_of.branch [
  | then-kind-kind_of w ↦ search laws
  | else-kind-kind_of w ↦ search laws
]
