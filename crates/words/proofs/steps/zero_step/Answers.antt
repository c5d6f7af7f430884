use mathlib.Core.Path.{◌∙◌}
use Rattle.words.proofs.StepLaws.{laws, not_zero}
use Rattle.words.proofs.steps.zero_step.Goals as goal
use Rattle.words.proofs.steps.zero_step.Goals.{then-kind_in-eq0, else-kind_in-eq0, then-parent_in-eq0, else-parent_in-eq0}

pub returns-then-atom_in-eq0 : goal.returns-then-atom_in-eq0
returns-then-atom_in-eq0 c = elim c.if-parent_in-eq0.branch [
  | then-parent_in-eq0 w ↦ elim c.if-kind_in-eq0.branch [
    | then-kind_in-eq0 u ↦ search laws
    | else-kind_in-eq0 u ↦ absurd (not_zero _ _ u.value-is u.if-kind_in-eq0.false w.if-parent_in-eq0.true)
  ]
  | else-parent_in-eq0 w ↦ absurd (search laws)
]

pub returns-else-atom_in-eq0 : goal.returns-else-atom_in-eq0
returns-else-atom_in-eq0 c = elim c.if-parent_in-eq0.branch [
  | then-parent_in-eq0 w ↦ search laws
  | else-parent_in-eq0 w ↦ elim c.if-kind_in-eq0.branch [
    | then-kind_in-eq0 u ↦ w.value-is ∙ (search laws)
    | else-kind_in-eq0 u ↦ w.value-is ∙ (search laws)
  ]
]
