-- How many steps lead from a member back to member 0.
use Rattle.std.specs.Prelude.{◌≡◌, ℕ, zero, suc, ◌<◌}
use Rattle.theory.specs.Lists.{At}
use Rattle.theory.specs.Syntax.{Member, UCQ}

-- so many written parents lead from member k up to member 0
abbrev pub Behind : UCQ → ℕ → ℕ → Type 0
Behind union zero k = k ≡ 0
Behind union (suc c) k = (0 < k) × (m : Member) × At union k m × Behind union c m.step.parent
