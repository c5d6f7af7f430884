-- What the step beside a member does wrong: refusals 8 and 9.
use Rattle.std.specs.Prelude.{◌≡◌, ℕ, Bool, true, false}
use Rattle.std.proofs.Math.Option.{Option, none, some}
use Rattle.theory.specs.Lists.{is_some}
use Rattle.theory.specs.Syntax.{Query}
use Rattle.theory.specs.Renaming.{alike}
pub use Rattle.theory.specs.Explaining.{step_from}

-- what the step beside a member yields is a question, alike to the member's
abbrev pub yields_alike : Option Query → Query → Bool
yields_alike none q = false
yields_alike (some r) q = alike r q

-- it is a question, and this says whether it is alike to the member's
pub record YieldsAlike (yielded : Option Query) (q : Query) (same : Bool) : Type 0 where
  pub made : is_some yielded ≡ true
  pub same_is : same ≡ yields_alike yielded q

-- the step beside a member yields nothing, which is refusal 8
pub record FailsAt (yielded : Option Query) (number : ℕ) : Type 0 where
  pub nothing : yielded ≡ none
  pub eight : number ≡ 8
