-- 02, T-06, "which rules put a cabinet on a list": the rounds in which only some of the rules conclude anything, each under its own index
-- and so with its own unnamed things, and what it means that the rules named by steps suffice for a tuple.
use Rattle.std.specs.Prelude.{◌≡◌, ℕ, zero, suc, ◌+◌, ◌<◌, ◌⊎◌, List, length}
use Rattle.theory.specs.Lists.{◌∈◌, At}
use Rattle.theory.specs.Syntax.{Rule, Query, Fact, object, map_atom}
use Rattle.theory.specs.Chase.{Held, Concludes, Answer}
use Rattle.theory.specs.Qualified.{WrittenRule, read_as, PlacedRule, placed_rules, rules_read}
use Rattle.theory.specs.QualifiedChase.{ConcludesAsWritten}
use Rattle.theory.specs.Explaining.{ExplainedStep}

-- 01's rounds, but only the rules at these indices conclude
abbrev pub RoundBy : (ℕ → Type 0) → List Rule → List Fact → ℕ → Held
RoundBy only rules facts zero a = (f : Fact) × (f ∈ facts) × (a ≡ map_atom object f)
RoundBy only rules facts (suc n) a =
    RoundBy only rules facts n a
    ⊎ ((i : ℕ) × (r : Rule) × only i × At rules i r × Concludes (RoundBy only rules facts n) i r a)

-- the same over rules as written (T-04)
abbrev pub RoundAsWrittenBy : (PlacedRule → Type 0) → List WrittenRule → List Fact → ℕ → Held
RoundAsWrittenBy only ws facts zero a = (f : Fact) × (f ∈ facts) × (a ≡ map_atom object f)
RoundAsWrittenBy only ws facts (suc n) a =
    RoundAsWrittenBy only ws facts n a
    ⊎ ((p : PlacedRule) × only p × (p ∈ placed_rules ws)
    × ConcludesAsWritten (RoundAsWrittenBy only ws facts n) p.index p.rule a)

-- a step of kind 1 names its rule, by the index among the rules as read
abbrev pub Named : List ExplainedStep → ℕ → Type 0
Named steps i = (e : ExplainedStep) × (e ∈ steps) × (e.step.kind ≡ 1) × (e.step.other ≡ i)

-- a written rule that one of these belongs to: it is read as so many rules from its index on
abbrev pub NamedAsWritten : List ExplainedStep → PlacedRule → Type 0
NamedAsWritten steps p = (j : ℕ) × (j < length (read_as p.helper p.rule)) × Named steps (p.index + j)

-- The rules named suffice: the tuple is an answer of the question in some round in which only they conclude, as read and as written.
pub record Suffice (ws : List WrittenRule) (facts : List Fact) (q : Query) (tuple : List ℕ) (steps : List ExplainedStep) : Type 0 where
  pub as_read : (n : ℕ) × Answer (RoundBy (Named steps) (rules_read ws) facts n) q tuple
  pub as_written : (n : ℕ) × Answer (RoundAsWrittenBy (NamedAsWritten steps) ws facts n) q tuple
