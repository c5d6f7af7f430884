-- 02, T-04: the rounds over rules as written, and the second reader of demand 3 from now on, "giving each bearer one unnamed thing that has
-- both role and filler". It knows nothing of helpers.
use Rattle.std.specs.Prelude.{◌≡◌, ℕ, zero, suc, ◌⊎◌, List}
use Rattle.theory.specs.Lists.{◌∈◌}
use Rattle.theory.specs.Syntax.{Atom, concept, Query, Fact, Thing, object, null, map_atom, instance, oriented}
use Rattle.theory.specs.LostTags.{Answerable}
use Rattle.theory.specs.Chase.{Held, Concludes, Answer}
use Rattle.theory.specs.Qualified.{WrittenRule, plain, qualified, PlacedRule, placed_rules}

-- What a written rule concludes from what is held. The unnamed thing is fixed by the bearer and by i, the index of the rule's first rule
-- as read; role and filler come in one round, of one thing.
abbrev pub ConcludesAsWritten : Held → ℕ → WrittenRule → Atom Thing → Type 0
ConcludesAsWritten H i (plain rule) a = Concludes H i rule a
ConcludesAsWritten H i (qualified left exchanged P filler) a =
    (x y : Thing) × H (instance left x y) × ((a ≡ oriented exchanged P x (null i x)) ⊎ (a ≡ concept filler (null i x)))

-- "Round 0 is the facts. Each round adds every conclusion of every rule."
abbrev pub RoundAsWritten : List WrittenRule → List Fact → ℕ → Held
RoundAsWritten ws facts zero a = (f : Fact) × (f ∈ facts) × (a ≡ map_atom object f)
RoundAsWritten ws facts (suc n) a =
    RoundAsWritten ws facts n a
    ⊎ ((p : PlacedRule) × (p ∈ placed_rules ws) × ConcludesAsWritten (RoundAsWritten ws facts n) p.index p.rule a)

-- the tuple is an answer of the question in round n, for some n
abbrev pub InSomeRoundAsWritten : List WrittenRule → Query → List Fact → List ℕ → Type 0
InSomeRoundAsWritten ws q facts tuple = (n : ℕ) × Answer (RoundAsWritten ws facts n) q tuple

-- The second reader has the rules as written, question and facts, and goes on from round to round. It finds no tuple that holds a lost tag
-- (T-01).
abbrev pub SecondReaderAsWritten : List WrittenRule → Query → List Fact → List ℕ → Type 0
SecondReaderAsWritten ws q facts tuple = Answerable tuple × InSomeRoundAsWritten ws q facts tuple
