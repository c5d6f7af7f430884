-- 01, "Rounds and matches": the chase rounds over rules as read, the answers of a query in a round, and the two readers of demand 3. The
-- second follows rules as written since T-04 (QualifiedChase); here it is over rules as read, and the main theorem is about that.
use Rattle.std.specs.Prelude.{◌≡◌, ℕ, zero, suc, ◌⊎◌, List, [], map}
use Rattle.theory.specs.Lists.{◌∈◌, At}
use Rattle.theory.specs.Syntax.{Term, Atom, role, Rule, concept_inclusion, role_inclusion, Query, Member, UCQ, Fact, Thing, object}
use Rattle.theory.specs.Syntax.{null, map_atom, value, instance, oriented}
use Rattle.theory.specs.LostTags.{Answerable}

-- what is held: a set of atoms over things
abbrev pub Held : Type 1
Held = Atom Thing → Type 0

-- What the rule at index i concludes from what is held. 01: "A right form 1 or 2 gives the bearer a role to or from an unnamed
-- thing fixed by rule index and bearer".
abbrev pub Concludes : Held → ℕ → Rule → Atom Thing → Type 0
Concludes H i (concept_inclusion left right) a = (x y : Thing) × H (instance left x y) × (a ≡ instance right x (null i x))
Concludes H i (role_inclusion left exchanged right) a = (x y : Thing) × H (role left x y) × (a ≡ oriented exchanged right x y)

-- 01: "Round 0 is the facts. Each round adds every conclusion of every rule."
abbrev pub Round : List Rule → List Fact → ℕ → Held
Round rules facts zero a = (f : Fact) × (f ∈ facts) × (a ≡ map_atom object f)
Round rules facts (suc n) a = Round rules facts n a ⊎ ((i : ℕ) × (r : Rule) × At rules i r × Concludes (Round rules facts n) i r a)

-- 01: "A match sends variables to things, objects to themselves and every atom to something held in that round. A tuple of
-- objects is an answer of a question in a round if some match there sends the question's answer terms to it, in order."
pub record Answer (H : Held) (q : Query) (tuple : List ℕ) : Type 0 where
  pub match : ℕ → Thing
  pub holds : (a : Atom Term) → a ∈ q.atoms → H (map_atom (value match) a)
  pub sends : map (value match) q.answers ≡ map object tuple

-- the tuple is an answer of some member's question in round 0, which no rule takes part in
abbrev pub OfSomeMember : UCQ → List Fact → List ℕ → Type 0
OfSomeMember union facts tuple = (m : Member) × (m ∈ union) × Answer (Round [] facts zero) m.query tuple

-- the tuple is an answer of the question in round n, for some n
abbrev pub InSomeRound : List Rule → Query → List Fact → List ℕ → Type 0
InSomeRound rules q facts tuple = (n : ℕ) × Answer (Round rules facts n) q tuple

-- The first reader has the union and the facts alone. 02, T-01: "Neither reader then finds such a tuple", one that holds a lost tag.
abbrev pub FirstReader : UCQ → List Fact → List ℕ → Type 0
FirstReader union facts tuple = Answerable tuple × OfSomeMember union facts tuple

-- The second reader over rules as read has rules, question and facts, and goes on from round to round.
abbrev pub SecondReader : List Rule → Query → List Fact → List ℕ → Type 0
SecondReader rules q facts tuple = Answerable tuple × InSomeRound rules q facts tuple
