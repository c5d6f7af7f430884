-- 02, T-06, "Each answer with the rules behind it": the lowest member that yields a tuple, the steps from it back to member 0, and what
-- following them from member 0 forward comes to.
use Rattle.std.specs.Prelude.{◌≡◌, ℕ, zero, ◌<◌, not, List, [], ◌∷◌, ◌++◌, map, eqb, drop}
use Rattle.std.proofs.Math.Option.{Option, none, some}
use Rattle.std.proofs.Math.ListN.{get_elem?}
use Rattle.theory.specs.Lists.{At, pick, and_then, without}
use Rattle.theory.specs.Syntax.{Term, Atom, Rule, Query, Step, Member, UCQ, Fact, map_atom, rename, same_atom}
use Rattle.theory.specs.LostTags.{Answerable}
use Rattle.theory.specs.Chase.{Round, Answer}
use Rattle.theory.specs.Rewriting.{rule_step, merge_step}
use Rattle.theory.specs.Union.{Yields}
use Rattle.theory.specs.Targets.{target_at, Smallest}

-- A place of the list: "a struct of member, kind, parent, atom and other. Each step also carries the renaming". Kind, parent, atom and
-- other are those of the step.
pub record ExplainedStep : Type 0 where
  pub member : ℕ
  pub step : Step
  pub targets : List ℕ

-- ---- "take the lowest member that yields it"

-- the query "yields the tuple from the facts alone"; a tuple that holds a lost tag is no answer (T-01)
abbrev pub YieldsTuple : List Fact → List ℕ → Query → Type 0
YieldsTuple facts tuple q = Answerable tuple × Answer (Round [] facts zero) q tuple

-- member k is the lowest that does
pub record Lowest (facts : List Fact) (union : UCQ) (tuple : List ℕ) (k : ℕ) : Type 0 where
  pub lowest : Member
  pub there : At union k lowest
  pub yields : YieldsTuple facts tuple lowest.query
  pub lower : (j : ℕ) (m : Member) → j < k → At union j m → YieldsTuple facts tuple m.query → ⊥

-- ---- "fill a lent list of steps from that member back to member 0"

-- the place of member k: the step written beside it, and "the renaming (T-05) from its result, named as in T-02, to its member"
pub record PlaceOf (rules : List Rule) (union : UCQ) (k : ℕ) (e : ExplainedStep) : Type 0 where
  pub reached : Member
  pub result : Query
  pub there : At union k reached
  pub number_is : e.member ≡ k
  pub written : e.step ≡ reached.step
  pub made : Yields rules union k reached.step result
  pub renamed : Smallest result reached.query e.targets

-- from member k on by the written parents, back to member 0, which "takes no place"
abbrev pub WayBack : List Rule → UCQ → ℕ → List ExplainedStep → Type 0
WayBack rules union k [] = k ≡ 0
WayBack rules union k (e ∷ es) = (0 < k) × PlaceOf rules union k e × WayBack rules union e.step.parent es

-- the steps behind a tuple: those from the lowest member that yields it
pub record Explains (rules : List Rule) (facts : List Fact) (union : UCQ) (tuple : List ℕ) (steps : List ExplainedStep) : Type 0 where
  pub from : ℕ
  pub lowest : Lowest facts union tuple from
  pub way : WayBack rules union from steps

-- ---- "Following the list from member 0 forward, each renamed result put in its member's atom order"

-- what a step makes of the query that it starts from
abbrev pub step_from : List Rule → Query → Step → Option Query
step_from rules q s =
    pick (eqb s.kind 1) (rule_step rules q s.atom s.other)
    (pick (eqb s.kind 2) (merge_step q s.atom s.other) none)

-- atoms in the order in which they stand in another list; those that do not stand there come last
unfoldable pub in_order_of : List (Atom Term) → List (Atom Term) → List (Atom Term)
unfolding without same_atom
in_order_of [] atoms = atoms
in_order_of (a ∷ order) atoms = without (λ b. not (same_atom a b)) atoms ++ in_order_of order (without (same_atom a) atoms)

-- a query with its variables renamed, its atoms in the order of another's
abbrev pub renamed_as : (ℕ → ℕ) → Query → Query → Query
renamed_as to q other = record {
  answers = map (rename to) q.answers;
  atoms = in_order_of other.atoms (map (map_atom (rename to)) q.atoms);
}

-- one place followed, from the query that its step starts from
unfoldable pub replay_step : List Rule → UCQ → ExplainedStep → Query → Option Query
unfolding rule_step merge_step in_order_of
replay_step rules union e p =
    and_then (step_from rules p e.step) (λ r.
    and_then (get_elem? union e.member) (λ m. some (renamed_as (target_at e.targets) r m.query)))

-- all of them from member 0, the question, forward: the last place is followed first
unfoldable pub replay : List Rule → UCQ → Query → List ExplainedStep → Option Query
unfolding replay_step
replay rules union q [] = some q
replay rules union q (e ∷ es) = and_then (replay rules union q es) (replay_step rules union e)

-- it "must arrive at a question that yields the tuple from the facts alone", and at each place at the member as read
pub record Replays (rules : List Rule) (facts : List Fact) (union : UCQ) (q : Query) (tuple : List ℕ)
    (steps : List ExplainedStep) : Type 0 where
  pub at_each : (i : ℕ) (e : ExplainedStep) → At steps i e
      → (m : Member) × At union e.member m × (replay rules union q (drop i steps) ≡ some m.query)
  pub arrives : (r : Query) × (replay rules union q steps ≡ some r) × YieldsTuple facts tuple r
