-- 02, T-02, "Our own unions": the union that the register writes for rules and a question, and when it would have too many members.
use Rattle.std.specs.Prelude.{◌≡◌, ℕ, zero, suc, ◌<◌, length}
use Rattle.std.proofs.Math.Option.{Option, none, some}
use mathlib.Core.List.{List, [], ◌∷◌, ◌++◌, flat_map}
use Rattle.std.proofs.Math.ListN.{get_elem?}
use Rattle.theory.specs.Lists.{◌∈◌, At, pick, any, numbers}
use Rattle.theory.specs.Syntax.{Rule, Query, Step, Member, UCQ}
use Rattle.theory.specs.Rewriting.{rule_step, merge_step, StepTo}
use Rattle.theory.specs.Renaming.{Alike, alike}
use Rattle.theory.specs.Union.{no_step}

-- ---- the union that is written

-- what a step leads to, with the step beside it, where it applies
unfoldable pub stepped : Step → Option Query → List Member
stepped s none = []
stepped s (some r) = record { step = s; query = r } ∷ []

-- rule j on atom i of member k; atom i of member k merged with the later atom j
unfoldable pub by_rule : List Rule → ℕ → Query → ℕ → ℕ → List Member
unfolding stepped rule_step
by_rule rules k q i j = stepped record { kind = 1; parent = k; atom = i; other = j } (rule_step rules q i j)

unfoldable pub by_merge : ℕ → Query → ℕ → ℕ → List Member
unfolding stepped merge_step
by_merge k q i j = stepped record { kind = 2; parent = k; atom = i; other = j } (merge_step q i j)

-- "atoms are taken in order with rules in order, then pairs of atoms by the earlier and then the later one"
unfoldable pub steps_from : List Rule → ℕ → Query → List Member
unfolding by_rule by_merge numbers flat_map
steps_from rules k q =
    let indices = numbers 0 (length q.atoms) in
    flat_map (λ i. flat_map (by_rule rules k q i) (numbers 0 (length rules))) indices
    ++ flat_map (λ i. flat_map (by_merge k q i) indices) indices

-- "and a result alike to none is appended"
unfoldable pub appended : UCQ → Member → UCQ
unfolding any alike
appended union m = pick (any (λ n. alike m.query n.query) union) union (union ++ (m ∷ []))

-- one after another: what was appended counts for the next
unfoldable pub appended_all : UCQ → List Member → UCQ
unfolding appended
appended_all union [] = union
appended_all union (m ∷ ms) = appended_all (appended union m) ms

-- what member k leads to, if there is a member k
unfoldable pub with_steps_of : List Rule → ℕ → Option Member → UCQ → UCQ
unfolding appended_all steps_from
with_steps_of rules k none union = union
with_steps_of rules k (some m) union = appended_all union (steps_from rules k m.query)

-- "Members are taken in index order": the union when the first n have been taken. Member 0 is the question with no step beside it.
unfoldable pub grown : List Rule → Query → ℕ → UCQ
unfolding with_steps_of
grown rules q zero = record { step = no_step; query = q } ∷ []
grown rules q (suc n) = let union = grown rules q n in with_steps_of rules n (get_elem? union n) union

-- THE UNION that is written where so many members are allowed: all of them have been taken. (If it is longer, it is not written.)
unfoldable pub written_union : ℕ → List Rule → Query → UCQ
unfolding grown
written_union most rules q = grown rules q most

-- ---- 15: "more than 512 unlike questions"

-- r is reached from the question by n steps; by zero or more steps
abbrev pub ReachedIn : List Rule → Query → ℕ → Query → Type 0
ReachedIn rules q zero r = r ≡ q
ReachedIn rules q (suc n) r = (p : Query) × ReachedIn rules q n p × StepTo rules p r

abbrev pub Reached : List Rule → Query → Query → Type 0
Reached rules q r = (n : ℕ) × ReachedIn rules q n r

-- no two are alike
abbrev pub Unlike : List Query → Type 0
Unlike qs = (i j : ℕ) (p r : Query) → i < j → At qs i p → At qs j r → Alike p r → ⊥

-- more than so many questions, no two of them alike, each reached from the question; the question itself counts
abbrev pub MoreThan : ℕ → List Rule → Query → Type 0
MoreThan most rules q = (qs : List Query) × (most < length qs) × Unlike qs × ((r : Query) → r ∈ qs → Reached rules q r)
