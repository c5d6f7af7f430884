-- Accepted unions: demand 2's meaning, and the check that gives the first of refusals 7 to 11 that applies.
use Rattle.std.specs.Prelude.{◌≡◌, ◌⊎◌, ◌≢◌, ℕ, suc, ◌≤◌, ◌<◌, max, Bool, true, false, not, ◌&&◌, ◌||◌, eqb, ltb, length, get_or, drop}
use Rattle.std.proofs.Math.Option.{Option, none, some}
use mathlib.Core.List.{List, [], ◌∷◌, ◌++◌, foldr}
use Rattle.std.proofs.Math.ListN.{get_elem?}
use Rattle.theory.specs.Lists.{◌∈◌, At, Unrepeated, pick, and_then, any, pairwise, is_some}
use Rattle.theory.specs.Refusals.{first_refusal}
use Rattle.theory.specs.Syntax.{Term, var, Atom, Rule, Query, Step, Member, UCQ, places, map_atom, subst_term, same_term, same_atom}
use Rattle.theory.specs.Rewriting.{rule_step, merge_step, steps, StepTo, rewrite_atom}
use Rattle.theory.specs.Renaming.{Alike, alike}

-- ---- what refusals 4 to 6 leave: each member by itself

-- every answer variable stands in an atom
abbrev pub Safe : Query → Type 0
Safe q = (v : ℕ) → var v ∈ q.answers → var v ∈ places q.atoms

-- a query with no atom twice, every answer variable in an atom, and so many answer terms
pub record SoundQuery (arity : ℕ) (q : Query) : Type 0 where
  pub distinct : Unrepeated q.atoms
  pub safe : Safe q
  pub arity_is : length q.answers ≡ arity

-- "a member would meet 3, 4 or 5, or a member's answer-term count differs from the question's": none of these
abbrev pub SoundUnion : Query → UCQ → Type 0
SoundUnion q union = (m : Member) → m ∈ union → SoundQuery (length q.answers) m.query

-- ---- the written step

-- What the step written beside member k yields. "Kind 1 uses rule 'other' on the parent's atom. Kind 2 merges 'atom' with the
-- later atom 'other'." The parent is an earlier member, as written in the sheet.
unfoldable pub yield : List Rule → UCQ → ℕ → Step → Option Query
unfolding rule_step merge_step
yield rules union k s =
    pick (ltb s.parent k)
    (and_then (get_elem? union s.parent) (λ p.
    pick (eqb s.kind 1) (rule_step rules p.query s.atom s.other)
    (pick (eqb s.kind 2) (merge_step p.query s.atom s.other) none)))
    none

-- r is what the step written beside member k yields
abbrev pub Yields : List Rule → UCQ → ℕ → Step → Query → Type 0
Yields rules union k s r =
    (s.parent < k) × (p : Member) × At union s.parent p
    × (((s.kind ≡ 1) × (rule_step rules p.query s.atom s.other ≡ some r))
    ⊎ ((s.kind ≡ 2) × (merge_step p.query s.atom s.other ≡ some r)))

-- ---- the meaning of acceptance

abbrev pub no_step : Step
no_step = record { kind = 0; parent = 0; atom = 0; other = 0 }

-- Demand 2: "A union is accepted exactly when its first member is the question with no step beside it, each later one comes
-- from an earlier one by the published DL-Lite_R rewriting step (PerfectRef) written beside it, no two are alike up to
-- variable names, and no step leads outside it". Alike is a renaming, not the test.
pub record Accepted (rules : List Rule) (q : Query) (union : UCQ) : Type 0 where
  pub first : At union 0 (record { step = no_step; query = q })
  pub later : (k : ℕ) (m : Member) → 0 < k → At union k m → (r : Query) × Yields rules union k m.step r × Alike r m.query
  pub unlike : (i j : ℕ) (m n : Member) → i < j → At union i m → At union j n → Alike m.query n.query → ⊥
  pub closed : (m : Member) (r : Query) → m ∈ union → StepTo rules m.query r → (n : Member) × (n ∈ union) × Alike r n.query

-- ---- the conditions of refusals 7 to 11, in 01's words

-- 7: "Member 0 has a nonzero step, or answer terms or atoms that differ from the question's in their order." (A union of no
-- members meets 6.)
abbrev pub Meets7 : Query → UCQ → Type 0
Meets7 q union =
    (union ≡ [])
    ⊎ ((m : Member) × At union 0 m
    × ((m.step ≢ no_step) ⊎ ((m.query.answers ≢ q.answers) ⊎ (m.query.atoms ≢ q.atoms))))

-- two atoms whose terms can be made equal
abbrev pub Unifiable : Atom Term → Atom Term → Type 0
Unifiable a b = (σ : ℕ → Term) × (map_atom (subst_term σ) a ≡ map_atom (subst_term σ) b)

-- the step names an atom or a rule that there is not
abbrev pub MissingIndex : List Rule → Query → Step → Type 0
MissingIndex rules p s =
    (length p.atoms ≤ s.atom)
    ⊎ (((s.kind ≡ 1) × (length rules ≤ s.other)) ⊎ ((s.kind ≡ 2) × (length p.atoms ≤ s.other)))

-- the rule does not fit the atom; the second atom is not a later one, or the two cannot be made equal
abbrev pub DoesNotApply : List Rule → Query → Step → Type 0
DoesNotApply rules p s =
    ((s.kind ≡ 1) × (r : Rule) × (a : Atom Term) × At rules s.other r × At p.atoms s.atom a × (rewrite_atom p r a ≡ none))
    ⊎ ((s.kind ≡ 2)
    × ((s.other ≤ s.atom)
    ⊎ ((a b : Atom Term) × At p.atoms s.atom a × At p.atoms s.other b × (¬ Unifiable a b))))

-- 8: "A later member's step has kind 0 or 3, a parent not earlier, an index that doesn't exist, or doesn't apply."
abbrev pub Meets8 : List Rule → UCQ → Type 0
Meets8 rules union =
    (k : ℕ) × (m : Member) × (0 < k) × At union k m
    × (((m.step.kind ≢ 1) × (m.step.kind ≢ 2))
    ⊎ ((k ≤ m.step.parent)
    ⊎ ((p : Member) × At union m.step.parent p × (MissingIndex rules p.query m.step ⊎ DoesNotApply rules p.query m.step))))

-- 9: "A step's result isn't alike to its member."
abbrev pub Meets9 : List Rule → UCQ → Type 0
Meets9 rules union =
    (k : ℕ) × (m : Member) × (r : Query) × (0 < k) × At union k m × Yields rules union k m.step r × (¬ Alike r m.query)

-- 10: "Two members are alike."
abbrev pub Meets10 : UCQ → Type 0
Meets10 union = (i j : ℕ) × (m n : Member) × (i < j) × At union i m × At union j n × Alike m.query n.query

-- 11: "A step from some member leads to no question alike to a member."
abbrev pub Meets11 : List Rule → UCQ → Type 0
Meets11 rules union =
    (m : Member) × (r : Query) × (m ∈ union) × StepTo rules m.query r × ((n : Member) → n ∈ union → ¬ Alike r n.query)

abbrev pub conditions : List Rule → Query → UCQ → List {1} (ℕ × Type 0)
conditions rules q union =
    (7, Meets7 q union)
    ∷ (8, Meets8 rules union)
    ∷ (9, Meets9 rules union)
    ∷ (10, Meets10 union)
    ∷ (11, Meets11 rules union)
    ∷ []

-- ---- the check

unfoldable pub same_query : Query → Query → Bool
unfolding pairwise same_term same_atom
same_query p q = pairwise same_term p.answers q.answers && pairwise same_atom p.atoms q.atoms

unfoldable pub zero_step : Step → Bool
zero_step s = eqb s.kind 0 && eqb s.parent 0 && eqb s.atom 0 && eqb s.other 0

-- some member from number k on passes the test, which is told the member's number
unfoldable pub any_from : (ℕ → Member → Bool) → ℕ → UCQ → Bool
any_from test k [] = false
any_from test k (m ∷ ms) = test k m || any_from test (suc k) ms

-- 7: "Member 0 has a nonzero step, or answer terms or atoms that differ from the question's in their order."
unfoldable pub refuses7 : List Rule → Query → UCQ → Bool
unfolding zero_step same_query
refuses7 rules q [] = true
refuses7 rules q (m ∷ ms) = not (zero_step m.step && same_query m.query q)

-- 8: "A later member's step has kind 0 or 3, a parent not earlier, an index that doesn't exist, or doesn't apply."
unfoldable pub refuses8 : List Rule → Query → UCQ → Bool
unfolding any_from is_some yield
refuses8 rules q union = any_from (λ k m. not (is_some (yield rules union k m.step))) 1 (drop 1 union)

unfoldable pub yields_unlike : Option Query → Query → Bool
unfolding alike
yields_unlike none q = false
yields_unlike (some r) q = not (alike r q)

-- 9: "A step's result isn't alike to its member."
unfoldable pub refuses9 : List Rule → Query → UCQ → Bool
unfolding any_from yields_unlike yield
refuses9 rules q union = any_from (λ k m. yields_unlike (yield rules union k m.step) m.query) 1 (drop 1 union)

-- 10: "Two members are alike."
unfoldable pub refuses10 : List Rule → Query → UCQ → Bool
unfolding any alike
refuses10 rules q [] = false
refuses10 rules q (m ∷ ms) = any (λ n. alike m.query n.query) ms || refuses10 rules q ms

-- 11: "A step from some member leads to no question alike to a member."
unfoldable pub refuses11 : List Rule → Query → UCQ → Bool
unfolding any steps alike
refuses11 rules q union = any (λ m. any (λ r. not (any (λ n. alike r n.query) union)) (steps rules m.query)) union

-- "The first entry whose condition holds decides", each over the whole union
unfoldable pub check : List Rule → Query → UCQ → Option ℕ
unfolding first_refusal refuses7 refuses8 refuses9 refuses10 refuses11
check rules q union =
    first_refusal
    ((7, refuses7 rules q union)
    ∷ (8, refuses8 rules q union)
    ∷ (9, refuses9 rules q union)
    ∷ (10, refuses10 rules q union)
    ∷ (11, refuses11 rules q union)
    ∷ [])

-- ---- how many rule steps stand behind a member

-- the numbers of rule steps behind the members so far, and those of the rest
unfoldable pub depths_after : List ℕ → UCQ → List ℕ
depths_after known [] = known
depths_after known (m ∷ ms) =
    depths_after (known ++ (pick (eqb m.step.kind 1) (suc (get_or known m.step.parent 0)) (get_or known m.step.parent 0) ∷ [])) ms

-- the largest number of rule steps behind any member
unfoldable pub depth : UCQ → ℕ
unfolding depths_after
depth union = foldr max 0 (depths_after [] union)
