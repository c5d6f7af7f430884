-- 01, "The steps": the steps of PerfectRef on a query, as functions.
use Rattle.std.specs.Prelude.{ℕ, zero, suc, max, ◌≡◌, Bool, false, not, ◌&&◌, ◌⊎◌, eqb, leb, ltb, length, set}
use Rattle.std.proofs.Math.Option.{Option, none, some}
use mathlib.Core.List.{List, [], ◌∷◌, ◌++◌, map, flat_map}
use Rattle.std.proofs.Math.ListN.{get_elem?}
use Rattle.theory.specs.Lists.{pick, guard, and_then, any, count, once, to_list, numbers}
use Rattle.theory.specs.Syntax.{Term, var, const, Atom, concept, role, Basic, named, has, has_inverse, Rule, concept_inclusion}
use Rattle.theory.specs.Syntax.{role_inclusion, Query, places, terms, map_atom, subst_term, instance, oriented, same_term, same_atom}

-- 01: loose. "A variable is loose if it stands exactly once in the atoms and not among the answer terms." Places are counted,
-- so x in P(x,x) stands twice.
unfoldable pub unbound : Query → Term → Bool
unfolding count any same_term
unbound q (var v) = eqb (count (same_term (var v)) (places q.atoms)) 1 && not (any (same_term (var v)) q.answers)
unbound q (const c) = false

-- more than every variable among the terms
unfoldable pub bound : List Term → ℕ
bound [] = zero
bound (var v ∷ ts) = max (suc v) (bound ts)
bound (const c ∷ ts) = bound ts

-- the first number from v on that is no variable among the terms, of so many that are tried
unfoldable pub lowest : ℕ → ℕ → List Term → ℕ
unfolding any same_term
lowest zero v ts = v
lowest (suc tries) v ts = let next = lowest tries (suc v) ts in pick (any (same_term (var v)) ts) next v

-- 01: "The fresh variable z is the lowest number that stands nowhere in the question before the step."
unfoldable pub fresh : Query → ℕ
unfolding bound lowest
fresh q = lowest (bound (terms q)) zero (terms q)

-- The term t of which the atom says the right description of a rule, if the rule fits the atom: "Concept atom A(t), kind 1
-- rule with right A"; "Role atom P(t,u), u loose, right form 1 of P"; "Role atom P(u,t), u loose, right form 2 of P".
unfoldable pub bearer : Query → Basic → Atom Term → Option Term
unfolding unbound
bearer q (named A) (concept B t) = guard (eqb A B) t
bearer q (named A) (role Q t u) = none
bearer q (has P) (concept B t) = none
bearer q (has P) (role Q t u) = guard (eqb P Q && unbound q u) t
bearer q (has_inverse P) (concept B t) = none
bearer q (has_inverse P) (role Q u t) = guard (eqb P Q && unbound q u) t

-- What a rule makes of an atom of q, if it fits: "the left description of t", with the fresh variable for "something"; or "the
-- left role, arguments kept or exchanged by the right form".
unfoldable pub rewrite_atom : Query → Rule → Atom Term → Option (Atom Term)
unfolding bearer fresh
rewrite_atom q (concept_inclusion left right) a = and_then (bearer q right a) (λ t. some (instance left t (var (fresh q))))
rewrite_atom q (role_inclusion left exchanged right) (concept B t) = none
rewrite_atom q (role_inclusion left exchanged right) (role Q t u) = guard (eqb right Q) (oriented exchanged left t u)

-- ---- the most general replacement

-- the variable v replaced by t
unfoldable pub replace : ℕ → Term → ℕ → Term
replace v t u = pick (eqb u v) t (var u)

-- the substitution σ, and then v replaced by t
unfoldable pub after : (ℕ → Term) → ℕ → Term → ℕ → Term
unfolding replace
after σ v t u = subst_term (replace v t) (σ u)

-- Two terms made equal. 01 leaves free which most general replacement is made; as in T-02 an object is kept before a
-- variable, and the lower of two variables. Every choice leads to alike results (Laws.Merging).
unfoldable pub join : (ℕ → Term) → Term → Term → Option (ℕ → Term)
unfolding after
join σ (const c) (const d) = guard (eqb c d) σ
join σ (const c) (var v) = some (after σ v (const c))
join σ (var u) (const d) = some (after σ u (const d))
join σ (var u) (var v) = some (pick (leb u v) (after σ v (var u)) (after σ u (var v)))

-- σ made to send s and t to one term too
unfoldable pub bind : (ℕ → Term) → Term → Term → Option (ℕ → Term)
unfolding join
bind σ s t = join σ (subst_term σ s) (subst_term σ t)

-- the most general unifier of two atoms: "two atoms of one predicate whose terms can be made equal"
unfoldable pub unify : Atom Term → Atom Term → Option (ℕ → Term)
unfolding bind
unify (concept A s) (concept B t) = pick (eqb A B) (bind var s t) none
unify (concept A s) (role Q t t') = none
unify (role P s s') (concept B t) = none
unify (role P s s') (role Q t t') = pick (eqb P Q) (and_then (bind var s t) (λ σ. bind σ s' t')) none

-- ---- steps

-- "After each step equal atoms are kept once." 01 leaves their order free; as in T-02 the later of two equal atoms goes.
unfoldable pub keep_once : List (Atom Term) → List (Atom Term)
unfolding once same_atom
keep_once = once same_atom

-- "the most general such replacement is made in atoms and answer terms alike"
unfoldable pub substitute : (ℕ → Term) → Query → Query
unfolding keep_once
substitute σ q = record { answers = map (subst_term σ) q.answers; atoms = keep_once (map (map_atom (subst_term σ)) q.atoms) }

-- the query with the atom at index i changed to b
unfoldable pub change_atom : Query → ℕ → Atom Term → Query
unfolding keep_once
change_atom q i b = record { answers = q.answers; atoms = keep_once (set q.atoms i b) }

-- a step of kind 1: rule k on atom i
unfoldable pub rule_step : List Rule → Query → ℕ → ℕ → Option Query
unfolding rewrite_atom change_atom
rule_step rules q i k =
    and_then (get_elem? rules k) (λ r.
    and_then (get_elem? q.atoms i) (λ a.
    and_then (rewrite_atom q r a) (λ b. some (change_atom q i b))))

-- a step of kind 2: atom i merged with the later atom j
unfoldable pub merge_step : Query → ℕ → ℕ → Option Query
unfolding unify substitute
merge_step q i j =
    pick (ltb i j)
    (and_then (get_elem? q.atoms i) (λ a.
    and_then (get_elem? q.atoms j) (λ b.
    and_then (unify a b) (λ σ. some (substitute σ q)))))
    none

-- All results of a step from q: atoms in order with rules in order, then pairs of atoms by the earlier and then the later.
unfoldable pub steps : List Rule → Query → List Query
unfolding rule_step merge_step to_list numbers flat_map
steps rules q =
    let indices = numbers zero (length q.atoms) in
    flat_map (λ i. flat_map (λ k. to_list (rule_step rules q i k)) (numbers zero (length rules))) indices
    ++ flat_map (λ i. flat_map (λ j. to_list (merge_step q i j)) indices) indices

-- r is the result of some step from q
abbrev pub StepTo : List Rule → Query → Query → Type 0
StepTo rules q r = ((i k : ℕ) × (rule_step rules q i k ≡ some r)) ⊎ ((i j : ℕ) × (merge_step q i j ≡ some r))
