-- 01: alike. "Two questions are alike if a one-to-one renaming of variables carries answer terms to answer terms in order and
-- the set of atoms to the set of atoms": the meaning, and a search that decides it.
use Rattle.std.specs.Prelude.{◌≡◌, ℕ, Bool, true, false, not, ◌&&◌, List, [], ◌∷◌, map, eqb, ltb}
use Rattle.std.proofs.Math.Option.{Option, none, some}
use Rattle.theory.specs.Lists.{◌∈◌, pick, any, all, without, pairwise, first_some, is_some, Pairs, lookup}
use Rattle.theory.specs.Syntax.{Term, var, const, Atom, Query, terms, map_atom, rename, on_atoms}

-- A one-to-one renaming of the variables of p that carries p to q. Variables that do not stand in p do not matter.
pub record Alike (p q : Query) : Type 0 where
  pub to : ℕ → ℕ
  pub one_to_one : (u v : ℕ) → var u ∈ terms p → var v ∈ terms p → to u ≡ to v → u ≡ v
  pub on_answers : map (rename to) p.answers ≡ q.answers
  pub into : (a : Atom Term) → a ∈ p.atoms → map_atom (rename to) a ∈ q.atoms
  pub onto : (b : Atom Term) → b ∈ q.atoms → (a : Atom Term) × (a ∈ p.atoms) × (map_atom (rename to) a ≡ b)

-- ---- the search: source variables rising, targets rising, so that the first renaming found is the smallest (T-05)

-- a variable put into an ascending list that does not have it yet
unfoldable pub insert_var : ℕ → List ℕ → List ℕ
insert_var v [] = v ∷ []
insert_var v (u ∷ us) = pick (ltb v u) (v ∷ u ∷ us) (pick (eqb v u) (u ∷ us) (u ∷ insert_var v us))

-- the variables among the terms, ascending, each once
unfoldable pub variables : List Term → List ℕ
unfolding insert_var
variables [] = []
variables (var v ∷ ts) = insert_var v (variables ts)
variables (const c ∷ ts) = variables ts

-- No answer term and no atom speaks against a renaming in the making, given the test whether a term of p may still become one of q:
-- each answer term may become its partner, each atom of the one query some atom of the other.
unfoldable pub promising : (Term → Term → Bool) → Query → Query → Bool
unfolding on_atoms pairwise any all
promising may p q =
    pairwise may p.answers q.answers
    && all (λ a. any (λ b. on_atoms may a b) q.atoms) p.atoms
    && all (λ b. any (λ a. on_atoms may a b) p.atoms) q.atoms

-- A renaming in the making is pairs of a source variable and its target. v may still go to w: it does so already, or neither
-- is taken. So partly assigned atoms count.
unfoldable pub may_go : Option ℕ → Bool → ℕ → Bool
may_go none taken w = not taken
may_go (some u) taken w = eqb u w

unfoldable pub may_be : Pairs → Term → Term → Bool
unfolding may_go lookup any
may_be ps (var v) (var w) = may_go (lookup ps v) (any (λ p. eqb p.1 w) ps) w
may_be ps (var v) (const d) = false
may_be ps (const c) (var w) = false
may_be ps (const c) (const d) = eqb c d

-- the first completion of the pairs that stays promising: sources still to assign, targets still free
unfoldable pub complete : Query → Query → List ℕ → List ℕ → Pairs → Option Pairs
unfolding promising may_be first_some without
complete p q [] free ps = some ps
complete p q (v ∷ sources) free ps =
    first_some (λ w.
    let next = (v, w) ∷ ps in
    elim (promising (may_be next) p q) [ true ↦ complete p q sources (without (eqb w) free) next | false ↦ none ]) free

unfoldable pub find_renaming : Query → Query → Option Pairs
unfolding complete promising may_be variables
find_renaming p q =
    elim (promising (may_be []) p q) [ true ↦ complete p q (variables (terms p)) (variables (terms q)) [] | false ↦ none ]

-- the decision: true exactly where there is a renaming (Laws.RenamingDecided)
unfoldable pub alike : Query → Query → Bool
unfolding find_renaming is_some
alike p q = is_some (find_renaming p q)
