-- What `unbound` means. 01: "A variable is loose if it stands exactly once in the atoms and not among the answer terms."
use Rattle.std.specs.Prelude.{◌≡◌, ◌↔◌, ◌≢◌, ℕ, ◌+◌, ◌≤◌, ◌<◌, Bool, not, List, [], ◌∷◌, T, eqb}
use Rattle.std.proofs.Common.{sym, ap, ◌∙◌, arith}
use Rattle.std.proofs.Math.Decide.{ℕ_discrete}
use Rattle.theory.specs.Lists.{◌∈◌, At, any, count}
use Rattle.theory.specs.Syntax.{Term, var, Atom, role, Query, args, places, same_term}
use Rattle.theory.specs.Rewriting.{unbound}
use Rattle.theory.specs.Laws.Options.{T_and, T_no, T_eqb}
use Rattle.theory.specs.Laws.Lists.{here, any_same}
use Rattle.theory.specs.Laws.Counting.{AtOne, total, total_at, total_two, total_more, count_append, count_flat_map, count_same}
use Rattle.theory.specs.Laws.Counting.{count_once}
use Rattle.theory.proofs.Laws.Syntax.{same_term_iff, places_flat_map}

-- unbound exactly where the variable is counted once and is no answer term
unbound_count : (q : Query) (v : ℕ) → T (unbound q (var v))
    ↔ ((count (same_term (var v)) (places q.atoms) ≡ 1) × (¬ (var v ∈ q.answers)))
unfolding unbound
unbound_count q v = (
  λ t. let s = (T_and (eqb n 1) (not a)).0 t in
      ((T_eqb n 1).0 s.0, λ m. (T_no a).0 s.1 ((any_same same_term same_term_iff (var v) q.answers).1 m)),
  λ s. (T_and (eqb n 1) (not a)).1 ((T_eqb n 1).1 s.0, (T_no a).1 (λ t. s.1 ((any_same same_term same_term_iff (var v) q.answers).0 t))),
)
  where
    n : ℕ
    n = count (same_term (var v)) (places q.atoms)

    a : Bool
    a = any (same_term (var v)) q.answers

-- unbound exactly where the variable stands at one place of the atoms and in no answer term
pub unbound_iff : (q : Query) (v : ℕ) → T (unbound q (var v)) ↔ (AtOne (places q.atoms) (var v) × (¬ (var v ∈ q.answers)))
unbound_iff q v = (
  λ t. let s = (unbound_count q v).0 t in (one.0 s.0, s.1),
  λ s. (unbound_count q v).1 (one.1 s.0, s.1),
)
  where
    one : (count (same_term (var v)) (places q.atoms) ≡ 1) ↔ AtOne (places q.atoms) (var v)
    one = count_once same_term same_term_iff (var v) (places q.atoms)

pub unbound_answers : (q : Query) (u : ℕ) → T (unbound q (var u)) → ¬ (var u ∈ q.answers)
unbound_answers q u t = ((unbound_count q u).0 t).1

-- what is counted over the places of atoms is the total of what each atom counts
count_places : {X : Type 0} (p : X → Bool) (as' : List (Atom X)) → count p (places as') ≡ total (λ a. count p (args a)) as'
count_places p as' = ap (count p) (places_flat_map as') ∙ count_flat_map p args as'

-- how often the variable u stands in an atom
abbrev pub standing : ℕ → Atom Term → ℕ
standing u a = count (same_term (var u)) (args a)

-- an unbound variable stands once in all atoms together
pub unbound_total : (q : Query) (u : ℕ) → T (unbound q (var u)) → total (standing u) q.atoms ≡ 1
unbound_total q u t = sym (count_places (same_term (var u)) q.atoms) ∙ ((unbound_count q u).0 t).0

-- it stands in no two atoms, and not twice in one
pub unbound_elsewhere : (q : Query) (u i j : ℕ) (a b : Atom Term) → T (unbound q (var u)) → At q.atoms i a → At q.atoms j b
    → var u ∈ args a → var u ∈ args b → i ≡ j
unbound_elsewhere q u i j a b t e f m n =
    elim (ℕ_discrete i j) [
      | yes k ↦ k
      | no d ↦
          (let all : total (standing u) q.atoms ≡ 1 = unbound_total q u t in
          let two : standing u a + standing u b ≤ total (standing u) q.atoms = total_two (standing u) q.atoms i j e f d in
          let x : 0 < standing u a = (count_same same_term same_term_iff (var u) (args a)).1 m in
          let y : 0 < standing u b = (count_same same_term same_term_iff (var u) (args b)).1 n in
          absurd (omega arith))
    ]

pub unbound_once : (q : Query) (u i P : ℕ) → T (unbound q (var u)) → At q.atoms i (role P (var u) (var u)) → ⊥
unbound_once q u i P t e =
    let all : total (standing u) q.atoms ≡ 1 = unbound_total q u t in
    let h : standing u (role P (var u) (var u)) ≤ total (standing u) q.atoms = total_at (standing u) q.atoms i e in
    let two : standing u (role P (var u) (var u)) ≡ count (same_term (var u)) (var u ∷ []) + count (same_term (var u)) (var u ∷ []) =
    count_append (same_term (var u)) (var u ∷ []) (var u ∷ []) in
    let one : 0 < count (same_term (var u)) (var u ∷ []) = (count_same same_term same_term_iff (var u) (var u ∷ [])).1 here in
    omega arith

-- a variable that is not unbound though it is no answer term and stands once in an atom stands in another atom too
pub bound_elsewhere : (q : Query) (u i : ℕ) (a : Atom Term) → At q.atoms i a → ¬ T (unbound q (var u)) → standing u a ≡ 1
    → ¬ (var u ∈ q.answers) → (j : ℕ) × (b : Atom Term) × At q.atoms j b × (j ≢ i) × (var u ∈ args b)
bound_elsewhere q u i a e f o n =
    let h : standing u a ≤ total (standing u) q.atoms = total_at (standing u) q.atoms i e in
    let d : total (standing u) q.atoms ≢ 1 = λ k. f ((unbound_count q u).1 (count_places (same_term (var u)) q.atoms ∙ k, n)) in
    let r = total_more (standing u) q.atoms i e (omega arith) in
    (r.0, r.1, r.2, r.3, (count_same same_term same_term_iff (var u) (args r.1)).0 r.4)
