-- What every step keeps. The result has no atom twice, as many answer terms, no more atoms and at least one, and every answer variable
-- in an atom. Whatever holds of its terms and the fresh variable, and of its names and those of the rules' left sides, still holds.
use Rattle.std.specs.Prelude.{◌≡◌, refl, ℕ, ◌≤◌, List, map, set}
use Rattle.std.proofs.Common.{sym, ap, ◌∙◌, inl, inr, length-set}
use Rattle.std.proofs.Math.Path.{subst}
use Rattle.std.proofs.Math.Decide.{ℕ_discrete}
use Rattle.std.proofs.Math.Option.{some}
use mathlib.Core.List.Memᴰ
use Rattle.std.proofs.Math.ListN.{length, length-map}
use Rattle.theory.specs.Lists.{◌∈◌, At, Unrepeated}
use Rattle.theory.specs.Syntax.{Term, var, Atom, concept, role, Rule, Query, args, terms, map_atom, subst_term, same_atom}
use Rattle.theory.specs.Rewriting.{fresh, rewrite_atom, unify, keep_once, change_atom, substitute, StepTo}
use Rattle.theory.specs.Union.{Safe, SoundQuery}
use Rattle.theory.specs.Laws.Lists.{forall_cons, at_mem, mem_at, at_equal, set_at, set_elsewhere, once_few, once_some}
use Rattle.theory.proofs.Laws.Syntax.{only_var, map_args, places_mem, mem_places, terms_atoms, terms_answers, terms_cases}
use Rattle.theory.proofs.Laws.Syntax.{keep_once_mem, mem_keep_once, keep_once_unrepeated, substitute_mem, mem_substitute}
use Rattle.theory.proofs.Laws.Unifier.{unify_keeps}
use Rattle.theory.proofs.Laws.Steps.{rule_step_iff, merge_step_iff}
use Rattle.theory.proofs.Laws.Rules.{AtomOf, LeftOf, rewrite_keeps, rewrite_answer}

-- What holds of what each kind of step gives holds of the result of every step.
pub step_by : (P : Query → Type 0) (rules : List Rule) (q r : Query) → StepTo rules q r
    → ((i : ℕ) (rule : Rule) (a b : Atom Term) → rule ∈ rules → At q.atoms i a → rewrite_atom q rule a ≡ some b → P (change_atom q i b))
    → ((a b : Atom Term) (σ : ℕ → Term) → a ∈ q.atoms → b ∈ q.atoms → unify a b ≡ some σ → P (substitute σ q))
    → P r
step_by P rules q r (inl (i, k, e)) changed merged =
    let w = (rule_step_iff rules q i k r).0 e in
    subst P w.6 (changed i w.0 w.1 w.2 (at_mem rules k w.3) w.4 w.5)
step_by P rules q r (inr (i, j, e)) changed merged =
    let w = (merge_step_iff q i j r).0 e in
    subst P w.7 (merged w.1 w.2 w.3 (at_mem q.atoms i w.4) (at_mem q.atoms j w.5) w.6)

-- ---- how many atoms and answer terms

-- equal atoms kept once: no more than before, and some if there were some
pub keep_once_few : (atoms : List (Atom Term)) → length (keep_once atoms) ≤ length atoms
unfolding keep_once
keep_once_few atoms = once_few same_atom atoms

pub keep_once_some : (atoms : List (Atom Term)) → 1 ≤ length atoms → 1 ≤ length (keep_once atoms)
unfolding keep_once
keep_once_some atoms h = once_some same_atom atoms h

module _ (rules : List Rule) (q r : Query) (step : StepTo rules q r) where
  pub step_distinct : Unrepeated r.atoms
  unfolding change_atom substitute
  step_distinct =
      step_by (λ p. Unrepeated p.atoms) rules q r step
      (λ i rule a b m at e. keep_once_unrepeated (set q.atoms i b))
      (λ a b σ m n e. keep_once_unrepeated (map (map_atom (subst_term σ)) q.atoms))

  pub step_arity : length r.answers ≡ length q.answers
  unfolding change_atom substitute
  step_arity =
      step_by (λ p. length p.answers ≡ length q.answers) rules q r step
      (λ i rule a b m at e. refl)
      (λ a b σ m n e. length-map q.answers (subst_term σ))

  pub step_few : length r.atoms ≤ length q.atoms
  unfolding change_atom substitute
  step_few =
      step_by (λ p. length p.atoms ≤ length q.atoms) rules q r step
      (λ i rule a b m at e. subst (λ n. length (keep_once (set q.atoms i b)) ≤ n) (length-set q.atoms i b)
      (keep_once_few (set q.atoms i b)))
      (λ a b σ m n e. subst (λ k. length (keep_once (map (map_atom (subst_term σ)) q.atoms)) ≤ k)
      (length-map q.atoms (map_atom (subst_term σ))) (keep_once_few (map (map_atom (subst_term σ)) q.atoms)))

  pub step_some : 1 ≤ length q.atoms → 1 ≤ length r.atoms
  unfolding change_atom substitute
  step_some h =
      step_by (λ p. 1 ≤ length p.atoms) rules q r step
      (λ i rule a b m at e. keep_once_some (set q.atoms i b) (subst (λ n. 1 ≤ n) (sym (length-set q.atoms i b)) h))
      (λ a b σ m n e. keep_once_some (map (map_atom (subst_term σ)) q.atoms)
      (subst (λ n. 1 ≤ n) (sym (length-map q.atoms (map_atom (subst_term σ)))) h))

-- ---- every answer variable stands in an atom

change_safe : (q : Query) (i : ℕ) (rule : Rule) (a b : Atom Term) → At q.atoms i a → rewrite_atom q rule a ≡ some b → Safe q
    → Safe (change_atom q i b)
unfolding change_atom
change_safe q i rule a b at e safe v m =
    let (c, n, k) = places_mem q.atoms (safe v m) in
    let (j, atj) = mem_at n in
    elim (ℕ_discrete j i) [
      | yes d ↦ mem_places (keep_once (set q.atoms i b)) (mem_keep_once (at_mem (set q.atoms i b) i (set_at q.atoms i b at)))
          (rewrite_answer q rule a b v e m (subst (λ x. var v ∈ args x) (at_equal q.atoms d atj at) k))
      | no d ↦ mem_places (keep_once (set q.atoms i b))
          (mem_keep_once (at_mem (set q.atoms i b) j (set_elsewhere q.atoms i j b d ∙ atj))) k
    ]

substitute_safe : (q : Query) (σ : ℕ → Term) → Safe q → Safe (substitute σ q)
unfolding substitute
substitute_safe q σ safe v m =
    let (t, n, e) = Memᴰ.of_map (subst_term σ) q.answers m in
    let (u, d) = only_var σ t e in
    let (c, l, k) = places_mem q.atoms (safe u (subst (λ s. s ∈ q.answers) d n)) in
    mem_places (substitute σ q).atoms (mem_substitute σ q l)
    (subst (λ s. s ∈ args (map_atom (subst_term σ) c)) (ap (subst_term σ) (sym d) ∙ e) (map_args (subst_term σ) c k))

pub step_safe : (rules : List Rule) (q r : Query) → Safe q → StepTo rules q r → Safe r
step_safe rules q r safe step =
    step_by Safe rules q r step (λ i rule a b m at e. change_safe q i rule a b at e safe) (λ a b σ m n e. substitute_safe q σ safe)

-- the result of a step is sound as its query is
pub step_sound : (rules : List Rule) (q r : Query) (arity : ℕ) → SoundQuery arity q → StepTo rules q r → SoundQuery arity r
step_sound rules q r arity sound step = record {
  distinct = step_distinct rules q r step;
  safe = step_safe rules q r sound.safe step;
  arity_is = step_arity rules q r step ∙ sound.arity_is;
}

-- ---- where terms and names come from

-- What holds of all terms of the query holds of all answer terms of the result.
pub step_answers_keep : (IsTerm : Term → Type 0) (rules : List Rule) (q r : Query) → ((t : Term) → t ∈ terms q → IsTerm t)
    → StepTo rules q r → (t : Term) → t ∈ r.answers → IsTerm t
unfolding change_atom substitute
step_answers_keep IsTerm rules q r h step =
    step_by (λ p. (t : Term) → t ∈ p.answers → IsTerm t) rules q r step
    (λ i rule a b m at e t k. h t (terms_answers q k))
    (λ a b σ m n e t k.
    let (s, l, d) = Memᴰ.of_map (subst_term σ) q.answers k in
    subst IsTerm d (unify_keeps IsTerm a b e (λ t k. h t (terms_atoms q m k)) (λ t k. h t (terms_atoms q n k)) s (h s (terms_answers q l))))

module _ (IsConcept IsRole : ℕ → Type 0) (IsTerm : Term → Type 0) where
  -- something holds of all names and all terms of a query
  abbrev pub QueryOf : Query → Type 0
  QueryOf q =
      ((t : Term) → t ∈ q.answers → IsTerm t)
      × ((a : Atom Term) → a ∈ q.atoms → AtomOf IsConcept IsRole IsTerm a)

  atom_terms : (a : Atom Term) → AtomOf IsConcept IsRole IsTerm a → (t : Term) → t ∈ args a → IsTerm t
  atom_terms (concept A s) h = forall_cons h.1 (λ t m. absurd (Memᴰ.not-nil m))
  atom_terms (role P s s') h = forall_cons h.1 (forall_cons h.2 (λ t m. absurd (Memᴰ.not-nil m)))

  mapped_atom : (f : Term → Term) (a : Atom Term) → ((t : Term) → IsTerm t → IsTerm (f t)) → AtomOf IsConcept IsRole IsTerm a
      → AtomOf IsConcept IsRole IsTerm (map_atom f a)
  mapped_atom f (concept A s) keeps h = (h.0, keeps s h.1)
  mapped_atom f (role P s s') keeps h = (h.0, keeps s h.1, keeps s' h.2)

  query_terms : (q : Query) → QueryOf q → (t : Term) → t ∈ terms q → IsTerm t
  query_terms q h t m = elim (terms_cases q m) [ inl n ↦ h.0 t n | inr (a, n, k) ↦ atom_terms a (h.1 a n) t k ]

  change_keeps : (q : Query) (i : ℕ) (a b : Atom Term) → At q.atoms i a → QueryOf q → AtomOf IsConcept IsRole IsTerm b
      → (c : Atom Term) → c ∈ (change_atom q i b).atoms → AtomOf IsConcept IsRole IsTerm c
  unfolding change_atom
  change_keeps q i a b ati h k c m =
      let (j, at) = mem_at (keep_once_mem (set q.atoms i b) m) in
      elim (ℕ_discrete j i) [
        | yes d ↦ subst (AtomOf IsConcept IsRole IsTerm) (sym (at_equal (set q.atoms i b) d at (set_at q.atoms i b ati))) k
        | no d ↦ h.1 c (at_mem q.atoms j (sym (set_elsewhere q.atoms i j b d) ∙ at))
      ]

  -- What holds of all names and terms of the query, of the names on the left sides of the rules and of the fresh variable holds of all
  -- names and terms of the result.
  pub step_keeps : (rules : List Rule) (q r : Query) → ((rule : Rule) → rule ∈ rules → LeftOf IsConcept IsRole rule)
      → IsTerm (var (fresh q)) → QueryOf q → StepTo rules q r → QueryOf r
  step_keeps rules q r lefts new h step = (
    step_answers_keep IsTerm rules q r (query_terms q h) step,
    step_by (λ p. (c : Atom Term) → c ∈ p.atoms → AtomOf IsConcept IsRole IsTerm c) rules q r step
        (λ i rule a b m at e. change_keeps q i a b at h
        (rewrite_keeps IsConcept IsRole IsTerm q rule a b (lefts rule m) new (atom_terms a (h.1 a (at_mem q.atoms i at))) e))
        (λ a b σ m n e c k. let (d, l, f) = substitute_mem σ q k in
        subst (AtomOf IsConcept IsRole IsTerm) f
        (mapped_atom (subst_term σ) d (unify_keeps IsTerm a b e (atom_terms a (h.1 a m)) (atom_terms b (h.1 b n))) (h.1 d l))),
  )
