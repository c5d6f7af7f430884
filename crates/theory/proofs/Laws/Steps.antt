-- What a step of each kind does, and that `steps` lists the results of the steps: all of them and nothing else.
use Rattle.std.specs.Prelude.{◌≡◌, refl, ◌↔◌, ◌≢◌, ℕ, ◌<◌, List, ltb, length}
use Rattle.std.proofs.Common.{sym, ap, ◌∙◌, inl, inr, arith, ltb→lt, lt→ltb}
use Rattle.std.proofs.Math.Decide.{dec_lt}
use Rattle.std.proofs.Math.Option.{none, some}
use mathlib.Core.List.Memᴰ
use Rattle.std.proofs.Math.ListN.{get_elem?}
use Rattle.theory.specs.Lists.{◌∈◌, At}
use Rattle.theory.specs.Syntax.{Term, Atom, Rule, Query, map_atom, send}
use Rattle.theory.specs.Rewriting.{rewrite_atom, unify, change_atom, substitute, rule_step, merge_step, steps, StepTo}
use Rattle.theory.specs.Laws.Options.{pick_true, pick_some, some_inj, and_then_some, and_then_at}
use Rattle.theory.specs.Laws.Lists.{at_lt, gathered, gathered_found, gathered_of}
use Rattle.theory.proofs.Laws.Unifier.{Unifies, unify_complete}

-- ---- a step of each kind, in one tuple

-- rule k makes an atom of the one at i, which it is changed to
abbrev pub RuleGives : List Rule → Query → ℕ → ℕ → Query → Type 0
RuleGives rules q i k r =
    (rule : Rule) × (a b : Atom Term) × At rules k rule × At q.atoms i a × (rewrite_atom q rule a ≡ some b) × (change_atom q i b ≡ r)

-- the atoms at i and at the later j are made equal, everywhere in q
abbrev pub MergeGives : Query → ℕ → ℕ → Query → Type 0
MergeGives q i j r =
    (i < j) × (a b : Atom Term) × (σ : ℕ → Term) × At q.atoms i a × At q.atoms j b × (unify a b ≡ some σ) × (substitute σ q ≡ r)

pub rule_step_iff : (rules : List Rule) (q : Query) (i k : ℕ) (r : Query) → (rule_step rules q i k ≡ some r) ↔ RuleGives rules q i k r
unfolding rule_step
rule_step_iff rules q i k r = (
  λ e. let x = and_then_some (get_elem? rules k) e in
      let y = and_then_some (get_elem? q.atoms i) x.2 in
      let z = and_then_some (rewrite_atom q x.0 y.0) y.2 in
      (x.0, y.0, z.0, x.1, y.1, z.1, some_inj z.2),
  λ w. and_then_at _ w.3 ∙ (and_then_at _ w.4 ∙ (and_then_at _ w.5 ∙ ap some w.6)),
)

pub merge_step_iff : (q : Query) (i j : ℕ) (r : Query) → (merge_step q i j ≡ some r) ↔ MergeGives q i j r
unfolding merge_step
merge_step_iff q i j r = (
  λ e. let w = pick_some (ltb i j) e in
      let x = and_then_some (get_elem? q.atoms i) w.1 in
      let y = and_then_some (get_elem? q.atoms j) x.2 in
      let z = and_then_some (unify x.0 y.0) y.2 in
      (ltb→lt i j w.0, x.0, y.0, z.0, x.1, y.1, z.1, some_inj z.2),
  λ w. pick_true (ltb i j) _ none (lt→ltb i j w.0)
      ∙ (and_then_at _ w.4 ∙ (and_then_at _ w.5 ∙ (and_then_at _ w.6 ∙ ap some w.7))),
)

-- two atoms at two indices that a map makes equal can be merged, whichever comes first
pub merge_step_either : {X : Type 0} (self : ℕ → X) → ((c d : ℕ) → self c ≡ self d → c ≡ d)
    → (q : Query) (i j : ℕ) (a b : Atom Term) (h : ℕ → X)
    → i ≢ j → At q.atoms i a → At q.atoms j b → map_atom (send self h) a ≡ map_atom (send self h) b
    → (σ : ℕ → Term) × Unifies a b σ × (k l : ℕ) × (merge_step q k l ≡ some (substitute σ q))
merge_step_either self apart q i j a b h d e f same = elim (dec_lt i j) [
  | yes l ↦ (let s = unify_complete self apart a b h same in
      (s.0, inl s.1, i, j, (merge_step_iff q i j (substitute s.0 q)).1 (l, a, b, s.0, e, f, s.1, refl)))
  | no n ↦ (let s = unify_complete self apart b a h (sym same) in
      (s.0, inr s.1, j, i, (merge_step_iff q j i (substitute s.0 q)).1 (omega arith, b, a, s.0, f, e, s.1, refl)))
]

-- ---- all steps

-- the list holds a result exactly if some indices give it
pub steps_iff : (rules : List Rule) (q r : Query) → (r ∈ steps rules q) ↔ StepTo rules q r
unfolding steps
steps_iff rules q r = (
  λ m. elim (Memᴰ.append_cases (gathered (rule_step rules q) a (length rules)) m) [
    | inl h ↦ inl (gathered_found (rule_step rules q) a (length rules) h)
    | inr h ↦ inr (gathered_found (merge_step q) a a h)
  ],
  λ s. elim s [
    | inl h ↦ (let w = (rule_step_iff rules q h.0 h.1 r).0 h.2 in
        Memᴰ.append_left (gathered (merge_step q) a a)
        (gathered_of (rule_step rules q) a (length rules) h.0 h.1 (at_lt q.atoms h.0 w.4) (at_lt rules h.1 w.3)
        h.2))
    | inr h ↦ (let w = (merge_step_iff q h.0 h.1 r).0 h.2 in
        Memᴰ.append_right (gathered (rule_step rules q) a (length rules))
        (gathered_of (merge_step q) a a h.0 h.1 (at_lt q.atoms h.0 w.4) (at_lt q.atoms h.1 w.5) h.2))
  ],
)
  where
    a : ℕ
    a = length q.atoms
