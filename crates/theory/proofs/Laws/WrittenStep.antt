-- What the step written beside a member yields, and that it yields something exactly where it is not refused.
use Rattle.std.specs.Prelude.{◌≡◌, refl, ◌⊎◌, ◌↔◌, ◌≢◌, ℕ, ◌≤◌, ◌<◌, not, List, T, eqb, ltb, length}
use Rattle.std.proofs.Common.{sym, ◌∙◌, subst, inl, inr, arith, ltb→lt, lt→ltb}
use Rattle.std.proofs.Math.Decide.{ℕ_discrete, dec_lt}
use Rattle.std.proofs.Math.Option.{Option, none, some}
use Rattle.std.proofs.Math.ListN.{get_elem?}
use Rattle.theory.specs.Lists.{At, pick, is_some}
use Rattle.theory.specs.Syntax.{Rule, Query, Step, Member, UCQ}
use Rattle.theory.specs.Rewriting.{rewrite_atom, unify, change_atom, substitute, rule_step, merge_step, StepTo}
use Rattle.theory.specs.Union.{yield, Yields, MissingIndex, DoesNotApply}
use Rattle.theory.specs.Laws.Options.{T_no, T_eqb, either, pick_true, pick_false, some_inj, none≢some, is_some_some, some_or_none}
use Rattle.theory.specs.Laws.Options.{pick_some, and_then_some, and_then_at}
use Rattle.theory.specs.Laws.Lists.{at_lt, at_or_past, at_unique}
use Rattle.theory.proofs.Laws.Unifier.{unifiable_iff}
use Rattle.theory.proofs.Laws.Steps.{RuleGives, MergeGives, rule_step_iff, merge_step_iff}

-- ---- the step written beside a member

-- the kinds of steps that there are
which_kind : (kind : ℕ) → (kind ≡ 1) ⊎ ((kind ≡ 2) ⊎ ((kind ≢ 1) × (kind ≢ 2)))
which_kind kind =
    elim (ℕ_discrete kind 1) [
      | yes e ↦ inl e
      | no f ↦ elim (ℕ_discrete kind 2) [ yes e ↦ inr (inl e) | no g ↦ inr (inr (f, g)) ]
    ]

-- of two computations the one whose kind it is
pub kind_iff : (kind : ℕ) (o o' : Option Query) (r : Query) → (pick (eqb kind 1) o (pick (eqb kind 2) o' none) ≡ some r)
    ↔ (((kind ≡ 1) × (o ≡ some r)) ⊎ ((kind ≡ 2) × (o' ≡ some r)))
kind_iff kind o o' r = (
  λ e. elim (either (eqb kind 1)) [
    | inl t ↦ inl ((T_eqb kind 1).0 t, sym (pick_true (eqb kind 1) o _ t) ∙ e)
    | inr f ↦ (let w = pick_some (eqb kind 2) {o = o'} (sym (pick_false (eqb kind 1) o _ f) ∙ e) in inr ((T_eqb kind 2).0 w.0, w.1))
  ],
  elim [
    | inl w ↦ pick_true (eqb kind 1) o _ ((T_eqb kind 1).1 w.0) ∙ w.1
    | inr w ↦ pick_false (eqb kind 1) o _ (λ t. let e = (T_eqb kind 1).0 t in omega arith)
        ∙ (pick_true (eqb kind 2) o' none ((T_eqb kind 2).1 w.0) ∙ w.1)
  ],
)

pub yield_iff : (rules : List Rule) (union : UCQ) (k : ℕ) (s : Step) (r : Query) → (yield rules union k s ≡ some r)
    ↔ Yields rules union k s r
unfolding yield
yield_iff rules union k s r = (
  λ e. let w = pick_some (ltb s.parent k) e in
      let x = and_then_some (get_elem? union s.parent) w.1 in (
        ltb→lt s.parent k w.0,
        x.0,
        x.1,
        (kind_iff s.kind (rule_step rules x.0.query s.atom s.other)
            (merge_step x.0.query s.atom s.other) r).0 x.2,
      ),
  λ w. pick_true (ltb s.parent k) _ none (lt→ltb s.parent k w.0)
      ∙ (and_then_at _ w.2 ∙ (kind_iff s.kind (rule_step rules w.1.query s.atom s.other)
      (merge_step w.1.query s.atom s.other) r).1 w.3),
)

-- what is yielded is a step from the parent
pub yields_step : (rules : List Rule) (union : UCQ) (k : ℕ) (s : Step) {r : Query} (y : Yields rules union k s r)
    → StepTo rules y.1.query r
yields_step rules union k s y = elim y.3 [ inl w ↦ inl (s.atom, s.other, w.1) | inr w ↦ inr (s.atom, s.other, w.1) ]

-- a step yields one result
pub yields_unique : (rules : List Rule) (union : UCQ) (k : ℕ) (s : Step) {r r' : Query} → Yields rules union k s r
    → Yields rules union k s r' → r ≡ r'
yields_unique rules union k s {r} {r'} y y' = some_inj (sym ((yield_iff rules union k s r).1 y) ∙ (yield_iff rules union k s r').1 y')

-- ---- refused steps

-- the step names what there is not, or does not apply
abbrev pub Unfit : List Rule → Query → Step → Type 0
Unfit rules p s = MissingIndex rules p s ⊎ DoesNotApply rules p s

-- the step written beside member k is refused
abbrev pub Refused : List Rule → UCQ → ℕ → Step → Type 0
Refused rules union k s =
    ((s.kind ≢ 1) × (s.kind ≢ 2)) ⊎ ((k ≤ s.parent) ⊎ ((p : Member) × At union s.parent p × Unfit rules p.query s))

-- a step of kind 1 is unfit or gives a result, and not both
rule_fits : (rules : List Rule) (p : Query) (s : Step) → s.kind ≡ 1
    → Unfit rules p s ⊎ ((r : Query) × (rule_step rules p s.atom s.other ≡ some r))
rule_fits rules p s kind =
    elim (at_or_past p.atoms s.atom) [
      | inr l ↦ inl (inl (inl l))
      | inl a ↦ elim (at_or_past rules s.other) [
        | inr l ↦ inl (inl (inr (inl (kind, l))))
        | inl rule ↦ elim (some_or_none (rewrite_atom p rule.0 a.0)) [
          | inr e ↦ inl (inr (inl (kind, rule.0, a.0, rule.1, a.1, e)))
          | inl b ↦ inr (
            change_atom p s.atom b.0,
            (rule_step_iff rules p s.atom s.other _).1 (
              rule.0,
              a.0,
              b.0,
              rule.1,
              a.1,
              b.1,
              refl,
            ),
          )
        ]
      ]
    ]

rule_unfit : (rules : List Rule) (p : Query) (s : Step) {r : Query} → s.kind ≡ 1 → rule_step rules p s.atom s.other ≡ some r
    → ¬ Unfit rules p s
rule_unfit rules p s {r} kind e = unfit ((rule_step_iff rules p s.atom s.other r).0 e)
  where
    unfit : RuleGives rules p s.atom s.other r → Unfit rules p s → ⊥
    unfit w (inl (inl l)) = let h = at_lt p.atoms s.atom w.4 in omega arith
    unfit w (inl (inr (inl x))) = let h = at_lt rules s.other w.3 in let l = x.1 in omega arith
    unfit w (inl (inr (inr x))) = omega arith
    unfit w (inr (inl x)) =
        let d = at_unique rules s.other w.3 x.3 in
        let f = at_unique p.atoms s.atom w.4 x.4 in
        none≢some {x = w.2} (cc)
    unfit w (inr (inr x)) = omega arith

-- a step of kind 2 is unfit or gives a result, and not both
merge_fits : (rules : List Rule) (p : Query) (s : Step) → s.kind ≡ 2
    → Unfit rules p s ⊎ ((r : Query) × (merge_step p s.atom s.other ≡ some r))
merge_fits rules p s kind =
    elim (at_or_past p.atoms s.atom) [
      | inr l ↦ inl (inl (inl l))
      | inl a ↦ elim (at_or_past p.atoms s.other) [
        | inr l ↦ inl (inl (inr (inr (kind, l))))
        | inl b ↦ elim (dec_lt s.atom s.other) [
          | no f ↦ inl (inr (inr (kind, inl (omega arith))))
          | yes l ↦ elim (some_or_none (unify a.0 b.0)) [
            | inr e ↦ inl (inr (inr (kind, inr (a.0, b.0, a.1, b.1, λ u. none≢some (sym e ∙ ((unifiable_iff a.0 b.0).0 u).1)))))
            | inl σ ↦ inr (substitute σ.0 p, (merge_step_iff p s.atom s.other _).1 (l, a.0, b.0, σ.0, a.1, b.1, σ.1, refl))
          ]
        ]
      ]
    ]

merge_unfit : (rules : List Rule) (p : Query) (s : Step) {r : Query} → s.kind ≡ 2 → merge_step p s.atom s.other ≡ some r
    → ¬ Unfit rules p s
merge_unfit rules p s {r} kind e = unfit ((merge_step_iff p s.atom s.other r).0 e)
  where
    unfit : MergeGives p s.atom s.other r → Unfit rules p s → ⊥
    unfit w (inl (inl l)) = let h = at_lt p.atoms s.atom w.4 in omega arith
    unfit w (inl (inr (inl x))) = omega arith
    unfit w (inl (inr (inr x))) = let h = at_lt p.atoms s.other w.5 in omega arith
    unfit w (inr (inl x)) = omega arith
    unfit w (inr (inr (k, inl l))) = omega arith
    unfit w (inr (inr (k, inr x))) =
        let d = at_unique p.atoms s.atom w.4 x.2 in
        let f = at_unique p.atoms s.other w.5 x.3 in
        x.4 ((unifiable_iff x.0 x.1).1 (w.3, cc))

-- the step written beside member k is refused or yields a result, and not both
pub refused_or_yields : (rules : List Rule) (union : UCQ) (k : ℕ) (s : Step) → k < length union
    → Refused rules union k s ⊎ ((r : Query) × Yields rules union k s r)
refused_or_yields rules union k s l =
    elim (dec_lt s.parent k) [
      | no f ↦ inl (inr (inl (omega arith)))
      | yes h ↦ elim (at_or_past union s.parent) [ inl p ↦ from h p | inr g ↦ absurd (omega arith) ]
    ]
  where
    from : s.parent < k → (p : Member) × At union s.parent p → Refused rules union k s ⊎ ((r : Query) × Yields rules union k s r)
    from h p =
        elim (which_kind s.kind) [
          | inl e ↦ elim (rule_fits rules p.0.query s e) [
            | inl u ↦ inl (inr (inr (p.0, p.1, u)))
            | inr r ↦ inr (r.0, (h, p.0, p.1, inl (e, r.1)))
          ]
          | inr (inl e) ↦ elim (merge_fits rules p.0.query s e) [
            | inl u ↦ inl (inr (inr (p.0, p.1, u)))
            | inr r ↦ inr (r.0, (h, p.0, p.1, inr (e, r.1)))
          ]
          | inr (inr n) ↦ inl (inl n)
        ]

pub refused_not_yields : (rules : List Rule) (union : UCQ) (k : ℕ) (s : Step) (r : Query) → Refused rules union k s
    → ¬ Yields rules union k s r
refused_not_yields rules union k s r (inl n) y = elim y.3 [ inl w ↦ n.0 w.0 | inr w ↦ n.1 w.0 ]
refused_not_yields rules union k s r (inr (inl l)) y = let h = y.0 in omega arith
refused_not_yields rules union k s r (inr (inr u)) y =
    let unfit = subst (λ (p : Member). Unfit rules p.query s) (at_unique union s.parent u.1 y.2) u.2 in
    elim y.3 [
      | inl w ↦ rule_unfit rules y.1.query s w.0 w.1 unfit
      | inr w ↦ merge_unfit rules y.1.query s w.0 w.1 unfit
    ]

pub step_refused_iff : (rules : List Rule) (union : UCQ) (k : ℕ) (s : Step) → k < length union → T (not (is_some (yield rules union k s)))
    ↔ Refused rules union k s
step_refused_iff rules union k s l = (
  λ t. elim (refused_or_yields rules union k s l) [
    | inl u ↦ u
    | inr y ↦ absurd ((T_no (is_some (yield rules union k s))).0 t
        ((is_some_some (yield rules union k s)).1 (y.0, (yield_iff rules union k s y.0).1 y.1)))
  ],
  λ u. (T_no (is_some (yield rules union k s))).1 (λ t. let y = (is_some_some (yield rules union k s)).0 t in
      refused_not_yields rules union k s y.0 u ((yield_iff rules union k s y.0).0 y.1)),
)
