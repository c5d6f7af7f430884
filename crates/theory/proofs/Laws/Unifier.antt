-- 01: "two atoms of one predicate whose terms can be made equal", and "the most general such replacement": `unify` makes two
-- atoms equal, every map that makes them equal factors through it, and it finds a replacement wherever there is one.
use Rattle.std.proofs.Math.Path.{◌≡◌, sym, ap}
use Rattle.std.specs.Prelude.{refl, ◌⊎◌, ◌↔◌, ℕ, eqb, leb}
use Rattle.std.proofs.Common.{◌∙◌, subst, inl, inr, arith}
use Rattle.std.proofs.Math.Decide.{ℕ_discrete}
use Rattle.std.proofs.Math.Bool.{true, false}
use Rattle.std.proofs.Math.Option.{none, some}
use mathlib.Core.List.Memᴰ
use Rattle.theory.specs.Lists.{◌∈◌, pick}
use Rattle.theory.specs.Syntax.{Term, var, const, Atom, concept, role, args, map_atom, send, subst_term}
use Rattle.theory.specs.Rewriting.{replace, after, join, bind, unify}
use Rattle.theory.specs.Union.{Unifiable}
use Rattle.theory.specs.Laws.Options.{found_pick, found_and_then, T_eqb, pick_some, some_inj, none≢some, guard_some, guard_true}
use Rattle.theory.specs.Laws.Options.{and_then_some}
use Rattle.theory.specs.Laws.Lists.{here}
use Rattle.theory.proofs.Laws.Syntax.{update, update_same, update_other, send_subst, subst_var}

-- What holds of what `join` gives: of σ where the terms are one, and of σ with a variable replaced by the other term.
join_by : (P : (ℕ → Term) → Type 0) (σ : ℕ → Term) (s t : Term) {τ : ℕ → Term} → join σ s t ≡ some τ → (s ≡ t → P σ)
    → ((v : ℕ) → s ≡ var v → P (after σ v t)) → ((v : ℕ) → t ≡ var v → P (after σ v s)) → P τ
unfolding join
join_by P σ (const c) (const d) e same left right = let g = guard_some (eqb c d) e in subst P g.1 (same (ap const ((T_eqb c d).0 g.0)))
join_by P σ (const c) (var v) e same left right = subst P (some_inj e) (right v refl)
join_by P σ (var u) (const d) e same left right = subst P (some_inj e) (left u refl)
join_by P σ (var u) (var v) e same left right =
    subst P (some_inj e) (elim (leb u v) as (λ b. P (pick b (after σ v (var u)) (after σ u (var v)))) [
      | true ↦ right v refl
      | false ↦ left u refl
    ])

-- ---- the atoms are made equal

-- a variable and what it is replaced by become one term
replace_joins : (v : ℕ) (t : Term) → subst_term (replace v t) (var v) ≡ subst_term (replace v t) t
unfolding replace
replace_joins v (const c) = update_same var v (const c)
replace_joins v (var u) =
    update_same var v (var u)
    ∙ (elim (eqb u v) as (λ b. var u ≡ pick b (var u) (var u)) [ true ↦ refl | false ↦ refl ])

-- τ is σ and then a further substitution, which makes the images of s and t one
abbrev pub Further : (ℕ → Term) → Term → Term → (ℕ → Term) → Type 0
Further σ s t τ = (ρ : ℕ → Term) × ((w : Term) → subst_term τ w ≡ subst_term ρ (subst_term σ w)) × (subst_term ρ s ≡ subst_term ρ t)

after_further : (σ : ℕ → Term) (v : ℕ) (r w : Term) → subst_term (after σ v r) w ≡ subst_term (replace v r) (subst_term σ w)
unfolding after
after_further σ v r w = sym (send_subst const (replace v r) σ w)

pub bind_equal : (σ : ℕ → Term) (s t : Term) {τ : ℕ → Term} → bind σ s t ≡ some τ → Further σ (subst_term σ s) (subst_term σ t) τ
unfolding bind
bind_equal σ s t e =
    let s' : Term = subst_term σ s in
    let t' : Term = subst_term σ t in
    join_by (Further σ s' t') σ s' t' e
    (λ d. (var, λ w. sym (subst_var (subst_term σ w)), ap (subst_term var) d))
    (λ v d. (replace v t', after_further σ v t', ap (subst_term (replace v t')) d ∙ replace_joins v t'))
    (λ v d. (replace v s', after_further σ v s', sym (ap (subst_term (replace v s')) d ∙ replace_joins v s')))

pub further_equal : (σ : ℕ → Term) (s t : Term) {τ : ℕ → Term} → Further σ (subst_term σ s) (subst_term σ t) τ
    → subst_term τ s ≡ subst_term τ t
further_equal σ s t f = f.1 s ∙ f.2 ∙ sym (f.1 t)

pub unify_equal : (a b : Atom Term) {σ : ℕ → Term} → unify a b ≡ some σ → map_atom (subst_term σ) a ≡ map_atom (subst_term σ) b
unfolding unify
unify_equal (concept A s) (concept B t) {σ} e =
    let g = pick_some (eqb A B) e in
    let d : A ≡ B = (T_eqb A B).0 g.0 in
    let f : subst_term σ s ≡ subst_term σ t = further_equal var s t (bind_equal var s t g.1) in
    cc
unify_equal (concept A s) (role Q t t') e = absurd (none≢some e)
unify_equal (role P s s') (concept B t) e = absurd (none≢some e)
unify_equal (role P s s') (role Q t t') {σ} e =
    let g = pick_some (eqb P Q) e in
    let d : P ≡ Q = (T_eqb P Q).0 g.0 in
    let m = and_then_some (bind var s t) g.1 in
    let further = bind_equal m.0 s' t' m.2 in
    let f : subst_term σ s ≡ subst_term σ t = further.1 s
    ∙ ap (subst_term further.0) (further_equal var s t (bind_equal var s t m.1)) ∙ sym (further.1 t) in
    let f' : subst_term σ s' ≡ subst_term σ t' = further_equal m.0 s' t' further in
    cc

-- ---- every map that makes the atoms equal factors through it, and it finds a replacement wherever there is such a map

module _ {X : Type 0} (self : ℕ → X) where
  -- h is σ and then h
  abbrev pub Through : (ℕ → X) → (ℕ → Term) → Type 0
  Through h σ = (v : ℕ) → h v ≡ send self h (σ v)

  -- so a term goes the same way with σ before and without
  pub through_term : (h : ℕ → X) (σ : ℕ → Term) → Through h σ → (t : Term) → send self h (subst_term σ t) ≡ send self h t
  through_term h σ f (var v) = sym (f v)
  through_term h σ f (const c) = refl

  replace_through : (h : ℕ → X) (v : ℕ) (r : Term) → h v ≡ send self h r → Through h (replace v r)
  unfolding replace
  replace_through h v r e u =
      elim (ℕ_discrete u v) [
        | yes d ↦ ap h d ∙ e ∙ ap (send self h) (sym (update_same var v r) ∙ ap (update var v r) (sym d))
        | no d ↦ ap (send self h) (sym (update_other var v r u d))
      ]

  after_through : (h : ℕ → X) (σ : ℕ → Term) (v : ℕ) (r : Term) → h v ≡ send self h r → Through h σ → Through h (after σ v r)
  unfolding after
  after_through h σ v r e f u = f u ∙ sym (through_term h (replace v r) (replace_through h v r e) (σ u))

  pub bind_through : (h : ℕ → X) (σ : ℕ → Term) (s t : Term) {τ : ℕ → Term} → bind σ s t ≡ some τ → send self h s ≡ send self h t
      → Through h σ → Through h τ
  unfolding bind
  bind_through h σ s t e d f =
      let s' : Term = subst_term σ s in
      let t' : Term = subst_term σ t in
      let d' : send self h s' ≡ send self h t' = through_term h σ f s ∙ d ∙ sym (through_term h σ f t) in
      join_by (Through h) σ s' t' e
      (λ k. f)
      (λ v k. after_through h σ v t' (ap (send self h) (sym k) ∙ d') f)
      (λ v k. after_through h σ v s' (ap (send self h) (sym k) ∙ sym d') f)

  pub unify_factors : (a b : Atom Term) {σ : ℕ → Term} → unify a b ≡ some σ → (h : ℕ → X)
      → map_atom (send self h) a ≡ map_atom (send self h) b → (v : ℕ) → h v ≡ send self h (σ v)
  unfolding unify
  unify_factors (concept A s) (concept B t) e h d = bind_through h var s t (pick_some (eqb A B) e).1 (cc) (λ v. refl)
  unify_factors (concept A s) (role Q t t') e h d = absurd (none≢some e)
  unify_factors (role P s s') (concept B t) e h d = absurd (none≢some e)
  unify_factors (role P s s') (role Q t t') e h d =
      let m = and_then_some (bind var s t) (pick_some (eqb P Q) e).1 in
      bind_through h m.0 s' t' m.2 (cc) (bind_through h var s t m.1 (cc) (λ v. refl))

  -- where no two objects are sent to one thing
  module _ (apart : (c d : ℕ) → self c ≡ self d → c ≡ d) where
    join_complete : (h : ℕ → X) (σ : ℕ → Term) (s t : Term) → send self h s ≡ send self h t → (τ : ℕ → Term) × (join σ s t ≡ some τ)
    unfolding join
    join_complete h σ (const c) (const d) e = (σ, guard_true (eqb c d) ((T_eqb c d).1 (apart c d e)))
    join_complete h σ (const c) (var v) e = (after σ v (const c), refl)
    join_complete h σ (var u) (const d) e = (after σ u (const d), refl)
    join_complete h σ (var u) (var v) e = (pick (leb u v) (after σ v (var u)) (after σ u (var v)), refl)

    pub bind_complete : (h : ℕ → X) (σ : ℕ → Term) (s t : Term) → send self h s ≡ send self h t → Through h σ
        → (τ : ℕ → Term) × (bind σ s t ≡ some τ)
    unfolding bind
    bind_complete h σ s t e f = join_complete h σ (subst_term σ s) (subst_term σ t) (through_term h σ f s ∙ e ∙ sym (through_term h σ f t))

    pub unify_complete : (a b : Atom Term) (h : ℕ → X) → map_atom (send self h) a ≡ map_atom (send self h) b
        → (σ : ℕ → Term) × (unify a b ≡ some σ)
    unfolding unify
    unify_complete (concept A s) (concept B t) h d = found_pick (eqb A B) ((T_eqb A B).1 (cc)) (bind_complete h var s t (cc) (λ v. refl))
    unify_complete (concept A s) (role Q t t') h d = absurd (let z : ◌≡◌ {A = ℕ} 0 1 = cc in omega arith)
    unify_complete (role P s s') (concept B t) h d = absurd (let z : ◌≡◌ {A = ℕ} 0 1 = cc in omega arith)
    unify_complete (role P s s') (role Q t t') h d =
        found_pick (eqb P Q) ((T_eqb P Q).1 (cc))
        (found_and_then (λ σ. bind σ s' t') (bind_complete h var s t (cc) (λ v. refl))
        (λ σ e. bind_complete h σ s' t' (cc) (bind_through h var s t e (cc) (λ v. refl))))

    pub unify_fails : (a b : Atom Term) → unify a b ≡ none → (h : ℕ → X) → ¬ (map_atom (send self h) a ≡ map_atom (send self h) b)
    unify_fails a b e h d = none≢some (sym e ∙ (unify_complete a b h d).1)

-- ---- two atoms in one order or the other

abbrev pub Unifies : Atom Term → Atom Term → (ℕ → Term) → Type 0
Unifies a b σ = (unify a b ≡ some σ) ⊎ (unify b a ≡ some σ)

pub unifies_equal : (a b : Atom Term) {σ : ℕ → Term} → Unifies a b σ → map_atom (subst_term σ) a ≡ map_atom (subst_term σ) b
unifies_equal a b (inl e) = unify_equal a b e
unifies_equal a b (inr e) = sym (unify_equal b a e)

pub unifies_factors : {X : Type 0} (self : ℕ → X) (a b : Atom Term) {σ : ℕ → Term} → Unifies a b σ → (h : ℕ → X)
    → map_atom (send self h) a ≡ map_atom (send self h) b → Through self h σ
unifies_factors self a b (inl e) h d = unify_factors self a b e h d
unifies_factors self a b (inr e) h d = unify_factors self b a e h (sym d)

-- ---- what can be made equal

const_apart : (c d : ℕ) → const c ≡ const d → c ≡ d
const_apart c d e = cc

pub unifiable_iff : (a b : Atom Term) → Unifiable a b ↔ ((σ : ℕ → Term) × (unify a b ≡ some σ))
unifiable_iff a b = (λ u. unify_complete const const_apart a b u.0 u.1, λ f. (f.0, unify_equal a b f.1))

-- ---- terms of which something holds are replaced by such terms, if it holds of the terms of both atoms

module _ (IsTerm : Term → Type 0) where
  -- the substitution sends terms of which it holds to terms of which it holds
  abbrev Keeps : (ℕ → Term) → Type 0
  Keeps σ = (t : Term) → IsTerm t → IsTerm (subst_term σ t)

  replace_keeps : (v : ℕ) (s : Term) → IsTerm s → Keeps (replace v s)
  unfolding replace
  replace_keeps v s h (const c) k = k
  replace_keeps v s h (var u) k = elim (eqb u v) as (λ b. IsTerm (pick b s (var u))) [ true ↦ h | false ↦ k ]

  after_keeps : (σ : ℕ → Term) (v : ℕ) (s : Term) → IsTerm s → Keeps σ → Keeps (after σ v s)
  after_keeps σ v s h f t k = subst IsTerm (sym (after_further σ v s t)) (replace_keeps v s h (subst_term σ t) (f t k))

  bind_keeps : (σ : ℕ → Term) (s t : Term) {τ : ℕ → Term} → bind σ s t ≡ some τ → IsTerm s → IsTerm t → Keeps σ → Keeps τ
  unfolding bind
  bind_keeps σ s t e h k f =
      join_by Keeps σ (subst_term σ s) (subst_term σ t) e
      (λ d. f)
      (λ v d. after_keeps σ v (subst_term σ t) (f t k) f)
      (λ v d. after_keeps σ v (subst_term σ s) (f s h) f)

  none_replaced : Keeps var
  none_replaced t k = subst IsTerm (sym (subst_var t)) k

  pub unify_keeps : (a b : Atom Term) {σ : ℕ → Term} → unify a b ≡ some σ → ((t : Term) → t ∈ args a → IsTerm t)
      → ((t : Term) → t ∈ args b → IsTerm t) → (t : Term) → IsTerm t → IsTerm (subst_term σ t)
  unfolding unify
  unify_keeps (concept A s) (concept B t) e h k = bind_keeps var s t (pick_some (eqb A B) e).1 (h s here) (k t here) none_replaced
  unify_keeps (concept A s) (role Q t t') e h k = absurd (none≢some e)
  unify_keeps (role P s s') (concept B t) e h k = absurd (none≢some e)
  unify_keeps (role P s s') (role Q t t') e h k =
      let m = and_then_some (bind var s t) (pick_some (eqb P Q) e).1 in
      bind_keeps m.0 s' t' m.2 (h s' (Memᴰ.tail here)) (k t' (Memᴰ.tail here))
      (bind_keeps var s t m.1 (h s here) (k t here) none_replaced)
