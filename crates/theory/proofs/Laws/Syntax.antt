-- Equality tests on terms and atoms decide equality; maps of variables, terms and atoms compose; what stands in which place.
use Rattle.std.specs.Prelude.{◌≡◌, ◌⊎◌, ◌↔◌, ◌≢◌, ℕ, Bool, ◌&&◌, T, eqb}
use Rattle.std.proofs.Math.Path.{refl, ap}
use Rattle.std.proofs.Common.{sym, ap₂, ◌∙◌, subst, inl, inr, arith}
use mathlib.Core.List.Memᴰ
use mathlib.Core.List.{List, [], ◌∷◌, ◌++◌, map, flat_map}
use Rattle.theory.specs.Lists.{◌∈◌, Unrepeated, pick}
use Rattle.theory.specs.Syntax.{Term, var, const, Atom, concept, role, Query, args, places, terms, map_atom, send, subst_term, rename}
use Rattle.theory.specs.Syntax.{same_term, on_atoms, same_atom}
use Rattle.theory.specs.Rewriting.{keep_once, substitute}
use Rattle.theory.specs.Laws.Options.{T_and, T_eqb, pick_true, pick_false}
use Rattle.theory.specs.Laws.Lists.{here, mem_along, once_mem, mem_once, once_unrepeated, flat_map_found, flat_map_of}

pub same_term_iff : (s t : Term) → T (same_term s t) ↔ (s ≡ t)
unfolding same_term
same_term_iff (var u) (var v) = (λ t. ap var ((T_eqb u v).0 t), λ e. (T_eqb u v).1 (cc))
same_term_iff (var u) (const d) = (λ t. absurd t, λ e. (let z : ◌≡◌ {A = ℕ} 0 1 = cc in omega arith))
same_term_iff (const c) (var v) = (λ t. absurd t, λ e. (let z : ◌≡◌ {A = ℕ} 0 1 = cc in omega arith))
same_term_iff (const c) (const d) = (λ t. ap const ((T_eqb c d).0 t), λ e. (T_eqb c d).1 (cc))

-- two atoms related place by place
abbrev pub OnAtoms : {X Y : Type 0} → (X → Y → Type 0) → Atom X → Atom Y → Type 0
OnAtoms R (concept A x) (concept B y) = (A ≡ B) × R x y
OnAtoms R (concept A x) (role Q y y') = ⊥
OnAtoms R (role P x x') (concept B y) = ⊥
OnAtoms R (role P x x') (role Q y y') = (P ≡ Q) × R x y × R x' y'

-- which the test on two atoms decides
pub on_atoms_iff : {X Y : Type 0} (test : X → Y → Bool) (a : Atom X) (b : Atom Y) → T (on_atoms test a b)
    ↔ OnAtoms (λ x y. T (test x y)) a b
unfolding on_atoms
on_atoms_iff test (concept A x) (concept B y) = (
  λ t. let s = (T_and (eqb A B) (test x y)).0 t in ((T_eqb A B).0 s.0, s.1),
  λ r. (T_and (eqb A B) (test x y)).1 ((T_eqb A B).1 r.0, r.1),
)
on_atoms_iff test (concept A x) (role Q y y') = (λ t. t, λ r. r)
on_atoms_iff test (role P x x') (concept B y) = (λ t. t, λ r. r)
on_atoms_iff test (role P x x') (role Q y y') = (
  λ t. let s = (T_and (eqb P Q && test x y) (test x' y')).0 t in let r = (T_and (eqb P Q) (test x y)).0 s.0 in
      ((T_eqb P Q).0 r.0, r.1, s.1),
  λ r. (T_and (eqb P Q && test x y) (test x' y')).1 ((T_and (eqb P Q) (test x y)).1 ((T_eqb P Q).1 r.0, r.1), r.2),
)

-- they stay so where the one relation gives the other
pub on_atoms_within : {X Y : Type 0} {R S : X → Y → Type 0} (a : Atom X) (b : Atom Y) → ((x : X) (y : Y) → x ∈ args a → R x y → S x y)
    → OnAtoms R a b → OnAtoms S a b
on_atoms_within (concept A x) (concept B y) h r = (r.0, h x y here r.1)
on_atoms_within (concept A x) (role Q y y') h r = r
on_atoms_within (role P x x') (concept B y) h r = r
on_atoms_within (role P x x') (role Q y y') h r = (r.0, h x y here r.1, h x' y' (Memᴰ.tail here) r.2)

-- related by equality after a map: the one is the other's image
pub on_atoms_map : {X Y : Type 0} (f : X → Y) (a : Atom X) (b : Atom Y) → OnAtoms (λ x y. f x ≡ y) a b ↔ (map_atom f a ≡ b)
on_atoms_map f (concept A x) (concept B y) = (λ r. ap₂ concept r.0 r.1, λ e. (cc, cc))
on_atoms_map f (concept A x) (role Q y y') = (λ r. absurd r, λ e. (let z : ◌≡◌ {A = ℕ} 0 1 = cc in omega arith))
on_atoms_map f (role P x x') (concept B y) = (λ r. absurd r, λ e. (let z : ◌≡◌ {A = ℕ} 0 1 = cc in omega arith))
on_atoms_map f (role P x x') (role Q y y') = (λ r. (let d = r.0 in let e = r.1 in let g = r.2 in cc), λ e. (cc, cc, cc))

pub map_atom_id : {X : Type 0} (a : Atom X) → map_atom (λ x. x) a ≡ a
map_atom_id (concept A x) = refl
map_atom_id (role P x y) = refl

pub same_atom_iff : (a b : Atom Term) → T (same_atom a b) ↔ (a ≡ b)
unfolding same_atom
same_atom_iff a b = (
  λ t. sym (map_atom_id a) ∙ (on_atoms_map (λ s. s) a b).0
      (on_atoms_within a b (λ s t m. (same_term_iff s t).0) ((on_atoms_iff same_term a b).0 t)),
  λ e. (on_atoms_iff same_term a b).1 (on_atoms_within a b (λ s t m. (same_term_iff s t).1)
      ((on_atoms_map (λ s. s) a b).1 (map_atom_id a ∙ e))),
)

-- ---- maps of variables

-- a map changed at one variable
abbrev pub update : {X : Type 0} → (ℕ → X) → ℕ → X → ℕ → X
update h x y v = pick (eqb v x) y (h v)

module _ {X : Type 0} where
  pub update_same : (h : ℕ → X) (x : ℕ) (y : X) → update h x y x ≡ y
  update_same h x y = pick_true (eqb x x) y (h x) ((T_eqb x x).1 refl)

  pub update_other : (h : ℕ → X) (x : ℕ) (y : X) (v : ℕ) → v ≢ x → update h x y v ≡ h v
  update_other h x y v d = pick_false (eqb v x) y (h v) (λ t. d ((T_eqb v x).0 t))

  module _ (self : ℕ → X) where
    pub send_update : (h : ℕ → X) (x : ℕ) (y : X) (t : Term) → t ≢ var x → send self (update h x y) t ≡ send self h t
    send_update h x y (var v) d = update_other h x y v (λ e. d (ap var e))
    send_update h x y (const c) d = refl

    -- a map after a substitution or a renaming is one map
    pub send_subst : (h : ℕ → X) (σ : ℕ → Term) (t : Term) → send self h (subst_term σ t) ≡ send self (λ v. send self h (σ v)) t
    send_subst h σ (var v) = refl
    send_subst h σ (const c) = refl

    pub send_rename : (h : ℕ → X) (f : ℕ → ℕ) (t : Term) → send self h (rename f t) ≡ send self (λ v. h (f v)) t
    send_rename h f t = send_subst h (λ v. var (f v)) t

-- the substitution that replaces nothing
pub subst_var : (t : Term) → subst_term var t ≡ t
subst_var (var v) = refl
subst_var (const c) = refl

-- only a variable is replaced by a variable
pub only_var : (σ : ℕ → Term) (t : Term) {w : ℕ} → subst_term σ t ≡ var w → (v : ℕ) × (t ≡ var v)
only_var σ (var v) e = (v, refl)
only_var σ (const c) e = absurd (let z : ◌≡◌ {A = ℕ} 0 1 = cc in omega arith)

-- ---- maps of atoms

module _ {X Y : Type 0} where
  -- two maps that agree on the places of an atom agree on the atom
  pub map_atom_agree : (f g : X → Y) (a : Atom X) → ((x : X) → x ∈ args a → f x ≡ g x) → map_atom f a ≡ map_atom g a
  map_atom_agree f g (concept A x) h = ap (concept A) (h x here)
  map_atom_agree f g (role P x y) h = ap₂ (role P) (h x here) (h y (Memᴰ.tail here))

  -- what stands in the image of an atom is the image of what stands in it
  pub args_map : (f : X → Y) (a : Atom X) {y : Y} → y ∈ args (map_atom f a) → (x : X) × (x ∈ args a) × (f x ≡ y)
  args_map f (concept A x) m = Memᴰ.of_map f (x ∷ []) m
  args_map f (role P x y) m = Memᴰ.of_map f (x ∷ y ∷ []) m

  pub map_args : (f : X → Y) (a : Atom X) {x : X} → x ∈ args a → f x ∈ args (map_atom f a)
  map_args f (concept A x) m = Memᴰ.map f m
  map_args f (role P x y) m = Memᴰ.map f m

-- two maps, one after the other, are one, and come to a third that agrees with them on the places
module _ {X Y Z : Type 0} (g : Y → Z) (f : X → Y) where
  pub map_atom_map_atom : (a : Atom X) → map_atom g (map_atom f a) ≡ map_atom (λ x. g (f x)) a
  map_atom_map_atom (concept A x) = refl
  map_atom_map_atom (role P x y) = refl

  pub map_atom_after : (k : X → Z) (a : Atom X) → ((x : X) → x ∈ args a → g (f x) ≡ k x) → map_atom g (map_atom f a) ≡ map_atom k a
  map_atom_after k a h = map_atom_map_atom a ∙ map_atom_agree (λ x. g (f x)) k a h

pub map_atom_rename : {X : Type 0} (self h : ℕ → X) (f : ℕ → ℕ) (a : Atom Term) → map_atom (send self h) (map_atom (rename f) a)
    ≡ map_atom (send self (λ v. h (f v))) a
map_atom_rename self h f a = map_atom_after (send self h) (rename f) (send self (λ v. h (f v))) a (λ t m. send_rename self h f t)

-- ---- what stands where

module _ {X : Type 0} where
  -- the places of a list of atoms are those of each
  pub places_flat_map : (as' : List (Atom X)) → places as' ≡ flat_map args as'
  unfolding flat_map
  places_flat_map [] = refl
  places_flat_map (a ∷ rest) = ap (λ l. args a ++ l) (places_flat_map rest)

  pub places_mem : (as' : List (Atom X)) {x : X} → x ∈ places as' → (a : Atom X) × (a ∈ as') × (x ∈ args a)
  places_mem as' m = flat_map_found args as' (mem_along (places_flat_map as') m)

  pub mem_places : (as' : List (Atom X)) {a : Atom X} {x : X} → a ∈ as' → x ∈ args a → x ∈ places as'
  mem_places as' n m = mem_along (sym (places_flat_map as')) (flat_map_of args n m)

pub terms_atoms : (q : Query) {a : Atom Term} {t : Term} → a ∈ q.atoms → t ∈ args a → t ∈ terms q
terms_atoms q m n = Memᴰ.append_right q.answers (mem_places q.atoms m n)

pub terms_answers : (q : Query) {t : Term} → t ∈ q.answers → t ∈ terms q
terms_answers q m = Memᴰ.append_left (places q.atoms) m

pub terms_cases : (q : Query) {t : Term} → t ∈ terms q → (t ∈ q.answers) ⊎ ((a : Atom Term) × (a ∈ q.atoms) × (t ∈ args a))
terms_cases q m = elim (Memᴰ.append_cases q.answers m) [ inl h ↦ inl h | inr h ↦ inr (places_mem q.atoms h) ]

-- where the answer terms and the atoms of q are images of those of p, so are all its terms
pub terms_from : (p q : Query) (f : Term → Term) → map f p.answers ≡ q.answers
    → ((b : Atom Term) → b ∈ q.atoms → (a : Atom Term) × (a ∈ p.atoms) × (map_atom f a ≡ b))
    → {t : Term} → t ∈ terms q → (s : Term) × (s ∈ terms p) × (f s ≡ t)
terms_from p q f on onto {t} m =
    elim (terms_cases q m) [
      | inl n ↦ (let k = Memᴰ.of_map f p.answers (mem_along (sym on) n) in (k.0, terms_answers p k.1, k.2))
      | inr n ↦ (let a = onto n.0 n.1 in
          let k = args_map f a.0 (subst (λ c. t ∈ args c) (sym a.2) n.2) in
          (k.0, terms_atoms p a.1 k.1, k.2))
    ]

-- ---- equal atoms kept once

pub keep_once_mem : (as' : List (Atom Term)) {a : Atom Term} → a ∈ keep_once as' → a ∈ as'
unfolding keep_once
keep_once_mem as' m = once_mem same_atom same_atom_iff as' m

pub mem_keep_once : {as' : List (Atom Term)} {a : Atom Term} → a ∈ as' → a ∈ keep_once as'
unfolding keep_once
mem_keep_once m = mem_once same_atom same_atom_iff m

pub keep_once_unrepeated : (as' : List (Atom Term)) → Unrepeated (keep_once as')
unfolding keep_once
keep_once_unrepeated as' = once_unrepeated same_atom same_atom_iff as'

-- the atoms after a substitution are the images of those before
module _ (σ : ℕ → Term) (q : Query) where
  pub substitute_mem : {c : Atom Term} → c ∈ (substitute σ q).atoms → (a : Atom Term) × (a ∈ q.atoms) × (map_atom (subst_term σ) a ≡ c)
  unfolding substitute
  substitute_mem m = Memᴰ.of_map (map_atom (subst_term σ)) q.atoms (keep_once_mem (map (map_atom (subst_term σ)) q.atoms) m)

  pub mem_substitute : {a : Atom Term} → a ∈ q.atoms → map_atom (subst_term σ) a ∈ (substitute σ q).atoms
  unfolding substitute
  mem_substitute m = mem_keep_once (Memᴰ.map (map_atom (subst_term σ)) m)
