-- All that the theorem uses of a rule: what it concludes, how it rewrites an atom, and what the one has to do with the other.
-- Only this file looks at the kinds of rules. A kind that concludes nothing and fits no atom costs one clause in each law.
use Rattle.std.specs.Prelude.{◌≡◌, refl, ◌⊎◌, ◌≢◌, ℕ, Bool, true, false, ◌&&◌, eqb}
use Rattle.std.proofs.Math.Path.{sym, ap, subst}
use Rattle.std.proofs.Common.{ap₂, ◌∙◌, arith}
use Rattle.std.proofs.Math.Logic.{inl, inr}
use Rattle.std.proofs.Math.Option.{some}
use mathlib.Core.List.Memᴰ
use Rattle.std.proofs.Math.Dec.{T}
use Rattle.theory.specs.Lists.{◌∈◌, At, guard, and_then, count}
use Rattle.theory.specs.Syntax.{Term, var, const, Atom, concept, role, Basic, named, has, has_inverse, Rule, concept_inclusion}
use Rattle.theory.specs.Syntax.{role_inclusion, Query, Thing, object, null, args, terms, map_atom, value, instance, oriented, same_term}
use Rattle.theory.specs.Chase.{Held, Concludes}
use Rattle.theory.specs.Rewriting.{unbound, fresh, bearer, rewrite_atom}
use Rattle.theory.specs.Laws.Options.{T_and, T_eqb, is_true, is_false, either, guard_some, guard_true, and_then_some, and_then_at}
use Rattle.theory.specs.Laws.Options.{some_inj, none≢some}
use Rattle.theory.specs.Laws.Lists.{here, at_mem}
use Rattle.theory.proofs.Laws.Syntax.{update, update_same, send_update, same_term_iff, map_atom_agree, terms_atoms}
use Rattle.theory.proofs.Laws.Unbound.{standing, unbound_answers, unbound_elsewhere, unbound_once}
use Rattle.theory.proofs.Laws.Fresh.{fresh_new}
use Rattle.theory.specs.Laws.Rules.{Within}

-- ---- descriptions

-- a concept name says nothing of "something"
abbrev pub Plain : Basic → Type 0
Plain (named A) = Unit {0}
Plain (has P) = ⊥
Plain (has_inverse P) = ⊥

module _ {X : Type 0} where
  instance_plain : (B : Basic) (x y y' : X) → Plain B → instance B x y ≡ instance B x y'
  instance_plain (named A) x y y' p = refl
  instance_plain (has P) x y y' p = absurd p
  instance_plain (has_inverse P) x y y' p = absurd p

  instance_bearer : (B : Basic) (x y : X) → x ∈ args (instance B x y)
  instance_bearer (named A) x y = here
  instance_bearer (has P) x y = here
  instance_bearer (has_inverse P) x y = Memᴰ.tail here

  instance_other : (B : Basic) (x y : X) → ¬ Plain B → y ∈ args (instance B x y)
  instance_other (named A) x y n = absurd (n tt)
  instance_other (has P) x y n = Memᴰ.tail here
  instance_other (has_inverse P) x y n = here

  -- what stands in a description's instance
  instance_args : (B : Basic) (x y z : X) → z ∈ args (instance B x y) → (z ≡ x) ⊎ ((¬ Plain B) × (z ≡ y))
  instance_args (named A) x y z m = inl (Memᴰ.eq_of_singleton m)
  instance_args (has P) x y z m = elim (Memᴰ.cases_cons m) [ inl e ↦ inl e | inr n ↦ inr (λ p. p, Memᴰ.eq_of_singleton n) ]
  instance_args (has_inverse P) x y z m =
      elim (Memᴰ.cases_cons m) [ inl e ↦ inr (λ p. p, e) | inr n ↦ inl (Memᴰ.eq_of_singleton n) ]

map_atom_instance : {X Y : Type 0} (f : X → Y) (B : Basic) (x y : X) → map_atom f (instance B x y) ≡ instance B (f x) (f y)
map_atom_instance f (named A) x y = refl
map_atom_instance f (has P) x y = refl
map_atom_instance f (has_inverse P) x y = refl

map_atom_oriented : {X Y : Type 0} (f : X → Y) (b : Bool) (P : ℕ) (x y : X) → map_atom f (oriented b P x y) ≡ oriented b P (f x) (f y)
map_atom_oriented f false P x y = refl
map_atom_oriented f true P x y = refl

-- the two ways round have the same terms
oriented_args : {X : Type 0} (b : Bool) (P Q : ℕ) (x y z : X) → z ∈ args (oriented b P x y) → z ∈ args (role Q x y)
oriented_args false P Q x y z m = m
oriented_args true P Q x y z m =
    elim (Memᴰ.cases_cons m) [
      | inl e ↦ Memᴰ.tail (Memᴰ.head e)
      | inr n ↦ Memᴰ.head (Memᴰ.eq_of_singleton n)
    ]

args_oriented : {X : Type 0} (b : Bool) (P Q : ℕ) (x y z : X) → z ∈ args (role Q x y) → z ∈ args (oriented b P x y)
args_oriented false P Q x y z m = m
args_oriented true P Q x y z m = oriented_args true Q P y x z m

-- an atom whose image is a description's instance is one itself
instance_image : {X Y : Type 0} (f : X → Y) (B : Basic) (a : Atom X) (x y : Y) → map_atom f a ≡ instance B x y
    → (s t : X) × (a ≡ instance B s t) × (f s ≡ x) × (Plain B ⊎ ((¬ Plain B) × (f t ≡ y)))
instance_image f (named A) (concept B s) x y e = (s, s, (let d : B ≡ A = cc in ap (λ R. concept R s) d), cc, inl tt)
instance_image f (named A) (role Q s t) x y e = absurd (let z : ◌≡◌ {A = ℕ} 0 1 = cc in omega arith)
instance_image f (has P) (concept B s) x y e = absurd (let z : ◌≡◌ {A = ℕ} 0 1 = cc in omega arith)
instance_image f (has P) (role Q s t) x y e = (s, t, (let d : Q ≡ P = cc in ap (λ R. role R s t) d), cc, inr (λ p. p, cc))
instance_image f (has_inverse P) (concept B s) x y e = absurd (let z : ◌≡◌ {A = ℕ} 0 1 = cc in omega arith)
instance_image f (has_inverse P) (role Q t s) x y e = (s, t, (let d : Q ≡ P = cc in ap (λ R. role R t s) d), cc, inr (λ p. p, cc))

-- ---- the term of which an atom says a description

-- a role atom whose other term is unbound
bearer_role : (q : Query) (P Q : ℕ) (s u : Term) {t : Term} → guard (eqb P Q && unbound q u) s ≡ some t
    → (P ≡ Q) × (s ≡ t) × T (unbound q u)
bearer_role q P Q s u e =
    let g = guard_some (eqb P Q && unbound q u) e in
    let w = (T_and (eqb P Q) (unbound q u)).0 g.0 in
    ((T_eqb P Q).0 w.0, g.1, w.1)

bearer_some : (q : Query) (B : Basic) (a : Atom Term) {t : Term} → bearer q B a ≡ some t
    → (u : Term) × (a ≡ instance B t u) × (Plain B ⊎ ((¬ Plain B) × T (unbound q u)))
unfolding bearer
bearer_some q (named A) (concept B s) {t} e =
    let g = guard_some (eqb A B) e in let d : A ≡ B = (T_eqb A B).0 g.0 in let f : s ≡ t = g.1 in (t, cc, inl tt)
bearer_some q (named A) (role Q s u) e = absurd (none≢some e)
bearer_some q (has P) (concept B s) e = absurd (none≢some e)
bearer_some q (has P) (role Q s u) {t} e =
    let w = bearer_role q P Q s u e in let d : P ≡ Q = w.0 in let f : s ≡ t = w.1 in (u, cc, inr (λ p. p, w.2))
bearer_some q (has_inverse P) (concept B s) e = absurd (none≢some e)
bearer_some q (has_inverse P) (role Q u s) {t} e =
    let w = bearer_role q P Q s u e in let d : P ≡ Q = w.0 in let f : s ≡ t = w.1 in (u, cc, inr (λ p. p, w.2))

bearer_of : (q : Query) (B : Basic) (t u : Term) → Plain B ⊎ T (unbound q u) → bearer q B (instance B t u) ≡ some t
unfolding bearer
bearer_of q (named A) t u p = guard_true (eqb A A) ((T_eqb A A).1 refl)
bearer_of q (has P) t u p =
    guard_true (eqb P P && unbound q u) ((T_and (eqb P P) (unbound q u)).1 ((T_eqb P P).1 refl, elim p [ inl x ↦ absurd x | inr y ↦ y ]))
bearer_of q (has_inverse P) t u p =
    guard_true (eqb P P && unbound q u) ((T_and (eqb P P) (unbound q u)).1 ((T_eqb P P).1 refl, elim p [ inl x ↦ absurd x | inr y ↦ y ]))

-- ---- the facts in which a rule's nulls come up

-- a is the fact by which the rule at index i makes the null of the bearer c
abbrev pub Makes : ℕ → Rule → Thing → Atom Thing → Type 0
Makes i (concept_inclusion left right) c a = (¬ Plain right) × (a ≡ instance right c (null i c))
Makes i (role_inclusion left exchanged right) c a = ⊥

pub makes_unique : (i : ℕ) (r : Rule) (c : Thing) (a b : Atom Thing) → Makes i r c a → Makes i r c b → a ≡ b
makes_unique i (concept_inclusion left right) c a b m n = m.1 ∙ sym n.1
makes_unique i (role_inclusion left exchanged right) c a b m n = absurd m

-- A thing in a conclusion stands in what the rule used, or is the null that the conclusion makes.
pub concludes_args : (H : Held) (i : ℕ) (r : Rule) (a : Atom Thing) (z : Thing) → Concludes H i r a → z ∈ args a
    → ((b : Atom Thing) × H b × (z ∈ args b)) ⊎ ((c : Thing) × (z ≡ null i c) × Makes i r c a)
concludes_args H i (concept_inclusion left right) a z w m =
    elim (instance_args right w.0 (null i w.0) z (subst (λ b. z ∈ args b) w.3 m)) [
      | inl e ↦ inl (instance left w.0 w.1, w.2, Memᴰ.cast e (instance_bearer left w.0 w.1))
      | inr p ↦ inr (w.0, p.1, (p.0, w.3))
    ]
concludes_args H i (role_inclusion left exchanged right) a z w m =
    inl (role left w.0 w.1, w.2, oriented_args exchanged right left w.0 w.1 z (subst (λ b. z ∈ args b) w.3 m))

-- ---- a rule that rewrites an atom concludes it

-- If the rule at index k makes b of the atom a of q, and a match holds b, then some match for which the rule concludes a's
-- image agrees with it on everything else that stands in q.
abbrev pub Concluded : Query → Held → ℕ → ℕ → Rule → Atom Term → (ℕ → Thing) → Type 0
Concluded q H i k r a h =
    (h' : ℕ → Thing) × Concludes H k r (map_atom (value h') a)
    × ((t : Term) → t ∈ q.answers → value h' t ≡ value h t)
    × ((j : ℕ) (c : Atom Term) → At q.atoms j c → j ≢ i → map_atom (value h') c ≡ map_atom (value h) c)

-- an unbound variable u of the atom at i may be sent anywhere: nothing else that stands in q changes
update_unbound : (q : Query) (i u : ℕ) (a : Atom Term) (h : ℕ → Thing) (y : Thing) → At q.atoms i a → T (unbound q (var u))
    → var u ∈ args a
    → ((t : Term) → t ∈ q.answers → value (update h u y) t ≡ value h t)
    × ((j : ℕ) (c : Atom Term) → At q.atoms j c → j ≢ i → map_atom (value (update h u y)) c ≡ map_atom (value h) c)
update_unbound q i u a h y at un m = (
  λ t n. send_update object h u y t (λ e. unbound_answers q u un (Memᴰ.cast (sym e) n)),
  λ j c atc d. map_atom_agree (value (update h u y)) (value h) c
      (λ t n. send_update object h u y t (λ e. d (sym (unbound_elsewhere q u i j a c un at atc m (Memᴰ.cast (sym e) n))))),
)

unbound_const : (q : Query) (c : ℕ) → T (unbound q (const c)) → ⊥
unfolding unbound
unbound_const q c x = x

-- a description's instance does not have an unbound variable at both places
instance_once : (q : Query) (i u : ℕ) (B : Basic) → ¬ Plain B → T (unbound q (var u)) → At q.atoms i (instance B (var u) (var u)) → ⊥
instance_once q i u (named A) n un at = n tt
instance_once q i u (has P) n un at = unbound_once q u i P un at
instance_once q i u (has_inverse P) n un at = unbound_once q u i P un at

instance_sound : (q : Query) (H : Held) (i k : ℕ) (left right : Basic) (t u : Term) (z : ℕ) (h : ℕ → Thing)
    → At q.atoms i (instance right t u)
    → Plain right ⊎ ((¬ Plain right) × T (unbound q u)) → H (map_atom (value h) (instance left t (var z)))
    → Concluded q H i k (concept_inclusion left right) (instance right t u) h
instance_sound q H i k left right t u z h at (inl p) holds = (
  h,
  (
    value h t,
    h z,
    subst H (map_atom_instance (value h) left t (var z)) holds,
    map_atom_instance (value h) right t u ∙ instance_plain right (value h t) (value h u) (null k (value h t)) p,
  ),
  λ s m. refl,
  λ j c atc d. refl,
)
instance_sound q H i k left right t (const c) z h at (inr w) holds = absurd (unbound_const q c w.1)
instance_sound q H i k left right t (var x) z h at (inr w) holds = (
  update h x new,
  (
    value h t,
    h z,
    subst H (map_atom_instance (value h) left t (var z)) holds,
    map_atom_instance (value (update h x new)) right t (var x)
        ∙ ap₂ (instance right) (send_update object h x new t apart) (update_same h x new),
  ),
  rest.0,
  rest.1,
)
  where
    new : Thing
    new = null k (value h t)

    apart : t ≢ var x
    apart e = instance_once q i x right w.0 w.1 (subst (λ s. At q.atoms i (instance right s (var x))) e at)

    rest : ((s : Term) → s ∈ q.answers → value (update h x new) s ≡ value h s)
        × ((j : ℕ) (c : Atom Term) → At q.atoms j c → j ≢ i → map_atom (value (update h x new)) c ≡ map_atom (value h) c)
    rest = update_unbound q i x (instance right t (var x)) h new at w.1 (instance_other right t (var x) w.0)

pub rewrite_concludes : (q : Query) (H : Held) (i k : ℕ) (r : Rule) (a b : Atom Term) (h : ℕ → Thing) → At q.atoms i a
    → rewrite_atom q r a ≡ some b → H (map_atom (value h) b) → Concluded q H i k r a h
unfolding rewrite_atom
rewrite_concludes q H i k (concept_inclusion left right) a b h at e holds =
    let w = and_then_some (bearer q right a) e in
    let s = bearer_some q right a w.1 in
    subst (λ c. Concluded q H i k (concept_inclusion left right) c h) (sym s.1)
    (instance_sound q H i k left right w.0 s.0 (fresh q) h (subst (λ c. At q.atoms i c) s.1 at) s.2
    (subst (λ c. H (map_atom (value h) c)) (sym (some_inj w.2)) holds))
rewrite_concludes q H i k (role_inclusion left exchanged right) (concept B t) b h at e holds = absurd (none≢some e)
rewrite_concludes q H i k (role_inclusion left exchanged right) (role Q t u) b h at e holds =
    let g = guard_some (eqb right Q) e in
    (h, go exchanged ((T_eqb right Q).0 g.0) (subst (λ c. H (map_atom (value h) c)) (sym g.1) holds), λ s m. refl, λ j c atc d. refl)
  where
    go : (x : Bool) → right ≡ Q → H (map_atom (value h) (oriented x left t u))
        → Concludes H k (role_inclusion left x right) (role Q (value h t) (value h u))
    go false d held = (value h t, value h u, held, ap (λ R. role R (value h t) (value h u)) (sym d))
    go true d held = (value h u, value h t, held, ap (λ R. role R (value h t) (value h u)) (sym d))

-- ---- a rule that concludes an atom's image rewrites the atom, or its null stands at a bound variable

-- the rule fits the atom, and a match that agrees on everything in q holds what it makes
abbrev pub Rewritten : Query → Held → Rule → Atom Term → (ℕ → Thing) → Type 0
Rewritten q H r a h =
    (b : Atom Term) × (h' : ℕ → Thing) × (rewrite_atom q r a ≡ some b) × H (map_atom (value h') b)
    × ((t : Term) → t ∈ terms q → value h' t ≡ value h t)

-- the atom's image makes a null, which stands at one place of the atom, at a variable that is not unbound
abbrev pub AtBound : Query → ℕ → Rule → Atom Term → (ℕ → Thing) → Type 0
AtBound q k r a h =
    (u : ℕ) × (c : Thing) × (h u ≡ null k c) × Makes k r c (map_atom (value h) a)
    × (standing u a ≡ 1) × (¬ T (unbound q (var u)))

-- a null is fixed by rule index and bearer, and is not its own bearer
pub null_inj : (i j : ℕ) (c d : Thing) → null i c ≡ null j d → (i ≡ j) × (c ≡ d)
null_inj i j c d e = (cc, cc)

null_grows : (k : ℕ) (c : Thing) → ¬ (c ≡ null k c)
null_grows k (object o) e = let z : ◌≡◌ {A = ℕ} 0 1 = cc in omega arith
null_grows k (null j c) e =
    let w = null_inj j k c (null j c) e in
    null_grows k c (w.1 ∙ ap (λ i. null i c) w.0)

-- the other term stands once in a description's instance
standing_instance : (B : Basic) (t : Term) (u : ℕ) → ¬ Plain B → t ≢ var u → standing u (instance B t (var u)) ≡ 1
unfolding count
standing_instance (named A) t u n d = absurd (n tt)
standing_instance (has P) t u n d =
    rw (
      is_false (same_term (var u) t) (λ x. d (sym ((same_term_iff (var u) t).0 x))),
      is_true (same_term (var u) (var u)) ((same_term_iff (var u) (var u)).1 refl),
    )
standing_instance (has_inverse P) t u n d =
    rw (
      is_false (same_term (var u) t) (λ x. d (sym ((same_term_iff (var u) t).0 x))),
      is_true (same_term (var u) (var u)) ((same_term_iff (var u) (var u)).1 refl),
    )

-- the rule fits: its fresh variable is sent to the witness
instance_rewritten : (q : Query) (H : Held) (left right : Basic) (t u : Term) (h : ℕ → Thing) (y : Thing) → t ∈ terms q
    → H (instance left (value h t) y) → Plain right ⊎ T (unbound q u) → Rewritten q H (concept_inclusion left right) (instance right t u) h
unfolding rewrite_atom
instance_rewritten q H left right t u h y m holds w = (
  instance left t (var (fresh q)),
  update h (fresh q) y,
  and_then_at (λ s. some (instance left s (var (fresh q)))) (bearer_of q right t u w),
  subst H (sym (map_atom_instance (value (update h (fresh q) y)) left t (var (fresh q))
      ∙ ap₂ (instance left) (agrees t m) (update_same h (fresh q) y))) holds,
  agrees,
)
  where
    agrees : (s : Term) → s ∈ terms q → value (update h (fresh q) y) s ≡ value h s
    agrees s n = send_update object h (fresh q) y s (λ e. fresh_new q (Memᴰ.cast (sym e) n))

instance_complete : (q : Query) (H : Held) (k : ℕ) (left right : Basic) (t u : Term) (h : ℕ → Thing) (y : Thing) → t ∈ terms q
    → H (instance left (value h t) y) → Plain right ⊎ ((¬ Plain right) × (value h u ≡ null k (value h t)))
    → Rewritten q H (concept_inclusion left right) (instance right t u) h
    ⊎ AtBound q k (concept_inclusion left right) (instance right t u) h
instance_complete q H k left right t u h y m holds (inl p) = inl (instance_rewritten q H left right t u h y m holds (inl p))
instance_complete q H k left right t (const c) h y m holds (inr w) = let e = w.1 in absurd (let z : ◌≡◌ {A = ℕ} 0 1 = cc in omega arith)
instance_complete q H k left right t (var v) h y m holds (inr w) =
    elim (either (unbound q (var v))) [
      | inl un ↦ inl (instance_rewritten q H left right t (var v) h y m holds (inr un))
      | inr bo ↦ inr (
        v,
        value h t,
        w.1,
        (w.0, map_atom_instance (value h) right t (var v) ∙ ap (instance right (value h t)) w.1),
        standing_instance right t v w.0 (λ e. null_grows k (value h t) (ap (value h) e ∙ w.1)),
        bo,
      )
    ]

pub concludes_rewritten : (q : Query) (H : Held) (i k : ℕ) (r : Rule) (a : Atom Term) (h : ℕ → Thing) → At q.atoms i a
    → Concludes H k r (map_atom (value h) a) → Rewritten q H r a h ⊎ AtBound q k r a h
unfolding rewrite_atom
concludes_rewritten q H i k (concept_inclusion left right) a h at w =
    let s = instance_image (value h) right a w.0 (null k w.0) w.3 in
    subst (λ c. Rewritten q H (concept_inclusion left right) c h ⊎ AtBound q k (concept_inclusion left right) c h) (sym s.2)
    (instance_complete q H k left right s.0 s.1 h w.1
    (terms_atoms q (subst (λ c. c ∈ q.atoms) s.2 (at_mem q.atoms i at)) (instance_bearer right s.0 s.1))
    (subst (λ x. H (instance left x w.1)) (sym s.3) w.2)
    (elim s.4 [ inl p ↦ inl p | inr p ↦ inr (p.0, p.1 ∙ ap (null k) (sym s.3)) ]))
concludes_rewritten q H i k (role_inclusion left exchanged right) (concept B t) h at w = absurd (never exchanged w.3)
  where
    never : (x : Bool) → map_atom (value h) (concept B t) ≡ oriented x right w.0 w.1 → ⊥
    never true e = let z : ◌≡◌ {A = ℕ} 0 1 = cc in omega arith
    never false e = let z : ◌≡◌ {A = ℕ} 0 1 = cc in omega arith
concludes_rewritten q H i k (role_inclusion left exchanged right) (role Q t u) h at w =
    inl (go exchanged w.2 w.3)
  where
    go : (x : Bool) → H (role left w.0 w.1) → role Q (value h t) (value h u) ≡ oriented x right w.0 w.1
        → Rewritten q H (role_inclusion left x right) (role Q t u) h
    go false held e =
        let d : right ≡ Q = cc in let f : w.0 ≡ value h t = cc in let g : w.1 ≡ value h u = cc in
        (role left t u, h, guard_true (eqb right Q) ((T_eqb right Q).1 d), subst H (ap₂ (role left) f g) held, λ s m. refl)
    go true held e =
        let d : right ≡ Q = cc in let f : w.0 ≡ value h u = cc in let g : w.1 ≡ value h t = cc in
        (role left u t, h, guard_true (eqb right Q) ((T_eqb right Q).1 d), subst H (ap₂ (role left) f g) held, λ s m. refl)

-- ---- a rule makes of an atom's image the image of what it makes of the atom

-- f keeps unbound terms unbound, and g, which agrees with f on the atom, takes the fresh variable of p to that of q
module _ (p q : Query) (f g : Term → Term) (keeps : (t : Term) → T (unbound p t) → T (unbound q (f t))) (to-fresh : g (var (fresh p))
    ≡ var (fresh q)) where
  pub rewrite_image : (r : Rule) (a b : Atom Term) → ((t : Term) → t ∈ args a → g t ≡ f t) → rewrite_atom p r a ≡ some b
      → (rewrite_atom q r (map_atom f a) ≡ some (map_atom g b)) × Within p a b
  unfolding rewrite_atom
  rewrite_image (concept_inclusion left right) a b agree e =
      let w = and_then_some (bearer p right a) e in
      let s = bearer_some p right a w.1 in
      let d : instance left w.0 (var (fresh p)) ≡ b = some_inj w.2 in
      let n : w.0 ∈ args a = subst (λ c. w.0 ∈ args c) (sym s.1) (instance_bearer right w.0 s.0) in (
        fits w.0 s.0 s.1 (elim s.2 [ inl x ↦ inl x | inr x ↦ inr (keeps s.0 x.1) ])
            ∙ ap some (ap₂ (instance left) (sym (agree w.0 n)) (sym to-fresh) ∙ sym (map_atom_instance g left w.0 (var (fresh p)))
            ∙ ap (map_atom g) d),
        λ t k. elim (instance_args left w.0 (var (fresh p)) t (subst (λ c. t ∈ args c) (sym d) k)) [
          | inl x ↦ inl (Memᴰ.cast x n)
          | inr x ↦ inr x.1
        ],
      )
    where
      fits : (s t : Term) → a ≡ instance right s t → Plain right ⊎ T (unbound q (f t))
          → and_then (bearer q right (map_atom f a)) (λ x. some (instance left x (var (fresh q))))
          ≡ some (instance left (f s) (var (fresh q)))
      fits s t d x =
          and_then_at (λ x. some (instance left x (var (fresh q))))
          (ap (bearer q right) (ap (map_atom f) d ∙ map_atom_instance f right s t) ∙ bearer_of q right (f s) (f t) x)
  rewrite_image (role_inclusion left exchanged right) (concept B t) b agree e = absurd (none≢some e)
  rewrite_image (role_inclusion left exchanged right) (role Q s t) b agree e =
      let w = guard_some (eqb right Q) e in
      let within : (x : Term) → x ∈ args b → x ∈ args (role Q s t) =
      λ x k. oriented_args exchanged left Q s t x (subst (λ c. x ∈ args c) (sym w.1) k) in (
        guard_true (eqb right Q) w.0
            ∙ ap some (sym (map_atom_oriented f exchanged left s t) ∙ ap (map_atom f) w.1
            ∙ sym (map_atom_agree g f b (λ x k. agree x (within x k)))),
        λ x k. inl (within x k),
      )

-- ---- what a rule makes of an atom is said by the rule's left side, of the atom's terms and the fresh variable

-- names of concepts and names of roles of which something holds
module _ (IsConcept IsRole : ℕ → Type 0) where
  -- the name of a description, the name on the left side of a rule
  abbrev pub BasicOf : Basic → Type 0
  BasicOf (named A) = IsConcept A
  BasicOf (has P) = IsRole P
  BasicOf (has_inverse P) = IsRole P

  abbrev pub LeftOf : Rule → Type 0
  LeftOf (concept_inclusion left right) = BasicOf left
  LeftOf (role_inclusion left exchanged right) = IsRole left

  -- an atom with such a name over terms of which something holds
  module _ (IsTerm : Term → Type 0) where
    abbrev pub AtomOf : Atom Term → Type 0
    AtomOf (concept A t) = IsConcept A × IsTerm t
    AtomOf (role P t u) = IsRole P × IsTerm t × IsTerm u

    instance_of : (B : Basic) (t u : Term) → BasicOf B → IsTerm t → IsTerm u → AtomOf (instance B t u)
    instance_of (named A) t u n h k = (n, h)
    instance_of (has P) t u n h k = (n, h, k)
    instance_of (has_inverse P) t u n h k = (n, k, h)

    oriented_of : (b : Bool) (P : ℕ) (t u : Term) → IsRole P → IsTerm t → IsTerm u → AtomOf (oriented b P t u)
    oriented_of false P t u n h k = (n, h, k)
    oriented_of true P t u n h k = (n, k, h)

    pub rewrite_keeps : (q : Query) (r : Rule) (a b : Atom Term) → LeftOf r → IsTerm (var (fresh q))
        → ((t : Term) → t ∈ args a → IsTerm t) → rewrite_atom q r a ≡ some b → AtomOf b
    unfolding rewrite_atom
    rewrite_keeps q (concept_inclusion left right) a b n new h e =
        let w = and_then_some (bearer q right a) e in
        let s = bearer_some q right a w.1 in
        let stands : w.0 ∈ args a = subst (λ c. w.0 ∈ args c) (sym s.1) (instance_bearer right w.0 s.0) in
        subst AtomOf (some_inj w.2) (instance_of left w.0 (var (fresh q)) n (h w.0 stands) new)
    rewrite_keeps q (role_inclusion left exchanged right) (concept B t) b n new h e = absurd (none≢some e)
    rewrite_keeps q (role_inclusion left exchanged right) (role Q t u) b n new h e =
        subst AtomOf (guard_some (eqb right Q) e).1 (oriented_of exchanged left t u n (h t here) (h u (Memᴰ.tail here)))

-- an answer variable that stands in the atom stands in what is made of it
pub rewrite_answer : (q : Query) (r : Rule) (a b : Atom Term) (v : ℕ) → rewrite_atom q r a ≡ some b → var v ∈ q.answers → var v ∈ args a
    → var v ∈ args b
unfolding rewrite_atom
rewrite_answer q (concept_inclusion left right) a b v e answer m =
    let w = and_then_some (bearer q right a) e in
    let s = bearer_some q right a w.1 in
    let made : instance left w.0 (var (fresh q)) ≡ b = some_inj w.2 in
    elim (instance_args right w.0 s.0 (var v) (subst (λ c. var v ∈ args c) s.1 m)) [
      | inl d ↦ subst (λ c. var v ∈ args c) made (Memᴰ.cast d (instance_bearer left w.0 (var (fresh q))))
      | inr n ↦ elim s.2 [
        | inl p ↦ absurd (n.0 p)
        | inr u ↦ absurd (unbound_answers q v (subst (λ t. T (unbound q t)) (sym n.1) u.1) answer)
      ]
    ]
rewrite_answer q (role_inclusion left exchanged right) (concept B t) b v e answer m = absurd (none≢some e)
rewrite_answer q (role_inclusion left exchanged right) (role Q t u) b v e answer m =
    subst (λ c. var v ∈ args c) (guard_some (eqb right Q) e).1 (args_oriented exchanged left Q t u (var v) m)
