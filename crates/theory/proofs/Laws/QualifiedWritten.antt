-- 02, T-04: what is held in a round over rules as written is held, over the rules as read, after twice as many rounds: one for the helper,
-- one for role and filler.
use Rattle.std.specs.Prelude.{◌≡◌, refl, ℕ, zero, suc, ◌+◌, ◌≤◌, Bool, true, false, not, List, [], ◌∷◌}
use Rattle.std.proofs.Common.{sym, ap, ◌∙◌, subst, inl, inr, eq-or-lt_of_le, le_of_suc-le-suc, arith}
use mathlib.Core.List.Memᴰ
use Rattle.theory.specs.Lists.{◌∈◌}
use Rattle.theory.specs.Syntax.{Atom, concept, role, Basic, named, has, has_inverse, Rule, concept_inclusion, role_inclusion, Fact}
use Rattle.theory.specs.Syntax.{Thing, null, map_atom, instance, oriented}
use Rattle.theory.specs.Chase.{Held, Concludes, Round}
use Rattle.theory.specs.Qualified.{WrittenRule, plain, qualified, some_role, placed_rules, rules_read, roles_of_basic, roles_of_rule}
use Rattle.theory.specs.Qualified.{roles_of_atom}
use Rattle.theory.specs.QualifiedChase.{ConcludesAsWritten, RoundAsWritten}
use Rattle.theory.specs.Laws.Lists.{mem_along}
use Rattle.theory.proofs.Laws.Chase.{round_later}
use Rattle.theory.proofs.Laws.QualifiedPlaces.{read_at}

-- ---- roles of atoms

module _ {X : Type 0} where
  pub instance_roles : (B : Basic) (x y : X) → roles_of_atom (instance B x y) ≡ roles_of_basic B
  instance_roles (named A) x y = refl
  instance_roles (has P) x y = refl
  instance_roles (has_inverse P) x y = refl

  pub oriented_roles : (b : Bool) (P : ℕ) (x y : X) → roles_of_atom (oriented b P x y) ≡ P ∷ []
  oriented_roles false P x y = refl
  oriented_roles true P x y = refl

  -- an atom has one role at most
  pub one_role : (a : Atom X) {P Q : ℕ} → P ∈ roles_of_atom a → Q ∈ roles_of_atom a → P ≡ Q
  one_role (concept A x) m n = absurd (Memᴰ.not-nil m)
  one_role (role R x y) m n = Memᴰ.eq_of_singleton m ∙ sym (Memᴰ.eq_of_singleton n)

  -- "has the role to something" of x, with y where it says "something"
  pub some_oriented : (b : Bool) (P : ℕ) (x y : X) → instance (some_role b P) x y ≡ oriented b P x y
  some_oriented false P x y = refl
  some_oriented true P x y = refl

  -- the same seen from the far end
  pub far_oriented : (b : Bool) (P : ℕ) (x y : X) → instance (some_role (not b) P) y x ≡ oriented b P x y
  far_oriented false P x y = refl
  far_oriented true P x y = refl

  -- two roles, the one as the other
  ends : (b : Bool) (x y : X) → (u v : X) × ((P : ℕ) → oriented b P x y ≡ role P u v)
  ends false x y = (x, y, λ P. refl)
  ends true x y = (y, x, λ P. refl)

  pub oriented_alike : (b : Bool) (P Q : ℕ) (u v x y : X) → role P u v ≡ oriented b P x y → role Q u v ≡ oriented b Q x y
  oriented_alike false P Q u v x y e = cc
  oriented_alike true P Q u v x y e = cc

  -- the far end of a role, and what has the role to it
  pub far_end : (b : Bool) (P : ℕ) (u v x y : X) → instance (some_role (not b) P) u v ≡ oriented b P x y → u ≡ y
  far_end false P u v x y e = cc
  far_end true P u v x y e = cc

pub map_roles : {X Y : Type 0} (f : X → Y) (a : Atom X) → roles_of_atom (map_atom f a) ≡ roles_of_atom a
map_roles f (concept A x) = refl
map_roles f (role P x y) = refl

-- ---- what a rule concludes

-- A rule concludes from atoms over its roles, and atoms over its roles.
pub concludes_within : (H H' : Held) (i : ℕ) (r : Rule) (a : Atom Thing)
    → ((b : Atom Thing) → ((P : ℕ) → P ∈ roles_of_atom b → P ∈ roles_of_rule r) → H b → H' b) → Concludes H i r a
    → Concludes H' i r a × ((P : ℕ) → P ∈ roles_of_atom a → P ∈ roles_of_rule r)
concludes_within H H' i (concept_inclusion left right) a more (x, y, h, e) = (
  (x, y, more (instance left x y) (λ P m. Memᴰ.append_left (roles_of_basic right) (mem_along (instance_roles left x y) m)) h, e),
  λ P m. Memᴰ.append_right (roles_of_basic left) (mem_along (ap roles_of_atom e ∙ instance_roles right x (null i x)) m),
)
concludes_within H H' i (role_inclusion left exchanged right) a more (x, y, h, e) = (
  (x, y, more (role left x y) (λ P m. Memᴰ.append_left (right ∷ []) m) h, e),
  λ P m. Memᴰ.tail (mem_along (ap roles_of_atom e ∙ oriented_roles exchanged right x y) m),
)

-- where more is held, no less is concluded
pub concludes_more : (H H' : Held) → ((b : Atom Thing) → H b → H' b) → (i : ℕ) (r : Rule) (a : Atom Thing) → Concludes H i r a
    → Concludes H' i r a
concludes_more H H' more i r a c = (concludes_within H H' i r a (λ b within h. more b h) c).0

-- and so it is of a written rule
pub written_more : (H H' : Held) → ((b : Atom Thing) → H b → H' b) → (i : ℕ) (w : WrittenRule) (a : Atom Thing) → ConcludesAsWritten H i w a
    → ConcludesAsWritten H' i w a
written_more H H' more i (plain rule) a c = concludes_more H H' more i rule a c
written_more H H' more i (qualified left exchanged P filler) a (x, y, h, e) = (x, y, more (instance left x y) h, e)

-- index and rule, replaced by equals
pub concludes_along : (H : Held) (i j : ℕ) (r s : Rule) (a : Atom Thing) → i ≡ j → r ≡ s → Concludes H i r a → Concludes H j s a
concludes_along H i j r s a d e c = subst (λ (k : ℕ). Concludes H k s a) d (subst (λ t. Concludes H i t a) e c)

module _ (ws : List WrittenRule) (facts : List Fact) where
  -- what is held in a round is held in every later one
  pub written_later : (n m : ℕ) → n ≤ m → (a : Atom Thing) → RoundAsWritten ws facts n a → RoundAsWritten ws facts m a
  written_later n zero l a h = let e : n ≡ zero = omega arith in subst (λ k. RoundAsWritten ws facts k a) e h
  written_later n (suc m) l a h =
      elim (eq-or-lt_of_le l) [
        | inl e ↦ subst (λ k. RoundAsWritten ws facts k a) e h
        | inr k ↦ inl (written_later n m (le_of_suc-le-suc k) a h)
      ]

  -- ---- every atom as written is there as read, after two rounds for each

  abbrev pub AsRead : ℕ → Held
  AsRead n = Round (rules_read ws) facts n

  -- what one written rule concludes
  by_rule_lem : (n i H : ℕ) (w : WrittenRule) (a : Atom Thing) → record { index = i; helper = H; rule = w } ∈ placed_rules ws
      → ConcludesAsWritten (AsRead n) i w a → AsRead (suc (suc n)) a
  by_rule_lem n i H (plain rule) a m c =
      let e : i ≡ i + 0 = omega arith in
      inl (inr (i + 0, rule, read_at ws 0 m refl, concludes_along (AsRead n) i (i + 0) rule rule a e refl c))
  by_rule_lem n i H (qualified left exchanged P filler) a m (x, y, h, e) =
      let z : Thing = null i x in
      let d : i ≡ i + 0 = omega arith in
      let k : AsRead (suc n) (oriented exchanged H x z) =
      inr (
        i + 0,
        concept_inclusion left (some_role exchanged H),
        read_at ws 0 m refl,
        (x, y, h, sym (some_oriented exchanged H x z) ∙ ap (λ (j : ℕ). instance (some_role exchanged H) x (null j x)) d),
      )
      in
      elim e [
        | inl f ↦ (let t = ends exchanged x z in
            inr (i + 1, role_inclusion H false P, read_at ws 1 m refl, (t.0, t.1, subst (AsRead (suc n)) (t.2 H) k, f ∙ t.2 P)))
        | inr f ↦ inr (
          i + 2,
          concept_inclusion (some_role (not exchanged) H) (named filler),
          read_at ws 2 m refl,
          (z, x, subst (AsRead (suc n)) (sym (far_oriented exchanged H x z)) k, f),
        )
      ]

  pub written_in_read : (n : ℕ) (a : Atom Thing) → RoundAsWritten ws facts n a → Round (rules_read ws) facts (n + n) a
  written_in_read zero a h = h
  written_in_read (suc n) a (inl h) = round_later (rules_read ws) facts (n + n) (suc n + suc n) (omega arith) a (written_in_read n a h)
  written_in_read (suc n) a (inr (p, m, c)) =
      let d : suc (suc (n + n)) ≡ suc n + suc n = omega arith in
      subst (λ (k : ℕ). AsRead k a) d
      (by_rule_lem (n + n) p.index p.helper p.rule a m
      (written_more (RoundAsWritten ws facts n) (AsRead (n + n)) (λ b h. written_in_read n b h) p.index p.rule a c))
