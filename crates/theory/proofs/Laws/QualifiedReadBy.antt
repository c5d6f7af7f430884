-- 02, T-04 and T-06, where only some rules conclude: what is held in a round over the rules as read is held in that round over rules as
-- written, or is an atom over a helper, if a written rule may conclude wherever one of those that it is read as may. `QualifiedRead` has
-- the case in which all of them do.
use Rattle.std.specs.Prelude.{◌≡◌, refl, ◌⊎◌, Bool, false, not, List, [], ◌∷◌, length}
use Rattle.std.proofs.Common.{sym, ap, ◌∙◌, subst, le_refl, arith}
use Rattle.std.proofs.Math.Logic.{inl, inr}
use Prim.Native.Nat.{ℕ, zero, suc, ◌+◌, ◌<◌}
use mathlib.Core.List.Memᴰ
use Rattle.theory.specs.Lists.{◌∈◌, At, Unrepeated}
use Rattle.theory.specs.Syntax.{Atom, concept, role, Basic, named, Rule, concept_inclusion, role_inclusion, Fact, Thing, object, null}
use Rattle.theory.specs.Syntax.{instance, oriented}
use Rattle.theory.specs.Chase.{Held, Concludes}
use Rattle.theory.specs.Qualified.{WrittenRule, plain, qualified, some_role, read_as, helper_in, first_helper, PlacedRule, placed_rules}
use Rattle.theory.specs.Qualified.{rules_read}
use Rattle.theory.specs.Qualified.{helpers_of, roles_of_basic, roles_of_written, roles_of_atom, roles_of_rules, roles_of_atoms, Meets18}
use Rattle.theory.specs.NamedRules.{RoundBy, RoundAsWrittenBy}
use Rattle.theory.specs.Laws.Options.{some_inj, none≢some}
use Rattle.theory.specs.Laws.Lists.{here, mem_along, flat_map_of, at_lt}
use Rattle.theory.proofs.Laws.QualifiedPlaces.{at_read, placed_written, helper_used, helper_place}
use Rattle.theory.proofs.Laws.QualifiedWritten.{instance_roles, oriented_roles, map_roles, one_role, some_oriented, far_oriented}
use Rattle.theory.proofs.Laws.QualifiedWritten.{oriented_alike, far_end, concludes_within, concludes_along}
use Rattle.theory.proofs.Laws.NamedRounds.{written_later}

-- where no helper stands among roles, none stands among some of them
pub free_part : (ws : List WrittenRule) (roles roles' : List ℕ) → ((P : ℕ) → P ∈ roles → P ∈ roles') → ¬ Meets18 ws roles'
    → ¬ Meets18 ws roles
free_part ws roles roles' part free (H, m, n) = free (H, m, part H n)

-- a written rule may conclude wherever one of the rules that it is read as may
abbrev pub Belongs : (ℕ → Type 0) → (PlacedRule → Type 0) → List WrittenRule → Type 0
Belongs only only' ws =
    (p : PlacedRule) → p ∈ placed_rules ws → (j : ℕ) → j < length (read_as p.helper p.rule) → only (p.index + j) → only' p

module _ (only : ℕ → Type 0) (only' : PlacedRule → Type 0) (ws : List WrittenRule) (facts : List Fact) where
  abbrev AsRead : ℕ → Held
  AsRead n = RoundBy only (rules_read ws) facts n

  abbrev AsWritten : ℕ → Held
  AsWritten n = RoundAsWrittenBy only' ws facts n

  -- a is the atom over its helper by which a written rule, at index i, makes the unnamed thing for what bore its left description before
  abbrev pub HelperAtom : ℕ → ℕ → ℕ → WrittenRule → Atom Thing → Type 0
  HelperAtom n i H (plain rule) a = ⊥
  HelperAtom n i H (qualified left exchanged P filler) a =
      (m : ℕ) × (x y : Thing) × (m < n) × AsWritten m (instance left x y) × (a ≡ oriented exchanged H x (null i x))

  -- what is known of an atom that is held in round n as read
  abbrev pub WrittenOrHelper : ℕ → Atom Thing → Type 0
  WrittenOrHelper n a =
      ((¬ Meets18 ws (roles_of_atom a)) × AsWritten n a)
      ⊎ ((p : PlacedRule) × (p ∈ placed_rules ws) × HelperAtom n p.index p.helper p.rule a)

  -- and of all that are held there
  abbrev AllKnown : ℕ → Type 0
  AllKnown n = (b : Atom Thing) → AsRead n b → WrittenOrHelper n b

  -- the atom over a helper is one in later rounds, too
  helper_later : (n i H : ℕ) (w : WrittenRule) (a : Atom Thing) → HelperAtom n i H w a → HelperAtom (suc n) i H w a
  helper_later n i H (plain rule) a h = h
  helper_later n i H (qualified left exchanged P filler) a (m, x, y, l, h, e) = (m, x, y, omega arith, h, e)

  -- it is over the helper
  pub helper_role : (n i H : ℕ) (w : WrittenRule) (a : Atom Thing) → HelperAtom n i H w a → (H ∈ helper_in H w) × (H ∈ roles_of_atom a)
  helper_role n i H (plain rule) a h = absurd h
  helper_role n i H (qualified left exchanged P filler) a (m, x, y, l, h, e) =
      (here, mem_along (sym (ap roles_of_atom e ∙ oriented_roles exchanged H x (null i x))) here)

  -- where no helper stands, an atom is held as written
  free_written : (n : ℕ) (a : Atom Thing) → ¬ Meets18 ws (roles_of_atom a) → WrittenOrHelper n a → AsWritten n a
  free_written n a free (inl w) = w.1
  free_written n a free (inr (p, m, h)) =
      let k = helper_role n p.index p.helper p.rule a h in absurd (free (p.helper, helper_used ws m k.0, k.1))

  module _ (distinct : Unrepeated (helpers_of ws)) (clean_rules : ¬ Meets18 ws (roles_of_rules ws))
      (clean_facts : ¬ Meets18 ws (roles_of_atoms facts)) (belongs : Belongs only only' ws) where
    -- an atom over the helper of a placed rule is that rule's
    known_helper : (n : ℕ) (a : Atom Thing) (p : PlacedRule) {H : ℕ} → p ∈ placed_rules ws → H ∈ helper_in p.helper p.rule
        → H ∈ roles_of_atom a
        → WrittenOrHelper n a → HelperAtom n p.index p.helper p.rule a
    known_helper n a p {H} m k l (inl w) = absurd (w.0 (H, helper_used ws m k, l))
    known_helper n a p {H} m k l (inr (p', m', h)) =
        let b = helper_role n p'.index p'.helper p'.rule a h in
        let e : p' ≡ p = helper_place ws distinct m' m b.0 (Memᴰ.cast (one_role a b.1 l) k) in
        subst (λ (o : PlacedRule). HelperAtom n o.index o.helper o.rule a) e h

    -- no helper stands in a written rule
    free_rule : {p : PlacedRule} (roles : List ℕ) → p ∈ placed_rules ws → ((P : ℕ) → P ∈ roles → P ∈ roles_of_written p.rule)
        → ¬ Meets18 ws roles
    unfolding roles_of_rules
    free_rule {p} roles m part =
        free_part ws roles (roles_of_rules ws)
        (λ P n. flat_map_of roles_of_written (placed_written 0 first_helper ws m) (part P n)) clean_rules

    -- what a placed rule of 01's concludes from what is known
    by_plain : (n : ℕ) → AllKnown n → (i H : ℕ) (rule : Rule) (a : Atom Thing)
        → record { index = i; helper = H; rule = plain rule } ∈ placed_rules ws
        → only' (record { index = i; helper = H; rule = plain rule })
        → Concludes (AsRead n) i rule a → WrittenOrHelper (suc n) a
    by_plain n known i H rule a m may c =
        let w = concludes_within (AsRead n) (AsWritten n) i rule a
        (λ b part h. free_written n b (free_rule (roles_of_atom b) m part) (known b h)) c
        in
        inl (free_rule (roles_of_atom a) m w.1, inr (_, may, m, w.0))

    -- what a placed rule with a filler concludes from what is known, by each of the three rules that it is read as
    module _ (n : ℕ) (known : AllKnown n) (i H : ℕ) (left : Basic) (exchanged : Bool) (P filler : ℕ)
        (m : record { index = i; helper = H; rule = qualified left exchanged P filler } ∈ placed_rules ws)
        (may : only' (record { index = i; helper = H; rule = qualified left exchanged P filler })) (a : Atom Thing) where
      by_first : Concludes (AsRead n) i (concept_inclusion left (some_role exchanged H)) a → WrittenOrHelper (suc n) a
      by_first (x, y, h, e) =
          let b : Atom Thing = instance left x y in
          let free = free_rule (roles_of_atom b) m (λ Q k. Memᴰ.append_left (P ∷ []) (mem_along (instance_roles left x y) k)) in
          inr (_, m, (n, x, y, le_refl (suc n), free_written n b free (known b h), e ∙ some_oriented exchanged H x (null i x)))

      -- an atom over its helper was made by this rule, and so the written rule concludes what follows
      by_helper : (b : Atom Thing) → ¬ Meets18 ws (roles_of_atom a) → H ∈ roles_of_atom b → AsRead n b
          → ((x : Thing) → b ≡ oriented exchanged H x (null i x)
          → (a ≡ oriented exchanged P x (null i x)) ⊎ (a ≡ concept filler (null i x))) → WrittenOrHelper (suc n) a
      by_helper b free over h follows =
          let (k, x, y, l, g, e) = known_helper n b _ m here over (known b h) in
          inl (free, written_later only' ws facts (suc k) (suc n) (omega arith) a (inr (_, may, m, (x, y, g, follows x e))))

      by_second : (j : ℕ) → Concludes (AsRead n) j (role_inclusion H false P) a → WrittenOrHelper (suc n) a
      by_second j (x, y, h, e) =
          by_helper (role H x y)
          (free_rule (roles_of_atom a) m (λ Q k. Memᴰ.append_right (roles_of_basic left) (mem_along (ap roles_of_atom e) k)))
          here h (λ u f. inl (e ∙ oriented_alike exchanged H P x y u (null i u) f))

      by_third : (j : ℕ) → Concludes (AsRead n) j (concept_inclusion (some_role (not exchanged) H) (named filler)) a
          → WrittenOrHelper (suc n) a
      by_third j (x, y, h, e) =
          by_helper (instance (some_role (not exchanged) H) x y) (λ (Q, k, l). Memᴰ.not-nil (mem_along (ap roles_of_atom e) l))
          (mem_along (sym (ap roles_of_atom (far_oriented exchanged H y x) ∙ oriented_roles exchanged H y x)) here) h
          (λ u f. inr (e ∙ ap (concept filler) (far_end exchanged H x y u (null i u) f)))

    -- so what it concludes by the rule at index d of them
    step : (n : ℕ) → AllKnown n → (i H : ℕ) (w : WrittenRule) (d j : ℕ) (r : Rule) (a : Atom Thing)
        → record { index = i; helper = H; rule = w } ∈ placed_rules ws → only' (record { index = i; helper = H; rule = w }) → j ≡ i + d
        → At (read_as H w) d r → Concludes (AsRead n) j r a → WrittenOrHelper (suc n) a
    step n known i H (plain rule) zero j r a m may e at c =
        let f : j ≡ i = omega arith in
        by_plain n known i H rule a m may (concludes_along (AsRead n) j i r rule a f (sym (some_inj at)) c)
    step n known i H (plain rule) (suc d) j r a m may e at c = absurd (none≢some at)
    step n known i H (qualified left exchanged P filler) zero j r a m may e at c =
        let f : j ≡ i = omega arith in
        by_first n known i H left exchanged P filler m may a (concludes_along (AsRead n) j i r _ a f (sym (some_inj at)) c)
    step n known i H (qualified left exchanged P filler) (suc zero) j r a m may e at c =
        by_second n known i H left exchanged P filler m may a j (concludes_along (AsRead n) j j r _ a refl (sym (some_inj at)) c)
    step n known i H (qualified left exchanged P filler) (suc (suc zero)) j r a m may e at c =
        by_third n known i H left exchanged P filler m may a j (concludes_along (AsRead n) j j r _ a refl (sym (some_inj at)) c)
    step n known i H (qualified left exchanged P filler) (suc (suc (suc d))) j r a m may e at c = absurd (none≢some at)

    -- so all that is held as read is known
    pub all_known : (n : ℕ) (a : Atom Thing) → AsRead n a → WrittenOrHelper n a
    unfolding roles_of_atoms
    all_known zero a (f, m, e) =
        inl (
          free_part ws (roles_of_atom a) (roles_of_atoms facts)
              (λ P k. flat_map_of roles_of_atom m (mem_along (ap roles_of_atom e ∙ map_roles object f) k)) clean_facts,
          (f, m, e),
        )
    all_known (suc n) a (inl h) =
        elim (all_known n a h) [
          | inl w ↦ inl (w.0, inl w.1)
          | inr (p, m, k) ↦ inr (p, m, helper_later n p.index p.helper p.rule a k)
        ]
    all_known (suc n) a (inr (j, r, may, at, c)) =
        let (p, m, d, e, f) = at_read ws j at in
        let may' : only' p = belongs p m d (at_lt (read_as p.helper p.rule) d f) (subst only e may) in
        step n (λ b h. all_known n b h) p.index p.helper p.rule d j r a m may' e f c

    -- the theorem on rounds
    pub read_in_written_by : (n : ℕ) (a : Atom Thing) → ¬ Meets18 ws (roles_of_atom a) → RoundBy only (rules_read ws) facts n a
        → RoundAsWrittenBy only' ws facts n a
    read_in_written_by n a free h = free_written n a free (all_known n a h)
