-- 02, T-04: what is held in a round over the rules as read is held in that round over rules as written, or is an atom over a helper.
-- Helpers must differ, and none may stand in a written rule or a fact (refusal 18).
use Rattle.std.specs.Prelude.{◌≡◌, ◌⊎◌, ℕ, ◌<◌, List}
use Rattle.std.proofs.Common.{sym, ap, ◌∙◌, inl, inr}
use Rattle.theory.specs.Lists.{◌∈◌, Unrepeated}
use Rattle.theory.specs.Syntax.{Atom, Fact, Thing, null, instance, oriented}
use Rattle.theory.specs.Chase.{Round}
use Rattle.theory.specs.Qualified.{WrittenRule, plain, qualified, PlacedRule, placed_rules, rules_read, helper_in}
use Rattle.theory.specs.Qualified.{helpers_of, roles_of_atom, roles_of_rules, roles_of_atoms, Meets18}
use Rattle.theory.specs.QualifiedChase.{RoundAsWritten}
use Rattle.theory.specs.Laws.Lists.{here, mem_along}
use Rattle.theory.proofs.Laws.QualifiedPlaces.{helper_used}
use Rattle.theory.proofs.Laws.QualifiedWritten.{oriented_roles}
use Rattle.theory.proofs.Laws.NamedRounds.{all_named, named_within_written}
use Rattle.theory.proofs.Laws.QualifiedReadBy.{all_known, HelperAtom as HelperAtomBy, WrittenOrHelper as WrittenOrHelperBy}
pub use Rattle.theory.proofs.Laws.QualifiedReadBy.{free_part}

-- all rules may conclude
abbrev each : ℕ → Type 0
each i = Unit {0}

abbrev each_placed : PlacedRule → Type 0
each_placed p = Unit {0}

module _ (ws : List WrittenRule) (facts : List Fact) where
  -- a is the atom over its helper by which a written rule, at index i, makes the unnamed thing for what bore its left description before
  abbrev pub HelperAtom : ℕ → ℕ → ℕ → WrittenRule → Atom Thing → Type 0
  HelperAtom n i H (plain rule) a = ⊥
  HelperAtom n i H (qualified left exchanged P filler) a =
      (m : ℕ) × (x y : Thing) × (m < n) × RoundAsWritten ws facts m (instance left x y) × (a ≡ oriented exchanged H x (null i x))

  -- what is known of an atom that is held in round n as read
  abbrev pub WrittenOrHelper : ℕ → Atom Thing → Type 0
  WrittenOrHelper n a =
      ((¬ Meets18 ws (roles_of_atom a)) × RoundAsWritten ws facts n a)
      ⊎ ((p : PlacedRule) × (p ∈ placed_rules ws) × HelperAtom n p.index p.helper p.rule a)

  -- it is over the helper
  helper_role : (n i H : ℕ) (w : WrittenRule) (a : Atom Thing) → HelperAtom n i H w a → (H ∈ helper_in H w) × (H ∈ roles_of_atom a)
  helper_role n i H (plain rule) a h = absurd h
  helper_role n i H (qualified left exchanged P filler) a (m, x, y, l, h, e) =
      (here, mem_along (sym (ap roles_of_atom e ∙ oriented_roles exchanged H x (null i x))) here)

  -- where no helper stands, an atom is held as written
  pub free_written : (n : ℕ) (a : Atom Thing) → ¬ Meets18 ws (roles_of_atom a) → WrittenOrHelper n a → RoundAsWritten ws facts n a
  free_written n a free (inl w) = w.1
  free_written n a free (inr (p, m, h)) =
      let k = helper_role n p.index p.helper p.rule a h in absurd (free (p.helper, helper_used ws m k.0, k.1))

  -- the same where it is said of some rules, and these are all
  helper_of_all : (n i H : ℕ) (w : WrittenRule) (a : Atom Thing) → HelperAtomBy each each_placed ws facts n i H w a → HelperAtom n i H w a
  helper_of_all n i H (plain rule) a h = h
  helper_of_all n i H (qualified left exchanged P filler) a (m, x, y, l, h, e) =
      (m, x, y, l, named_within_written each_placed ws facts m (instance left x y) h, e)

  known_of_all : (n : ℕ) (a : Atom Thing) → WrittenOrHelperBy each each_placed ws facts n a → WrittenOrHelper n a
  known_of_all n a (inl w) = inl (w.0, named_within_written each_placed ws facts n a w.1)
  known_of_all n a (inr (p, m, h)) = inr (p, m, helper_of_all n p.index p.helper p.rule a h)

  module _ (distinct : Unrepeated (helpers_of ws)) (clean_rules : ¬ Meets18 ws (roles_of_rules ws))
      (clean_facts : ¬ Meets18 ws (roles_of_atoms facts)) where
    -- the theorem on rounds
    pub read_in_written : (n : ℕ) (a : Atom Thing) → Round (rules_read ws) facts n a → WrittenOrHelper n a
    read_in_written n a h =
        known_of_all n a
        (all_known each each_placed ws facts distinct clean_rules clean_facts (λ p m j l t. tt) n a
        (all_named each (rules_read ws) facts (λ i. tt) n a h))
