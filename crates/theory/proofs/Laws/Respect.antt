-- Steps respect renaming: from queries that are alike the steps lead to queries that are alike.
use Rattle.std.specs.Prelude.{◌≡◌, ◌≢◌, ℕ, ◌<◌, List}
use Rattle.std.proofs.Common.{sym, ap, ◌∙◌, subst, inl, inr, arith}
use Rattle.std.proofs.Math.Option.{some}
use Rattle.theory.specs.Lists.{◌∈◌, At, Unrepeated}
use Rattle.theory.specs.Syntax.{Term, const, Atom, Rule, Query, map_atom, rename}
use Rattle.theory.specs.Rewriting.{unify, substitute, merge_step, StepTo}
use Rattle.theory.specs.Renaming.{Alike}
use Rattle.theory.specs.Laws.Lists.{at_mem, mem_at, at_equal, unrepeated_at}
use Rattle.theory.proofs.Laws.Unifier.{unify_equal}
use Rattle.theory.proofs.Laws.Steps.{merge_step_iff, merge_step_either}
use Rattle.theory.proofs.Laws.Equivalence.{undo, atom_undone, image_injective}
use Rattle.theory.proofs.Laws.Merging.{unifies_most_general, merged_alike}
use Rattle.theory.proofs.Laws.RespectRules.{rule_respected}

-- ---- merges

module _ (p q : Query) (r : Alike p q) where
  -- atoms at two places of p have their images at two places of q
  images_apart : Unrepeated p.atoms → (i j k l : ℕ) (a b : Atom Term) → i ≢ j → At p.atoms i a → At p.atoms j b
      → At q.atoms k (map_atom (rename r.to) a) → At q.atoms l (map_atom (rename r.to) b) → k ≢ l
  images_apart u i j k l a b d e f g h z =
      let same : a ≡ b = image_injective p q r a b (at_mem p.atoms i e) (at_mem p.atoms j f) (at_equal q.atoms z g h) in
      d (unrepeated_at p.atoms u i j (e ∙ ap some same) f)

  -- the images of two merged atoms merge
  pub merge_respected : Unrepeated p.atoms → (i j : ℕ) (s : Query) → merge_step p i j ≡ some s
      → (k l : ℕ) × (t : Query) × (merge_step q k l ≡ some t) × Alike s t
  merge_respected u i j s e =
      let w = (merge_step_iff p i j s).0 e in let before : i < j = w.0 in go w.1 w.2 w.3 (omega arith) w.4 w.5 w.6 w.7
    where
      go : (a b : Atom Term) (σ : ℕ → Term) → i ≢ j → At p.atoms i a → At p.atoms j b → unify a b ≡ some σ → substitute σ p ≡ s
          → (k l : ℕ) × (t : Query) × (merge_step q k l ≡ some t) × Alike s t
      go a b σ d f g unifies result =
          let m : a ∈ p.atoms = at_mem p.atoms i f in
          let n : b ∈ p.atoms = at_mem p.atoms j g in
          let k = mem_at (r.into a m) in
          let l = mem_at (r.into b n) in
          let t = merge_step_either const (λ c d x. cc) q k.0 l.0 (map_atom (rename r.to) a) (map_atom (rename r.to) b)
          (λ w. σ (undo p q r w)) (images_apart u i j k.0 l.0 a b d f g k.1 l.1) k.1 l.1
          (atom_undone p q r const σ a m ∙ unify_equal a b unifies ∙ sym (atom_undone p q r const σ b n)) in (
            t.2,
            t.3,
            substitute t.0 q,
            t.4,
            subst (λ x. Alike x (substitute t.0 q)) result
                (merged_alike p q r a b m n σ t.0 (unifies_most_general a b (inl unifies))
                (unifies_most_general (map_atom (rename r.to) a) (map_atom (rename r.to) b) t.1)),
          )

-- ---- steps

-- what a step leads to from p is alike to what some step leads to from q
pub steps_respect : (rules : List Rule) (p q : Query) → Unrepeated p.atoms → Unrepeated q.atoms → Alike p q → (r : Query)
    → StepTo rules p r → (s : Query) × StepTo rules q s × Alike r s
steps_respect rules p q up uq w r (inl x) =
    let y = rule_respected p q w up uq rules x.0 x.1 r x.2 in (y.1, inl (y.0, x.1, y.2), y.3)
steps_respect rules p q up uq w r (inr x) = let y = merge_respected p q w up x.0 x.1 r x.2 in (y.2, inr (y.0, y.1, y.3), y.4)
