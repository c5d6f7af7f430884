-- The test that nothing speaks against a renaming in the making: what it means, and what it has to do with renamings.
use Rattle.std.specs.Prelude.{◌≡◌, refl, ◌↔◌, ℕ, ◌&&◌, T}
use Rattle.std.proofs.Common.{subst}
use Rattle.std.proofs.Math.Bool.{Bool}
use mathlib.Core.List.Memᴰ
use Rattle.theory.specs.Lists.{◌∈◌, any, all, pairwise}
use Rattle.theory.specs.Syntax.{Term, var, Atom, Query, terms, map_atom, rename, on_atoms}
use Rattle.theory.specs.Renaming.{Alike, promising}
use Rattle.theory.specs.Laws.Options.{T_and}
use Rattle.theory.specs.Laws.Lists.{all_any_iff, pairwise_image, image_pairwise}
use Rattle.theory.proofs.Laws.Syntax.{on_atoms_iff, on_atoms_within, on_atoms_map, terms_atoms, terms_answers}

module _ (may : Term → Term → Bool) (p q : Query) where
  -- each answer term may become its partner, each atom of the one query some atom of the other
  abbrev Promising : Type 0
  Promising =
      T (pairwise may p.answers q.answers)
      × ((a : Atom Term) → a ∈ p.atoms → (b : Atom Term) × (b ∈ q.atoms) × T (on_atoms may a b))
      × ((b : Atom Term) → b ∈ q.atoms → (a : Atom Term) × (a ∈ p.atoms) × T (on_atoms may a b))

  promising_iff : T (promising may p q) ↔ Promising
  unfolding promising
  promising_iff =
      let answers : Bool = pairwise may p.answers q.answers in
      let go : Bool = all (λ a. any (λ b. on_atoms may a b) q.atoms) p.atoms in
      let come : Bool = all (λ b. any (λ a. on_atoms may a b) p.atoms) q.atoms in
      let go-iff = all_any_iff (λ a b. on_atoms may a b) p.atoms q.atoms in
      let come-iff = all_any_iff (λ b a. on_atoms may a b) q.atoms p.atoms in (
        λ t. (let s = (T_and (answers && go) come).0 t in
            let r = (T_and answers go).0 s.0 in
            (r.0, go-iff.0 r.1, come-iff.0 s.1)),
        λ t. (T_and (answers && go) come).1 ((T_and answers go).1 (t.0, go-iff.1 t.1), come-iff.1 t.2),
      )

  -- where the terms of p may become their images only, a one-to-one map that is promising is a renaming
  pub promising_renaming : (to : ℕ → ℕ) → ((u v : ℕ) → var u ∈ terms p → var v ∈ terms p → to u ≡ to v → u ≡ v)
      → ((s t : Term) → s ∈ terms p → T (may s t) → rename to s ≡ t) → T (promising may p q)
      → (r : Alike p q) × ((v : ℕ) → r.to v ≡ to v)
  promising_renaming to one_to_one image t = (
    record {
      to = to;
      one_to_one = one_to_one;
      on_answers = pairwise_image may (rename to) p.answers q.answers (λ s t m. image s t (terms_answers p m)) r.0;
      into = λ a m. (let b = r.1 a m in Memᴰ.cast (image_atom a b.0 m b.2) b.1);
      onto = λ b m. (let a = r.2 b m in (a.0, a.1, image_atom a.0 b a.1 a.2));
    },
    λ v. refl,
  )
    where
      r : Promising
      r = promising_iff.0 t

      image_atom : (a b : Atom Term) → a ∈ p.atoms → T (on_atoms may a b) → map_atom (rename to) a ≡ b
      image_atom a b m t =
          (on_atoms_map (rename to) a b).0 (on_atoms_within a b (λ s t n. image s t (terms_atoms p m n)) ((on_atoms_iff may a b).0 t))

  -- where they may become their images under a renaming, the test passes
  pub renaming_promising : (r : Alike p q) → ((t : Term) → t ∈ terms p → T (may t (rename r.to t))) → T (promising may p q)
  renaming_promising r goes =
      promising_iff.1 (
        subst (λ ts. T (pairwise may p.answers ts)) r.on_answers
            (image_pairwise may (rename r.to) p.answers (λ t m. goes t (terms_answers p m))),
        λ a m. (map_atom (rename r.to) a, r.into a m, on_atom a (map_atom (rename r.to) a) m refl),
        λ b m. (let a = r.onto b m in (a.0, a.1, on_atom a.0 b a.1 a.2)),
      )
    where
      on_atom : (a b : Atom Term) → a ∈ p.atoms → map_atom (rename r.to) a ≡ b → T (on_atoms may a b)
      on_atom a b m e =
          (on_atoms_iff may a b).1
          (on_atoms_within a b (λ s t n d. subst (λ t. T (may s t)) d (goes s (terms_atoms p m n))) ((on_atoms_map (rename r.to) a b).1 e))
