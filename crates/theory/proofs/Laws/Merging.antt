-- 01 leaves free which most general replacement is made when two atoms are merged. Every choice leads to alike results, and so
-- it does from alike queries.
use Rattle.std.specs.Prelude.{◌≡◌, ℕ, zero, map}
use Rattle.std.proofs.Math.Path.{refl, sym, ap, subst}
use Rattle.std.proofs.Common.{◌∙◌, subst₂}
use mathlib.Core.List.Memᴰ
use Rattle.theory.specs.Lists.{◌∈◌}
use Rattle.theory.specs.Syntax.{Term, var, const, Atom, Query, terms, map_atom, subst_term, rename}
use Rattle.theory.specs.Rewriting.{substitute}
use Rattle.theory.specs.Renaming.{Alike}
use Rattle.theory.specs.Laws.Lists.{map_after}
use Rattle.theory.proofs.Laws.Syntax.{map_atom_rename, only_var, map_atom_after, map_atom_map_atom, terms_atoms, terms_answers, terms_from}
use Rattle.theory.proofs.Laws.Syntax.{substitute_mem, mem_substitute}
use Rattle.theory.proofs.Laws.Unifier.{Unifies, unifies_equal, unifies_factors}
use Rattle.theory.proofs.Laws.Equivalence.{undo, term_undone, atom_undone, alike_refl, alike_refl_atom}

-- σ makes the atoms equal, and whatever makes them equal is σ and then a further substitution
abbrev pub MostGeneral : Atom Term → Atom Term → (ℕ → Term) → Type 0
MostGeneral a b σ =
    (map_atom (subst_term σ) a ≡ map_atom (subst_term σ) b)
    × ((θ : ℕ → Term) → map_atom (subst_term θ) a ≡ map_atom (subst_term θ) b → (δ : ℕ → Term) × ((v : ℕ) → θ v ≡ subst_term δ (σ v)))

pub unifies_most_general : (a b : Atom Term) {σ : ℕ → Term} → Unifies a b σ → MostGeneral a b σ
unifies_most_general a b u = (unifies_equal a b u, λ θ d. (θ, unifies_factors const a b u θ d))

-- ---- a substitution that can be undone is a renaming

-- the number of a variable
number : Term → ℕ
number (var v) = v
number (const c) = zero

undone_renames : (α β : ℕ → Term) (s : Term) → subst_term β (subst_term α s) ≡ s → rename (λ x. number (α x)) s ≡ subst_term α s
unfolding number
undone_renames α β (var x) e = let v = only_var β (α x) e in ap (λ t. var (number t)) v.1 ∙ sym v.1
undone_renames α β (const c) e = refl

-- Results are alike where α takes what σ makes of each term of p to what τ makes of the renamed term, and β takes it back.
module _ (p q : Query) (r : Alike p q) (σ τ α β : ℕ → Term)
    (forth : (t : Term) → t ∈ terms p → subst_term α (subst_term σ t) ≡ subst_term τ (rename r.to t))
    (back : (t : Term) → t ∈ terms p → subst_term β (subst_term τ (rename r.to t)) ≡ subst_term σ t) where
  renaming : ℕ → ℕ
  renaming x = number (α x)

  undone : (s : Term) → s ∈ terms (substitute σ p) → subst_term β (subst_term α s) ≡ s
  unfolding substitute
  undone s m =
      let t = terms_from p (substitute σ p) (subst_term σ) refl (λ c n. substitute_mem σ p n) m in
      subst (λ x. subst_term β (subst_term α x) ≡ x) t.2 (ap (subst_term β) (forth t.0 t.1) ∙ back t.0 t.1)

  carries : (t : Term) → t ∈ terms p → rename renaming (subst_term σ t) ≡ subst_term τ (rename r.to t)
  unfolding renaming
  carries t m = undone_renames α β (subst_term σ t) (ap (subst_term β) (forth t m) ∙ back t m) ∙ forth t m

  carries_atom : (a : Atom Term) → a ∈ p.atoms → map_atom (rename renaming) (map_atom (subst_term σ) a)
      ≡ map_atom (subst_term τ) (map_atom (rename r.to) a)
  carries_atom a m =
      map_atom_after (rename renaming) (subst_term σ) (λ t. subst_term τ (rename r.to t)) a (λ t n. carries t (terms_atoms p m n))
      ∙ sym (map_atom_map_atom (subst_term τ) (rename r.to) a)

  separates : (u v : ℕ) → var u ∈ terms (substitute σ p) → var v ∈ terms (substitute σ p) → renaming u ≡ renaming v → u ≡ v
  unfolding renaming
  separates u v m n e =
      let c : var (number (α u)) ≡ α u = undone_renames α β (var u) (undone (var u) m) in
      let d : var (number (α v)) ≡ α v = undone_renames α β (var v) (undone (var v) n) in
      let f : subst_term β (α u) ≡ var u = undone (var u) m in
      let g : subst_term β (α v) ≡ var v = undone (var v) n in
      cc

  substitute_alike : Alike (substitute σ p) (substitute τ q)
  unfolding substitute
  substitute_alike = record {
    to = renaming;
    one_to_one = separates;
    on_answers =
        map_after (rename renaming) (subst_term σ) (λ t. subst_term τ (rename r.to t)) p.answers
        (λ t m. carries t (terms_answers p m))
        ∙ sym (map_after (subst_term τ) (rename r.to) (λ t. subst_term τ (rename r.to t)) p.answers (λ t m. refl))
        ∙ ap (map (subst_term τ)) r.on_answers;
    into =
        λ c m. (let a = substitute_mem σ p m in
        Memᴰ.cast (ap (map_atom (rename renaming)) (sym a.2) ∙ carries_atom a.0 a.1) (mem_substitute τ q (r.into a.0 a.1)));
    onto =
        λ c m. (let b = substitute_mem τ q m in let a = r.onto b.0 b.1 in
        (map_atom (subst_term σ) a.0, mem_substitute σ p a.1, carries_atom a.0 a.1 ∙ ap (map_atom (subst_term τ)) a.2 ∙ b.2));
  }

-- ---- every choice leads to alike results

module _ (p q : Query) (r : Alike p q) (a b : Atom Term) (ma : a ∈ p.atoms) (mb : b ∈ p.atoms) (σ τ : ℕ → Term) where
  pub merged_alike : MostGeneral a b σ → MostGeneral (map_atom (rename r.to) a) (map_atom (rename r.to) b) τ
      → Alike (substitute σ p) (substitute τ q)
  merged_alike most most' = substitute_alike p q r σ τ α.0 β.0 forth back
    where
      α : (δ : ℕ → Term) × ((v : ℕ) → τ (r.to v) ≡ subst_term δ (σ v))
      α = most.1 (λ v. τ (r.to v)) (sym (map_atom_rename const τ r.to a) ∙ most'.0 ∙ map_atom_rename const τ r.to b)

      β : (δ : ℕ → Term) × ((w : ℕ) → σ (undo p q r w) ≡ subst_term δ (τ w))
      β = most'.1 (λ w. σ (undo p q r w)) (atom_undone p q r const σ a ma ∙ most.0 ∙ sym (atom_undone p q r const σ b mb))

      forth : (t : Term) → t ∈ terms p → subst_term α.0 (subst_term σ t) ≡ subst_term τ (rename r.to t)
      forth (var v) m = sym (α.1 v)
      forth (const c) m = refl

      back : (t : Term) → t ∈ terms p → subst_term β.0 (subst_term τ (rename r.to t)) ≡ subst_term σ t
      back (var v) m = sym (β.1 (r.to v)) ∙ term_undone p q r const σ (var v) m
      back (const c) m = refl

pub any_choice_alike : (q : Query) (a b : Atom Term) → a ∈ q.atoms → b ∈ q.atoms → (σ τ : ℕ → Term) → MostGeneral a b σ
    → MostGeneral a b τ → Alike (substitute σ q) (substitute τ q)
any_choice_alike q a b ma mb σ τ most most' =
    merged_alike q q (alike_refl q) a b ma mb σ τ most
    (subst₂ (λ x y. MostGeneral x y τ) (sym (alike_refl_atom q a)) (sym (alike_refl_atom q b)) most')
