-- 01: alike. To be alike is an equivalence of queries, the order in which atoms are kept does not matter, and a renaming can be
-- undone on what stands in the query.
use Rattle.std.specs.Prelude.{◌≡◌, refl, ℕ, zero, Bool, true, false, List, [], ◌∷◌, map, T, eqb}
use Rattle.std.proofs.Common.{sym, ap, ◌∙◌, subst, inl, inr, arith, map-id}
use mathlib.Core.List.Memᴰ
use Rattle.theory.specs.Lists.{◌∈◌, pick}
use Rattle.theory.specs.Syntax.{Term, var, const, Atom, Query, terms, map_atom, send, rename}
use Rattle.theory.specs.Renaming.{Alike}
use Rattle.theory.specs.Laws.Options.{T_eqb}
use Rattle.theory.specs.Laws.Lists.{here, mem_along, map_agree, map_after}
use Rattle.theory.proofs.Laws.Syntax.{send_rename, map_atom_rename, subst_var, only_var, map_atom_id, map_atom_agree, map_atom_after}
use Rattle.theory.proofs.Laws.Syntax.{map_args, terms_atoms, terms_answers, terms_cases, terms_from}

-- ---- a renaming on the terms of a query

rename_atom_id : (a : Atom Term) → map_atom (rename (λ v. v)) a ≡ a
rename_atom_id a = map_atom_agree (rename (λ v. v)) (λ t. t) a (λ t m. subst_var t) ∙ map_atom_id a

-- the terms of p are carried to those of q, and each of those comes from one
module _ (p q : Query) (r : Alike p q) where
  pub term_into : {t : Term} → t ∈ terms p → rename r.to t ∈ terms q
  term_into m =
      elim (terms_cases p m) [
        | inl n ↦ terms_answers q (mem_along r.on_answers (Memᴰ.map (rename r.to) n))
        | inr n ↦ terms_atoms q (r.into n.0 n.1) (map_args (rename r.to) n.0 n.2)
      ]

  term_onto : {t : Term} → t ∈ terms q → (s : Term) × (s ∈ terms p) × (rename r.to s ≡ t)
  term_onto = terms_from p q (rename r.to) r.on_answers r.onto

-- ---- reflexivity

-- the order in which atoms are kept does not matter
pub alike_same : (p q : Query) → p.answers ≡ q.answers → ((a : Atom Term) → a ∈ p.atoms → a ∈ q.atoms)
    → ((a : Atom Term) → a ∈ q.atoms → a ∈ p.atoms) → Alike p q
alike_same p q answers forth back = record {
  to = λ v. v;
  one_to_one = λ u v m n e. e;
  on_answers = map_agree (rename (λ v. v)) (λ t. t) p.answers (λ t m. subst_var t) ∙ map-id p.answers ∙ answers;
  into = λ a m. Memᴰ.cast (rename_atom_id a) (forth a m);
  onto = λ b m. (b, back b m, rename_atom_id b);
}

pub alike_refl : (q : Query) → Alike q q
alike_refl q = alike_same q q refl (λ a m. m) (λ a m. m)

-- and this renames nothing
pub alike_refl_atom : (q : Query) (a : Atom Term) → map_atom (rename (alike_refl q).to) a ≡ a
unfolding alike_refl alike_same
alike_refl_atom q a = rename_atom_id a

-- ---- transitivity

pub alike_trans : (p q r : Query) → Alike p q → Alike q r → Alike p r
alike_trans p q r f g = record {
  to = both;
  one_to_one = λ u v m n e. f.one_to_one u v m n (g.one_to_one (f.to u) (f.to v) (term_into p q f m) (term_into p q f n) e);
  on_answers =
      sym (map_after (rename g.to) (rename f.to) (rename both) p.answers (λ t m. send_rename const (λ v. var (g.to v)) f.to t))
      ∙ ap (map (rename g.to)) f.on_answers ∙ g.on_answers;
  into = λ a m. Memᴰ.cast (composed a) (g.into (map_atom (rename f.to) a) (f.into a m));
  onto =
      λ c m. (let b = g.onto c m in let a = f.onto b.0 b.1 in
      (a.0, a.1, composed a.0 ∙ ap (map_atom (rename g.to)) a.2 ∙ b.2));
}
  where
    both : ℕ → ℕ
    both v = g.to (f.to v)

    composed : (a : Atom Term) → map_atom (rename both) a ≡ map_atom (rename g.to) (map_atom (rename f.to) a)
    composed a = sym (map_atom_rename const (λ v. var (g.to v)) f.to a)

-- ---- symmetry

-- the first variable of the list that f sends to w, or 0
sent_to : (ℕ → ℕ) → List Term → ℕ → ℕ
sent_to f [] w = zero
sent_to f (var v ∷ ts) w = let later = sent_to f ts w in pick (eqb (f v) w) v later
sent_to f (const c ∷ ts) w = sent_to f ts w

sent_to_found : (f : ℕ → ℕ) (ts : List Term) (v : ℕ) → var v ∈ ts → (var (sent_to f ts (f v)) ∈ ts) × (f (sent_to f ts (f v)) ≡ f v)
unfolding sent_to
sent_to_found f [] v m = absurd (Memᴰ.not-nil m)
sent_to_found f (const c ∷ ts) v m =
    elim (Memᴰ.cases_cons m) [
      | inl e ↦ absurd (let z : ◌≡◌ {A = ℕ} 0 1 = cc in omega arith)
      | inr n ↦ (let r = sent_to_found f ts v n in (Memᴰ.tail r.0, r.1))
    ]
sent_to_found f (var u ∷ ts) v m = go (eqb (f u) (f v)) (T_eqb (f u) (f v)).0 (T_eqb (f u) (f v)).1 (λ n. sent_to_found f ts v n)
  where
    later : ℕ
    later = sent_to f ts (f v)

    go : (b : Bool) → (T b → f u ≡ f v) → (f u ≡ f v → T b) → (var v ∈ ts → (var later ∈ ts) × (f later ≡ f v))
        → (var (pick b u later) ∈ var u ∷ ts) × (f (pick b u later) ≡ f v)
    go true sent first below = (here, sent tt)
    go false sent first below =
        elim (Memᴰ.cases_cons m) [
          | inl e ↦ absurd (first (let d : v ≡ u = cc in cc))
          | inr n ↦ (let r = below n in (Memᴰ.tail r.0, r.1))
        ]

-- a renaming can be undone
abbrev pub Inverse : (p q : Query) → Alike p q → Type 0
Inverse p q r =
    (g : ℕ → ℕ) × ((v : ℕ) → var v ∈ terms p → g (r.to v) ≡ v) × ((w : ℕ) → var w ∈ terms q → (var (g w) ∈ terms p) × (r.to (g w) ≡ w))

module _ (p q : Query) (r : Alike p q) where
  pub inverse : Inverse p q r
  inverse = (g, back, forth)
    where
      g : ℕ → ℕ
      g = sent_to r.to (terms p)

      back : (v : ℕ) → var v ∈ terms p → g (r.to v) ≡ v
      back v m = let f = sent_to_found r.to (terms p) v m in r.one_to_one (g (r.to v)) v f.0 m f.1

      forth : (w : ℕ) → var w ∈ terms q → (var (g w) ∈ terms p) × (r.to (g w) ≡ w)
      forth w m =
          let s = term_onto p q r m in
          let v = only_var (λ v. var (r.to v)) s.0 s.2 in
          let e : var (r.to v.0) ≡ var w = sym (ap (rename r.to) v.1) ∙ s.2 in
          let d : r.to v.0 ≡ w = cc in
          subst (λ u. (var (g u) ∈ terms p) × (r.to (g u) ≡ u)) d (sent_to_found r.to (terms p) v.0 (Memᴰ.cast (sym v.1) s.1))

  -- the variable that a variable of q comes from
  abbrev pub undo : ℕ → ℕ
  undo = inverse.0

  -- what a map makes of a term or an atom of p, it makes of the renamed one by undoing the renaming first
  module _ {X : Type 0} (self h : ℕ → X) where
    pub term_undone : (t : Term) → t ∈ terms p → send self (λ w. h (undo w)) (rename r.to t) ≡ send self h t
    term_undone (var v) m = ap h (inverse.1 v m)
    term_undone (const c) m = refl

    pub atom_undone : (a : Atom Term) → a ∈ p.atoms → map_atom (send self (λ w. h (undo w))) (map_atom (rename r.to) a)
        ≡ map_atom (send self h) a
    atom_undone a m =
        map_atom_after (send self (λ w. h (undo w))) (rename r.to) (send self h) a (λ t n. term_undone t (terms_atoms p m n))

  rename_undone : (t : Term) → t ∈ terms p → rename undo (rename r.to t) ≡ t
  rename_undone t m = term_undone const var t m ∙ subst_var t

  image_undone : (a : Atom Term) → a ∈ p.atoms → map_atom (rename undo) (map_atom (rename r.to) a) ≡ a
  image_undone a m = atom_undone const var a m ∙ rename_atom_id a

  -- so no two terms or atoms of p go to one
  pub rename_injective : (s t : Term) → s ∈ terms p → t ∈ terms p → rename r.to s ≡ rename r.to t → s ≡ t
  rename_injective s t m n e = sym (rename_undone s m) ∙ ap (rename undo) e ∙ rename_undone t n

  pub image_injective : (a b : Atom Term) → a ∈ p.atoms → b ∈ p.atoms → map_atom (rename r.to) a ≡ map_atom (rename r.to) b → a ≡ b
  image_injective a b m n e = sym (image_undone a m) ∙ ap (map_atom (rename undo)) e ∙ image_undone b n

pub alike_sym : (p q : Query) → Alike p q → Alike q p
alike_sym p q r = record {
  to = undo p q r;
  one_to_one = λ u v m n e. sym ((inverse p q r).2 u m).1 ∙ ap r.to e ∙ ((inverse p q r).2 v n).1;
  on_answers = ap (map (rename (undo p q r))) (sym r.on_answers)
      ∙ map_after (rename (undo p q r)) (rename r.to) (λ t. t) p.answers (λ t m. rename_undone p q r t (terms_answers p m))
      ∙ map-id p.answers;
  into =
      λ b m. (let a = r.onto b m in Memᴰ.cast (ap (map_atom (rename (undo p q r))) (sym a.2) ∙ image_undone p q r a.0 a.1) a.1);
  onto = λ a m. (map_atom (rename r.to) a, r.into a m, image_undone p q r a m);
}
