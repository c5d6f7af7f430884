-- Replacements in words: what the code computes is what the definitions say.
use mathlib.Core.Path.{◌≡◌, refl, sym, ap, ◌∙◌, subst, fun_ext}
use mathlib.Core.Logic.{inl, inr}
use Prim.Native.Nat.{ℕ, zero, suc, ◌+◌, ◌%◌, ◌≤◌, ◌<◌}
use native.Mathlib.Decide.{ℕ_discrete, dec_lt}
use native.Mathlib.Omega.{arith}
use mathlib.Core.Bool.{Bool, true, false, ◌&&◌}
use mathlib.Core.Option.{none, some}
use mathlib.Core.List.Memᴰ
use mathlib.Core.List.{List, [], ◌∷◌}
use lib.Dec.{T, eqb, ltb, ltb→lt, lit<}
use lib.ListN.{length, get_or, set}
use lib.Seq.{get_or-set_same, get_or-set_other}
use borrow.Author.Rules.{rules}
use borrow.Author.Tests.{eq-eqb, ne_eqb, lt-ltb, le-ltb, le-leb, lt-leb}
use Rattle.std.specs.Prelude.{Option, IfSome}
use Rattle.std.specs.Bool.{then_some}
use Rattle.theory.proofs.Laws.Spellings.{spellings}
use Rattle.theory.specs.Lists.{◌∈◌, pick, guard, and_then}
use Rattle.theory.specs.Syntax.{Term, var, const, concept, role, args, map_atom, subst_term}
use Rattle.theory.specs.Rewriting.{replace, after, join, bind, unify}
use Rattle.theory.specs.Laws.Options.{same_test, three_ways, T_and, T_eqb}
use Rattle.words.specs.Limits.{word_object_bound, word_term_bound}
use Rattle.words.specs.Words.{word_term, word_atom, word_kind, word_name, word_first, word_second, LowAtom, second_of}
use Rattle.words.specs.Laws.LowVariables.{concept_atom, role_atom, first_low, second_low, low_word}
use Rattle.words.specs.Laws.LowVariables.{object_high, object_term}
use Rattle.query_substitution.specs.Substitutions.{SmallTerm, SmallTargets, subst_of, unifier_of}
use Rattle.query_substitution.specs.declared.Substitution.{Substitution}

-- ---- words of terms: variables are below 32, objects are not

pub small_variable : (w : ℕ) → w < 32 → SmallTerm w
small_variable w h = record {
  word = omega arith;
  low = λ v e. (let f : var v ≡ var w = e ∙ low_word w h in let d : w ≡ v = cc in omega arith);
}

-- what holds of every variable and every object
by_word : (P : Term → Type 0) (w : ℕ) → SmallTerm w → (w < 32 → P (var w)) → (32 ≤ w → P (const (w % word_object_bound))) → P (word_term w)
by_word P w s v c =
    elim (dec_lt w 32) [
      | yes h ↦ subst P (sym (low_word w h)) (v h)
      | no h ↦ (let l : 32 ≤ w = omega arith in subst P (sym (object_term w s.low l)) (c l))
    ]

-- ---- one variable replaced in a term

module _ (w v t : ℕ) where
  pub replaced_there : w ≡ v → v < 32 → word_term t ≡ subst_term (replace v (word_term t)) (word_term w)
  unfolding replace
  replaced_there e h = sym (simp (low_word w (omega arith), eq-eqb w v e))

  pub kept_elsewhere : (w ≡ v → ⊥) → SmallTerm w → word_term w ≡ subst_term (replace v (word_term t)) (word_term w)
  unfolding replace
  kept_elsewhere e s = by_word (λ x. x ≡ subst_term (replace v (word_term t)) x) w s (λ h. sym (simp (ne_eqb w v e))) (λ h. refl)

-- ---- places

pub place : (s : Substitution) (u : ℕ) → u < 32 → subst_of s u ≡ word_term (get_or s.to u 0)
unfolding subst_of
place s u h = simp (lt-ltb u 32 h)

no_place_lem : (s : Substitution) (u : ℕ) → 32 ≤ u → subst_of s u ≡ var u
unfolding subst_of
no_place_lem s u h = simp (le-ltb u 32 h)

pub small_place : (s : Substitution) (k : ℕ) → SmallTargets s → SmallTerm (get_or s.to k 0)
small_place s k h = h k

module _ (s : Substitution) (t : ℕ) where
  pub applied : t < 32 → word_term (get_or s.to t 0) ≡ subst_term (subst_of s) (word_term t)
  applied h = sym (simp (low_word t h) (place s t h))

  pub object_applied : SmallTerm t → 32 ≤ t → word_term t ≡ subst_term (subst_of s) (word_term t)
  object_applied m h = sym (simp (object_term t m.low h))

-- ---- a loop over the places

-- below i as f says, from i on as g does
unfoldable pub up_to : ℕ → (ℕ → Term) → (ℕ → Term) → ℕ → Term
up_to i f g u = pick (ltb u i) (f u) (g u)

pub none_yet : (f g : ℕ → Term) → g ≡ up_to 0 f g
unfolding up_to
none_yet f g = fun_ext (λ u. sym (simp (le-ltb u 0 (omega arith))))

-- what holds of each word holds of each after a store
pub each_stored : (P : ℕ → Type 0) (l : List ℕ) (i w : ℕ) → ((k : ℕ) → P (get_or l k 0)) → P w → (k : ℕ) → P (get_or (set l i w) k 0)
each_stored P [] i w h p k = h k
each_stored P (x ∷ xs) zero w h p zero = p
each_stored P (x ∷ xs) zero w h p (suc k) = h (suc k)
each_stored P (x ∷ xs) (suc i) w h p zero = h zero
each_stored P (x ∷ xs) (suc i) w h p (suc k) = each_stored P xs i w (λ k. h (suc k)) p k

module _ (l : List ℕ) (i w : ℕ) where
  -- the replacement before the word was stored, and after
  abbrev old : Substitution
  old = record { to = l }

  abbrev new : Substitution
  new = record { to = set l i w }

  pub targets_stored : SmallTargets old → SmallTerm w → SmallTargets new
  targets_stored h p = each_stored SmallTerm l i w h p

  stored_elsewhere : (u : ℕ) → (u ≡ i → ⊥) → subst_of new u ≡ subst_of old u
  unfolding subst_of
  stored_elsewhere u d = ap (λ x. pick (ltb u 32) (word_term x) (var u)) (get_or-set_other l i u w 0 d)

  stored : (f g : ℕ → Term) → length l ≡ 32 → i < 32 → subst_of old ≡ up_to i f g → word_term w ≡ f i → subst_of new ≡ up_to (i + 1) f g
  unfolding up_to
  stored f g n h e d = fun_ext (λ u. elim (three_ways u i) [
    | inl m ↦ stored_elsewhere u (λ k. omega arith) ∙ ap (λ σ. σ u) e ∙ simp (lt-ltb u i m) (sym (simp (lt-ltb u (i + 1) (omega arith))))
    | inr (inl m) ↦ ap (subst_of new) m ∙ place new i h ∙ ap word_term (get_or-set_same l i w 0 (omega arith)) ∙ d ∙ ap f (sym m)
        ∙ sym (simp (lt-ltb u (i + 1) (omega arith)))
    | inr (inr m) ↦ stored_elsewhere u (λ k. omega arith) ∙ ap (λ σ. σ u) e
        ∙ simp (le-ltb u i (omega arith)) (sym (simp (le-ltb u (i + 1) (omega arith))))
  ])

-- all 32 places are done; other variables are kept
done : (s : Substitution) (i : ℕ) (f g : ℕ → Term) → subst_of s ≡ up_to i f g → 32 ≤ i → ((u : ℕ) → 32 ≤ u → f u ≡ var u) → subst_of s ≡ f
unfolding up_to
done s i f g e h kept = fun_ext (λ u. elim (dec_lt u 32) [
  | yes l ↦ ap (λ σ. σ u) e ∙ simp (lt-ltb u i (omega arith))
  | no l ↦ (let m : 32 ≤ u = omega arith in no_place_lem s u m ∙ sym (kept u m))
])

-- words that are all below 32
abbrev pub below32 : List ℕ → Bool
below32 [] = true
below32 (w ∷ ws) = ltb w 32 && below32 ws

pub each_below : (l : List ℕ) → T (below32 l) → (k : ℕ) → get_or l k 0 < 32
each_below [] t k = lit< tt
each_below (w ∷ ws) t zero = ltb→lt w 32 ((T_and (ltb w 32) (below32 ws)).0 t).0
each_below (w ∷ ws) t (suc k) = each_below ws ((T_and (ltb w 32) (below32 ws)).0 t).1 k

pub targets_below : (l : List ℕ) → T (below32 l) → SmallTargets (record { to = l })
targets_below l t k = small_variable (get_or l k 0) (each_below l t k)

-- the replacement that changes nothing
module _ (l : List ℕ) (i : ℕ) (g : ℕ → Term) (e : subst_of (record { to = l }) ≡ up_to i var g) where
  pub variable_stored : length l ≡ 32 → i < 32 → subst_of (record { to = set l i i }) ≡ up_to (i + 1) var g
  variable_stored n h = stored l i i var g n h e (low_word i h)

  pub identity_done : 32 ≤ i → subst_of (record { to = l }) ≡ var
  identity_done h = done (record { to = l }) i var g e h (λ u m. refl)

-- one variable replaced at all places
module _ (s s₀ : Substitution) (v t i : ℕ) (e : subst_of s ≡ up_to i (after (subst_of s₀) v (word_term t)) (subst_of s₀)) where
  pub after_stored : (w : ℕ) → length s.to ≡ 32 → i < 32
      → word_term w ≡ subst_term (replace v (word_term t)) (word_term (get_or s.to i 0))
      → subst_of (record { to = set s.to i w }) ≡ up_to (i + 1) (after (subst_of s₀) v (word_term t)) (subst_of s₀)
  unfolding after up_to
  after_stored w n h d =
      let before : word_term (get_or s.to i 0) ≡ subst_of s₀ i = sym (place s i h) ∙ ap (λ σ. σ i) e ∙ simp (le-ltb i i (omega arith)) in
      stored s.to i w (after (subst_of s₀) v (word_term t)) (subst_of s₀) n h e
      (d ∙ ap (subst_term (replace v (word_term t))) before)

  pub after_done : v < 32 → 32 ≤ i → subst_of s ≡ after (subst_of s₀) v (word_term t)
  unfolding after replace
  after_done h m =
      done s i (after (subst_of s₀) v (word_term t)) (subst_of s₀) e m
      (λ u n. ap (subst_term (replace v (word_term t))) (no_place_lem s₀ u n) ∙ simp (ne_eqb u v (λ k. omega arith)))

-- ---- two terms made equal

module _ (σ : Substitution) (s t : ℕ) (r : Substitution) where
  pub higher_first : s < 32 → t < s → subst_of r ≡ after (subst_of σ) s (word_term t)
      → some (subst_of r) ≡ join (subst_of σ) (word_term s) (word_term t)
  unfolding join
  higher_first h l e = ap some e ∙ sym (simp (low_word s h, low_word t (omega arith), lt-leb s t l))

  pub higher_second : s < 32 → t < 32 → s ≤ t → subst_of r ≡ after (subst_of σ) t (word_term s)
      → some (subst_of r) ≡ join (subst_of σ) (word_term s) (word_term t)
  unfolding join
  higher_second h l m e = ap some e ∙ sym (simp (low_word s h, low_word t l, le-leb s t m))

  pub object_first : SmallTerm s → 32 ≤ s → t < 32 → subst_of r ≡ after (subst_of σ) t (word_term s)
      → some (subst_of r) ≡ join (subst_of σ) (word_term s) (word_term t)
  unfolding join
  object_first m h l e = ap some e ∙ sym (simp (object_term s m.low h, low_word t l))

  pub object_second : SmallTerm t → s < 32 → 32 ≤ t → subst_of r ≡ after (subst_of σ) s (word_term t)
      → some (subst_of r) ≡ join (subst_of σ) (word_term s) (word_term t)
  unfolding join
  object_second m h l e = ap some e ∙ sym (simp (low_word s h, object_term t m.low l))

-- what is found where a test passes
unifier_where : (b : Bool) (σ : Substitution) → unifier_of (then_some b σ) ≡ guard b (subst_of σ)
unifier_where true σ = refl
unifier_where false σ = refl

pub small_where : (b : Bool) (σ : Substitution) (r : Option Substitution) → SmallTargets σ → r ≡ then_some b σ → IfSome r SmallTargets
small_where b σ r h e =
    subst (λ o. IfSome o SmallTargets) (sym e) (elim b as (λ c. IfSome (then_some c σ) SmallTargets) [ true ↦ h | false ↦ tt ])

pub two_objects : (σ : Substitution) (s t : ℕ) (r : Option Substitution) → SmallTerm s → SmallTerm t → 32 ≤ s → 32 ≤ t
    → r ≡ then_some (eqb s t) σ → unifier_of r ≡ join (subst_of σ) (word_term s) (word_term t)
unfolding subst_of join
two_objects σ s t r m n h l e =
    let far : word_object_bound ≤ s = object_high s m.low h in
    let far' : word_object_bound ≤ t = object_high t n.low l in
    ap unifier_of e ∙ unifier_where (eqb s t) σ
    ∙ ap (λ x. guard x (subst_of σ))
    (same_test (eqb s t) (eqb (s % word_object_bound) (t % word_object_bound)) (
      λ e. (T_eqb (s % word_object_bound) (t % word_object_bound)).1 (ap (λ w. w % word_object_bound) ((T_eqb s t).0 e)),
      λ e. (T_eqb s t).1 (omega (arith, (T_eqb (s % word_object_bound) (t % word_object_bound)).0 e)),
    ))
    ∙ sym (simp (object_term s m.low h, object_term t n.low l))

pub bound : (σ : ℕ → Term) (s t x y : ℕ) (r : Option Substitution) → word_term x ≡ subst_term σ (word_term s)
    → word_term y ≡ subst_term σ (word_term t)
    → unifier_of r ≡ join σ (word_term x) (word_term y) → unifier_of r ≡ bind σ (word_term s) (word_term t)
unfolding bind
bound σ s t x y r e d h = h ∙ simp (e, d)

-- ---- the terms of an atom

module _ (a f : ℕ) (h : LowAtom a) where
  pub small_first : f ≡ word_first a → f < word_term_bound → SmallTerm f
  small_first e l = record { word = l; low = first_low a f h e }

  pub small_second : (k : ℕ) → k ≡ word_kind a → (k ≡ 0 → ⊥) → f ≡ word_second a → f < word_term_bound → SmallTerm f
  small_second k d z e l = record { word = l; low = second_low a f k h d z e }

-- ---- an atom under a replacement

module _ (σ : ℕ → Term) (a r k n f x : ℕ) (ka : k ≡ word_kind a) (na : n ≡ word_name a) (fa : f ≡ word_first a)
    (xf : word_term x ≡ subst_term σ (word_term f)) where
  pub concept_applied : k ≡ 0 → word_atom r ≡ concept n (word_term x) → word_atom r ≡ map_atom (subst_term σ) (word_atom a)
  concept_applied z h = h ∙ simp (concept_atom a (sym ka ∙ z), na, xf, fa)

  pub role_applied : (g y : ℕ) → (k ≡ 0 → ⊥) → g ≡ word_second a → word_term y ≡ subst_term σ (word_term g)
      → word_atom r ≡ role n (word_term x) (word_term y) → word_atom r ≡ map_atom (subst_term σ) (word_atom a)
  role_applied g y z ga yg h = h ∙ simp (role_atom a (λ y. z (ka ∙ y)), na, xf, fa, yg, ga)

pub small_concept : (r n x : ℕ) → SmallTerm x → word_atom r ≡ concept n (word_term x) → LowAtom r
small_concept r n x s h v m =
    elim (Memᴰ.cases_cons (subst (λ b. var v ∈ args b) h m)) [ inl e ↦ s.low v e | inr e ↦ absurd (Memᴰ.not-nil e) ]

pub small_role : (r n x y : ℕ) → SmallTerm x → SmallTerm y → word_atom r ≡ role n (word_term x) (word_term y) → LowAtom r
small_role r n x y s t h v m =
    elim (Memᴰ.cases_cons (subst (λ b. var v ∈ args b) h m)) [
      | inl e ↦ s.low v e
      | inr e ↦ elim (Memᴰ.cases_cons e) [ inl d ↦ t.low v d | inr d ↦ absurd (Memᴰ.not-nil d) ]
    ]

-- ---- two atoms made equal

-- the kinds and the numbers of the atoms, as they were read
module _ (a b k l : ℕ) (ka : k ≡ word_kind a) (lb : l ≡ word_kind b) where
  pub kinds_differ : (k ≡ l → ⊥) → none ≡ unify (word_atom a) (word_atom b)
  unfolding unify
  kinds_differ d =
      elim (ℕ_discrete (word_kind a) 0) [
        | yes c ↦ sym (simp (concept_atom a c, role_atom b (λ z. d (ka ∙ c ∙ sym z ∙ sym lb))))
        | no c ↦ sym (simp (role_atom a c, concept_atom b (omega arith)))
      ]

  module _ (e : k ≡ l) where
    pub small_second_other : (f : ℕ) → LowAtom b → (k ≡ 0 → ⊥) → f ≡ word_second b → f < word_term_bound → SmallTerm f
    small_second_other f h = small_second b f h k (e ∙ lb)

    module _ (n m : ℕ) (na : n ≡ word_name a) (mb : m ≡ word_name b) where
      pub numbers_differ : (n ≡ m → ⊥) → none ≡ unify (word_atom a) (word_atom b)
      unfolding unify
      numbers_differ d =
          let differ : eqb (word_name a) (word_name b) ≡ false = ne_eqb (word_name a) (word_name b) (λ z. d (na ∙ z ∙ sym mb)) in
          elim (ℕ_discrete (word_kind a) 0) [
            | yes c ↦ sym (simp (concept_atom a c, concept_atom b (sym lb ∙ sym e ∙ ka ∙ c), differ))
            | no c ↦ sym (simp (role_atom a c, role_atom b (λ z. c (sym ka ∙ e ∙ lb ∙ z)), differ))
          ]

      -- the first terms bound, from the replacement that changes nothing on
      module _ (same : n ≡ m) (start : Substitution) (i : subst_of start ≡ var) (f g : ℕ) (fa : f ≡ word_first a) (gb : g ≡ word_first b)
        where
          one_number : eqb (word_name a) (word_name b) ≡ true
          one_number = eq-eqb (word_name a) (word_name b) (sym na ∙ same ∙ mb)

          on_concepts : word_kind a ≡ 0 → bind (subst_of start) (word_term f) (word_term g) ≡ unify (word_atom a) (word_atom b)
          unfolding unify
          on_concepts c =
              simp (i, fa, gb) (sym (simp (concept_atom a c, concept_atom b (sym lb ∙ sym e ∙ ka ∙ c), one_number)))

          on_roles : (word_kind a ≡ 0 → ⊥)
              → and_then (bind (subst_of start) (word_term f) (word_term g)) (λ σ. bind σ (second_of a) (second_of b))
              ≡ unify (word_atom a) (word_atom b)
          unfolding unify
          on_roles c =
              simp (i, fa, gb) (sym (simp (role_atom a c, role_atom b (λ z. c (sym ka ∙ e ∙ lb ∙ z)), one_number)))

          pub firsts_apart : none ≡ bind (subst_of start) (word_term f) (word_term g) → none ≡ unify (word_atom a) (word_atom b)
          firsts_apart h =
              elim (ℕ_discrete (word_kind a) 0) [
                | yes c ↦ h ∙ on_concepts c
                | no c ↦ ap (λ o. and_then o (λ σ. bind σ (second_of a) (second_of b))) h ∙ on_roles c
              ]

          module _ (s : Substitution) (h : some (subst_of s) ≡ bind (subst_of start) (word_term f) (word_term g)) where
            pub concepts_unified : k ≡ 0 → some (subst_of s) ≡ unify (word_atom a) (word_atom b)
            concepts_unified z = h ∙ on_concepts (sym ka ∙ z)

            pub roles_unified : (f' g' : ℕ) (r : Option Substitution) → (k ≡ 0 → ⊥) → f' ≡ word_second a → g' ≡ word_second b
                → unifier_of r ≡ bind (subst_of s) (word_term f') (word_term g') → unifier_of r ≡ unify (word_atom a) (word_atom b)
            roles_unified f' g' r z fa' gb' h' =
                h' ∙ simp (fa', gb') (ap (λ o. and_then o (λ σ. bind σ (second_of a) (second_of b))) h ∙ on_roles (λ y. z (ka ∙ y)))

pub ruleset term_laws = (rules, spellings, replaced_there, kept_elsewhere, small_place, applied, object_applied)

pub ruleset place_laws = (rules, spellings, small_variable, small_place, targets_below, none_yet, targets_stored)

pub ruleset identity_laws = (place_laws, variable_stored, identity_done)

pub ruleset after_laws = (place_laws, after_stored, after_done)

pub ruleset object_laws = (object_first, object_second, two_objects)

pub ruleset join_laws = (rules, spellings, higher_first, higher_second, object_laws, small_where, bound)

pub ruleset atom_laws = (rules, spellings, small_first, small_second, concept_applied, role_applied, small_concept, small_role)

pub ruleset unify_laws = (
  atom_laws,
  kinds_differ,
  numbers_differ,
  small_second_other,
  firsts_apart,
  concepts_unified,
  roles_unified,
)
