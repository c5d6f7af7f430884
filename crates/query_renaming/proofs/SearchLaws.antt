-- The search for a renaming: what promising partial renamings have to do with renamings, and what each step of the search keeps.
use mathlib.Core.Path.{◌≡◌, refl, sym, ap, ◌∙◌, subst}
use mathlib.Core.Logic.{inl, inr, ◌↔◌, ◌≢◌}
use Prim.Native.Nat.{ℕ, zero, suc, ◌+◌, ◌≤◌, ◌<◌, zero-le}
use native.Mathlib.Nat.{le_refl}
use native.Mathlib.Decide.{ℕ_discrete, dec_lt}
use native.Mathlib.Omega.{arith}
use mathlib.Core.Bool.{Bool, true, false, not, ◌&&◌}
use mathlib.Core.List.{List, [], ◌∷◌}
use lib.Dec.{T, eqb}
use lib.ListN.{length, get_or, replicate, get_or-eq_default}
use borrow.Author.Rules.{rules}
use borrow.Author.Tests.{eqb-true, eqb-false, not-true, not-false}
use Rattle.theory.specs.Lists.{◌∈◌, any, pick}
use Rattle.theory.specs.Syntax.{Term, var, const, Query, terms, rename, same_term}
use Rattle.theory.specs.Renaming.{Alike, promising}
use Rattle.theory.specs.Targets.{places, no_target, target_at, HandedBack}
use Rattle.theory.specs.Laws.Options.{T_and, T_or, T_no, T_eqb, is_true, is_false}
use Rattle.theory.specs.Laws.Lists.{any_same}
use Rattle.theory.proofs.Laws.Syntax.{same_term_iff}
use Rattle.theory.proofs.Laws.Equivalence.{term_into}
use Rattle.theory.proofs.Laws.Promising.{renaming_promising}
use Rattle.theory.proofs.Laws.Targets.{precedes_least, none_handed_back}
use Rattle.words.specs.Words.{query_of, Small}
use Rattle.words.specs.declared.QueryWords.{QueryWords}
use Rattle.words.specs.Laws.LowVariables.{atom_low}
use Rattle.query_sets.specs.Sets.{holds}
use Rattle.query_sets.specs.Laws.Digits.{holds_none}
use Rattle.query_partial.specs.Partial.{entry, may_become, Sends}
use Rattle.query_partial.specs.SentLaws.{sent_entry, not_nowhere, other_entry, either_entry, apart_next, empty_entry, apart_nothing}
use Rattle.query_partial.specs.SentLaws.{sent_renaming}
use Rattle.query_partial.specs.declared.Partial.{Partial}
use Rattle.query_renaming.specs.Comparison.{Begun, Follows, RenamingOf, GoesOn, Offers, Allows, Judges, Completes}
use Rattle.query_renaming.specs.declared.compared.Compared.{Compared}

-- ---- where a renaming goes on from a partial one, that one is promising

module _ (p q : Query) (m : Partial) (r : Alike p q) (f : Follows p q m r) where
  follows_may : (t : Term) → t ∈ terms p → T (may_become m t (rename r.to t))
  unfolding may_become
  follows_may (var v) n = go (eqb (entry m v) 32) refl
    where
      go : (b : Bool) → eqb (entry m v) 32 ≡ b → T (pick b (not (holds m.taken (r.to v))) (eqb (entry m v) (r.to v)))
      go true e =
          (T_no (holds m.taken (r.to v))).1 (λ t.
          let c = f.comes (r.to v) t in
          c.2 (ap (entry m) (r.one_to_one c.0 v c.1 n c.3) ∙ eqb-true (entry m v) 32 e))
      go false e = (T_eqb (entry m v) (r.to v)).1 (sym (f.goes v n (eqb-false (entry m v) 32 e)))
  follows_may (const c) n = (T_eqb c c).1 refl

  follows_promising : promising (may_become m) p q ≡ true
  follows_promising = is_true (promising (may_become m) p q) (renaming_promising (may_become m) p q r follows_may)

-- ---- a variable is assigned

module _ (m n : Partial) (v w : ℕ) (s : Sends m v w n) where
  begun_sent : (p : Query) → var v ∈ terms p → Begun p v m → holds m.taken w ≡ false → Begun p (v + 1) n
  begun_sent p j b e = record {
    sent = λ u h i z. elim (either_entry m n v w s u) [
      | inl x ↦ not_nowhere m n v w s (sym x.1 ∙ z)
      | inr x ↦ (let d : u ≢ v = x.0 in b.sent u (omega arith) i (sym x.1 ∙ z))
    ];
    unsent = λ u h f. other_entry m n v w s u (λ d. f (subst (λ k. var k ∈ terms p) (sym d) j)) ∙ b.unsent u h f;
    left = λ u h k. other_entry m n v w s u (omega arith) ∙ b.left u (omega arith) k;
    one_to_one = apart_next m n v w s b.one_to_one e;
  }

  follows_next : (p q : Query) (r : Alike p q) → Follows p q m r → var v ∈ terms p → entry m v ≡ 32 → r.to v ≡ w → Follows p q n r
  follows_next p q r f i z e = record {
    goes = λ u j d. elim (either_entry m n v w s u) [
      | inl y ↦ ap r.to y.0 ∙ e ∙ sym y.1
      | inr y ↦ f.goes u j (λ k. d (y.1 ∙ k)) ∙ sym y.1
    ];
    comes = λ x t. elim ((T_or (eqb x w) (holds m.taken x)).0 (subst T (s.targets x) t)) [
      | inl h ↦ (v, i, (λ k. not_nowhere m n v w s (sym (sent_entry m n v w s) ∙ k)), e ∙ sym ((T_eqb x w).0 h))
      | inr h ↦ (let c = f.comes x h in (
        c.0,
        c.1,
        (λ k. elim (either_entry m n v w s c.0) [ inl y ↦ c.2 (ap (entry m) y.0 ∙ z) | inr y ↦ c.2 (sym y.1 ∙ k) ]),
        c.3,
      ))
    ];
  }

-- nothing is assigned
module _ (m : Partial) (to : m.to ≡ replicate 32 32) (taken : m.taken ≡ 0) where
  none_taken : (w : ℕ) → ¬ T (holds m.taken w)
  none_taken w t = subst T (ap (λ k. holds k w) taken ∙ holds_none w) t

  module _ (p : Query) (low : (v : ℕ) → var v ∈ terms p → v < 32) where
    begun_nothing : Begun p 0 m
    begun_nothing = record {
      sent = λ v h. absurd (omega arith);
      unsent = λ v h f. empty_entry m to v h;
      left = λ v h k. empty_entry m to v k;
      one_to_one = apart_nothing m to;
    }

    follows_nothing : (q : Query) (r : Alike p q) → Follows p q m r
    follows_nothing q r = record {
      goes = λ v i d. absurd (d (empty_entry m to v (low v i)));
      comes = λ w t. absurd (none_taken w t);
    }

-- a number that is no variable is passed over
begun_past : (p : Query) (v : ℕ) (m : Partial) → ¬ (var v ∈ terms p) → Begun p v m → Begun p (v + 1) m
begun_past p v m f b = record {
  sent = λ u h i. elim (ℕ_discrete u v) [ yes e ↦ absurd (f (subst (λ k. var k ∈ terms p) e i)) | no d ↦ b.sent u (omega arith) i ];
  unsent = b.unsent;
  left = λ u h. b.left u (omega arith);
  one_to_one = b.one_to_one;
}

-- within a list any default gives the same element
any_default : (l : List ℕ) (i d d' : ℕ) → i < length l → get_or l i d ≡ get_or l i d'
any_default [] i d d' h = absurd (omega arith)
any_default (x ∷ xs) zero d d' h = refl
any_default (x ∷ xs) (suc i) d d' h = any_default xs i d d' (omega arith)

-- ---- the sets of variables

pub held_not : (set v : ℕ) (b : Bool) → b ≡ holds set v → not b ≡ false → holds set v ≡ true
held_not set v b e f = sym e ∙ not-false b f

pub held_true : (set v : ℕ) (b : Bool) → b ≡ holds set v → b ≡ true → holds set v ≡ true
held_true set v b e f = sym e ∙ f

pub variable_held : (q : Query) (set v : ℕ) → ((u : ℕ) → holds set u ≡ any (same_term (var u)) (terms q))
    → T (holds set v) ↔ (var v ∈ terms q)
variable_held q set v h =
    let iff = any_same same_term same_term_iff (var v) (terms q) in (
      λ t. iff.0 (subst T (h v) t),
      λ i. subst T (sym (h v)) (iff.1 i),
    )

module _ (s : Compared) (m : Partial) (w : ℕ) (b : Bool) (e : b ≡ holds s.targets w) where
  pub free_target : (c : Bool) → b ≡ true → c ≡ holds m.taken w → not c ≡ (holds s.targets w && not (holds m.taken w))
  free_target c f h = simp (sym e, f, h)

  pub no_target_lem : b ≡ false → false ≡ (holds s.targets w && not (holds m.taken w))
  no_target_lem f = simp (sym e, f)

not_taken : (s : Compared) (m : Partial) (w : ℕ) (b : Bool) → b ≡ (holds s.targets w && not (holds m.taken w)) → b ≡ true
    → holds m.taken w ≡ false
not_taken s m w b e f =
    is_false (holds m.taken w)
    ((T_no (holds m.taken w)).0 ((T_and (holds s.targets w) (not (holds m.taken w))).0 (subst T (sym f ∙ e) tt)).1)

module _ (s : Compared) where
  source_stands : (v : ℕ) → holds s.sources v ≡ true → var v ∈ terms (query_of s.p)
  source_stands v e = (variable_held (query_of s.p) s.sources v s.from).0 (subst T (sym e) tt)

  -- where a renaming sends a variable there is a variable of the other query
  image_held : (r : RenamingOf s) (v : ℕ) → holds s.sources v ≡ true → T (holds s.targets (r.to v))
  image_held r v e =
      (variable_held (query_of s.q) s.targets (r.to v) s.onto).1
      (term_into (query_of s.p) (query_of s.q) r (source_stands v e))

  image_low : (r : RenamingOf s) (v : ℕ) → holds s.sources v ≡ true → r.to v < 32
  image_low r v e = s.small_q.variables (r.to v) (term_into (query_of s.p) (query_of s.q) r (source_stands v e))

  module _ (m : Partial) (v w : ℕ) (b : Bool) (e : holds s.sources v ≡ true)
      (free : b ≡ (holds s.targets w && not (holds m.taken w))) where
    pub not_offered : entry m v ≡ 32 → b ≡ false → Offers s m v w false
    not_offered z f = record {
      offers = λ r g d.
          sym f ∙ free ∙ is_true (holds s.targets w && not (holds m.taken w))
          ((T_and (holds s.targets w) (not (holds m.taken w))).1 (
            subst (λ u. T (holds s.targets u)) d (image_held r v e),
            (T_no (holds m.taken w)).1
                (λ t. let o = g.comes w t in o.2 (ap (entry m) (r.one_to_one o.0 v o.1 (source_stands v e) (o.3 ∙ sym d)) ∙ z)),
          ));
      untaken = λ h. absurd (subst T (sym h) tt);
    }

    pub offered : (c : Bool) → b ≡ true → ((r : RenamingOf s) → var v ∈ terms (query_of s.p) → r.to v ≡ w → c ≡ true) → Offers s m v w c
    offered c f h = record { offers = λ r g d. h r (source_stands v e) d; untaken = λ k. not_taken s m w b free f }

-- ---- the targets one after the other

-- the search for a target of v, which is not assigned yet, has come to w: no renaming that goes on from m sends v below w
pub record Seeks (s : Compared) (m : Partial) (v w : ℕ) : Type 0 where
  pub source : holds s.sources v ≡ true
  pub unsent : entry m v ≡ 32
  pub beyond : (r : RenamingOf s) → GoesOn s m r → w ≤ r.to v

pub seeks_first : (s : Compared) (m : Partial) (v : ℕ) → holds s.sources v ≡ true → entry m v ≡ 32 → Seeks s m v 0
seeks_first s m v e z = record { source = e; unsent = z; beyond = λ r g. zero-le }

module _ (s : Compared) (m : Partial) (v w : ℕ) (k : Seeks s m v w) where
  past : ((r : RenamingOf s) → GoesOn s m r → r.to v ≡ w → ⊥) → Seeks s m v (w + 1)
  past f = record {
    source = k.source;
    unsent = k.unsent;
    beyond = λ r g. (let h = k.beyond r g in let d = f r g in omega arith);
  }

  pub past_unoffered : (b : Bool) → Offers s m v w b → b ≡ false → Seeks s m v (w + 1)
  past_unoffered b o f = past (λ r g d. subst T (sym (o.offers r g d) ∙ f) tt)

  pub begun_next : (n : Partial) → Sends m v w n → Begun (query_of s.p) v m → holds m.taken w ≡ false
      → Begun (query_of s.p) (v + 1) n
  begun_next n sends = begun_sent m n v w sends (query_of s.p) (source_stands s v k.source)

  module _ (n : Partial) (b : Bool) where
    past_refused : Allows s n b → b ≡ false → Sends m v w n → Seeks s m v (w + 1)
    past_refused a f sends = past (λ r g d.
        subst T (sym (a.allows r (follows_next m n v w sends (query_of s.p) (query_of s.q) r g
        (source_stands s v k.source) k.unsent d)) ∙ f) tt)

    pub past_unpromising : b ≡ promising (may_become n) (query_of s.p) (query_of s.q) → b ≡ false → Sends m v w n → Seeks s m v (w + 1)
    past_unpromising d = past_refused (record { allows = λ r g. d ∙ follows_promising (query_of s.p) (query_of s.q) n r g })

    pub past_unviable : Judges s n b → b ≡ false → Sends m v w n → Seeks s m v (w + 1)
    past_unviable j = past_refused j.permits

    pub past_uncompleted : (t : List ℕ) → Completes s n b t → b ≡ false → Sends m v w n → Seeks s m v (w + 1)
    past_uncompleted t d = past_refused (record { allows = d.complete })

    -- the first target with which the search goes on to a renaming: none that goes on from m goes lower
    pub first_found : (t : List ℕ) → Completes s n b t → b ≡ true → Sends m v w n → Begun (query_of s.p) v m → Completes s m b t
    first_found t d e sends begun = record {
      complete = λ r g. e;
      fits = d.fits;
      goes = goes_too;
      least = λ h r g. elim (ℕ_discrete w (r.to v)) [
        | yes same ↦ d.least h r (follows_next m n v w sends (query_of s.p) (query_of s.q) r g stands k.unsent (sym same))
        | no differ ↦ (let low = k.beyond r g in
            record {
              lower = inr (
                v,
                stands,
                below h (r.to v) (omega arith),
                λ u i l. goes_too h u i (begun.sent u l i)
                    ∙ sym (g.goes u i (begun.sent u l i)),
              );
            })
      ];
      no_targets = d.no_targets;
    }
      where
        stands : var v ∈ terms (query_of s.p)
        stands = source_stands s v k.source

        goes_too : b ≡ true → (u : ℕ) → var u ∈ terms (query_of s.p) → (entry m u ≡ 32 → ⊥) → target_at t u ≡ entry m u
        goes_too h u i f =
            let z : entry n u ≡ entry m u = other_entry m n v w sends u (λ x. f (ap (entry m) x ∙ k.unsent)) in
            d.goes h u i (λ y. f (sym z ∙ y)) ∙ z

        below : b ≡ true → (x : ℕ) → w < x → target_at t v < x
        below h x l =
            let z = sent_entry m n v w sends in
            let y = d.goes h v stands (λ y. not_nowhere m n v w sends (sym z ∙ y)) in
            subst (λ c. c < x) (sym (y ∙ z)) l

  pub past_all : 32 ≤ w → Allows s m false
  past_all h = record { allows = λ r g. (let x = k.beyond r g in let y = image_low s r v k.source in absurd (omega arith)) }

pub untaken : (s : Compared) (m : Partial) (v w : ℕ) (b : Bool) → Offers s m v w b → b ≡ true → holds m.taken w ≡ false
untaken s m v w b o e = o.untaken e

-- ---- answers

module _ (s : Compared) where
  module _ (m : Partial) where
    pub allows_all : Allows s m true
    allows_all = record { allows = λ r g. refl }

    pub refused : (b : Bool) → b ≡ false → Allows s m b → Allows s m false
    refused b e a = record { allows = λ r g. sym e ∙ a.allows r g }

    module _ (b : Bool) (e : b ≡ promising (may_become m) (query_of s.p) (query_of s.q)) where
      pub looked_ahead : (r : Bool) → b ≡ true → Allows s m r → Judges s m r
      looked_ahead r f a = record { promises = λ h. sym e ∙ f; permits = a }

      pub unpromising : b ≡ false → Judges s m false
      unpromising f = record {
        promises = λ h. absurd (subst T (sym h) tt);
        permits = record { allows = λ r g. sym f ∙ e ∙ follows_promising (query_of s.p) (query_of s.q) m r g };
      }

    pub judged : (b : Bool) → Judges s m b → b ≡ true → promising (may_become m) (query_of s.p) (query_of s.q) ≡ true
    judged b j e = j.promises e

    pub none_left : (b : Bool) (t : List ℕ) → b ≡ false → t ≡ replicate places no_target → Allows s m false → Completes s m b t
    none_left b t e f a = record {
      complete = λ r g. e ∙ a.allows r g;
      fits = λ h. absurd (subst T (sym h ∙ e) tt);
      goes = λ h. absurd (subst T (sym h ∙ e) tt);
      least = λ h. absurd (subst T (sym h ∙ e) tt);
      no_targets = λ h. f;
    }

    pub all_sent : (v : ℕ) (b : Bool) (t : List ℕ) → v ≡ 32 → Begun (query_of s.p) v m
        → promising (may_become m) (query_of s.p) (query_of s.q) ≡ true → b ≡ true → t ≡ m.to → Completes s m b t
    all_sent v b t z begun e f g = record {
      complete = λ r h. f;
      fits = λ h. record {
        renaming = renamed.0;
        sent = λ u i. at u (low u i) ∙ sym (renamed.1 u);
        unsent = λ u n. elim (dec_lt u 32) [
          | yes l ↦ at u l ∙ begun.unsent u l n
          | no l ↦ get_or-eq_default t 32 {n = u} (let k = long in omega arith)
        ];
        long = long;
      };
      goes = λ h u i n. at u (low u i);
      least = λ h r k. record { lower = inl (λ u i. at u (low u i) ∙ sym (k.goes u i (sent u i))) };
      no_targets = λ h. absurd (subst T (sym f ∙ h) tt);
    }
      where
        low : (u : ℕ) → var u ∈ terms (query_of s.p) → u < 32
        low = s.small_p.variables

        long : length t ≡ 32
        long = ap length g ∙ begun.one_to_one.long

        sent : (u : ℕ) → var u ∈ terms (query_of s.p) → entry m u ≡ 32 → ⊥
        sent u i = begun.sent u (let l = low u i in omega arith) i

        at : (u : ℕ) → u < 32 → target_at t u ≡ entry m u
        at u l = any_default t u 32 0 (let k = long in omega arith) ∙ ap (λ l. get_or l u 0) g

        renamed : (r : RenamingOf s) × ((u : ℕ) → r.to u ≡ entry m u)
        renamed = sent_renaming (query_of s.p) (query_of s.q) m low begun.one_to_one sent e

    pub entry_left : (v n : ℕ) → Begun (query_of s.p) n m → n ≤ v → v < 32 → entry m v ≡ 32
    entry_left v n b h k = b.left v h k

    pub unsent : (v : ℕ) → v ≤ 32 → (v ≡ 32 → ⊥) → Begun (query_of s.p) v m → entry m v ≡ 32
    unsent v h d b = b.left v (le_refl v) (omega arith)

    pub passed_over : (v : ℕ) (b : Bool) → b ≡ holds s.sources v → not b ≡ true → Begun (query_of s.p) v m
        → Begun (query_of s.p) (v + 1) m
    passed_over v b e f =
        begun_past (query_of s.p) v m
        (λ i. subst T (sym e ∙ not-true b f) ((variable_held (query_of s.p) s.sources v s.from).1 i))

pub not_as_many : (s : Compared) (m : Partial) (b : Bool) → (RenamingOf s → b ≡ true) → b ≡ false → Allows s m false
not_as_many s m b f e = record { allows = λ r g. sym e ∙ f r }

-- ---- from nothing on

module _ (m : Partial) (to : m.to ≡ replicate 32 32) (taken : m.taken ≡ 0) (p q : QueryWords) (small_p : Small p) (small_q : Small q)
  where
    pub begun_first : (s : Compared) → s.p ≡ p → Begun (query_of s.p) 0 m
    begun_first s e = subst (λ k. Begun (query_of k) 0 m) (sym e) (begun_nothing m to taken (query_of p) small_p.variables)

    pub promising_first : (s : Compared) (b : Bool) → s.p ≡ p → s.q ≡ q → b ≡ promising (may_become m) (query_of p) (query_of q) → b ≡ true
        → promising (may_become m) (query_of s.p) (query_of s.q) ≡ true
    promising_first s b e f h i = rw (e, f) (sym h ∙ i)

    -- the first renaming found is the smallest
    pub handed_back : (s : Compared) (b : Bool) (t : List ℕ) → s.p ≡ p → s.q ≡ q → Completes s m b t
        → HandedBack (query_of p) (query_of q) b t
    handed_back s b t e f d =
        let low : (v : ℕ) → var v ∈ terms (query_of s.p) → v < 32 =
        subst (λ k. (v : ℕ) → var v ∈ terms (query_of k) → v < 32) (sym e) small_p.variables in
        let follows : (r : RenamingOf s) → GoesOn s m r = λ r. follows_nothing m to taken (query_of s.p) low (query_of s.q) r in
        let h : HandedBack (query_of s.p) (query_of s.q) b t = record {
          smallest = λ i. record {
            fits = d.fits i;
            least = λ r. precedes_least (query_of s.p) (target_at t) r.to (d.least i r (follows r));
          };
          none_fits = λ i r. subst T (sym (d.complete r (follows r)) ∙ i) tt;
          no_targets = d.no_targets;
        } in
        rw (e, f) at h

    pub unlike : (b c : Bool) (t : List ℕ) → b ≡ promising (may_become m) (query_of p) (query_of q) → b ≡ false → c ≡ false
        → t ≡ replicate places no_target → HandedBack (query_of p) (query_of q) c t
    unlike b c t e f =
        none_handed_back (query_of p) (query_of q) c t (λ r. subst T (sym (e ∙ follows_promising (query_of p) (query_of q) m r
        (follows_nothing m to taken (query_of p) small_p.variables (query_of q) r)) ∙ f) tt)

pub ruleset laws = (
  rules,
  atom_low,
  held_not,
  held_true,
  free_target,
  no_target_lem,
  not_offered,
  offered,
  untaken,
  begun_next,
  seeks_first,
  past_unoffered,
  past_unpromising,
  past_unviable,
  past_uncompleted,
  first_found,
  past_all,
  allows_all,
  refused,
  looked_ahead,
  unpromising,
  judged,
  none_left,
  all_sent,
  entry_left,
  unsent,
  passed_over,
  not_as_many,
  begun_first,
  promising_first,
  handed_back,
  unlike,
)
