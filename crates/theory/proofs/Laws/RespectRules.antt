-- Rule steps respect renaming: what a rule makes of an atom it makes of the atom's image in every query that is alike, and the
-- results are alike again.
use Rattle.std.specs.Prelude.{◌≡◌, refl, ◌⊎◌, ◌↔◌, ◌≢◌, ℕ, ◌≤◌, ◌<◌, Bool, List, T, set}
use Rattle.std.proofs.Math.Path.{sym, ap}
use Rattle.std.proofs.Common.{◌∙◌, subst, arith}
use Rattle.std.proofs.Math.Logic.{inl, inr}
use Rattle.std.proofs.Math.Option.{some}
use mathlib.Core.List.Memᴰ
use Rattle.theory.specs.Lists.{◌∈◌, At, Unrepeated, count}
use Rattle.theory.specs.Syntax.{Term, var, const, Atom, concept, role, Rule, Query, args, terms, map_atom, rename, same_term}
use Rattle.theory.specs.Rewriting.{unbound, fresh, change_atom, rule_step}
use Rattle.theory.specs.Renaming.{Alike}
use Rattle.theory.specs.Laws.Options.{either, same_test}
use Rattle.theory.specs.Laws.Lists.{here, at_mem, mem_at, at_equal, mem_along, map_agree, unrepeated_at, set_mem}
use Rattle.theory.specs.Laws.Counting.{total, total_at, total_some, count_same}
use Rattle.theory.proofs.Laws.Syntax.{same_term_iff, map_atom_agree, args_map, terms_atoms, terms_answers, terms_cases, keep_once_mem}
use Rattle.theory.proofs.Laws.Syntax.{mem_keep_once, update, update_same, update_other}
use Rattle.theory.proofs.Laws.Unbound.{standing, unbound_total, unbound_answers, unbound_elsewhere, bound_elsewhere}
use Rattle.theory.proofs.Laws.Fresh.{fresh_new}
use Rattle.theory.proofs.Laws.Steps.{rule_step_iff}
use Rattle.theory.proofs.Laws.Equivalence.{term_into, rename_injective, image_injective}
use Rattle.theory.specs.Laws.Rules.{Within}
use Rattle.theory.proofs.Laws.Rules.{rewrite_image}

module _ {X Y : Type 0} (f : X → Y) where
  -- a test counts on an atom's image what it counts on the atom if it is made before the map
  count_image : (test : Y → Bool) (before : X → Bool) (a : Atom X) → ((x : X) → x ∈ args a → test (f x) ≡ before x)
      → count test (args (map_atom f a)) ≡ count before (args a)
  unfolding count
  count_image test before (concept A x) h = rw (h x here)
  count_image test before (role P x y) h = rw (h x here, h y (Memᴰ.tail here))

-- what stands in a query after its atom a was changed to b
change_mem : (q : Query) (i : ℕ) (a b : Atom Term) → Unrepeated q.atoms → At q.atoms i a → (c : Atom Term)
    → (c ∈ (change_atom q i b).atoms) ↔ ((c ≡ b) ⊎ ((c ∈ q.atoms) × (c ≢ a)))
unfolding change_atom
change_mem q i a b u e c = (
  λ m. (set_mem q.atoms i a b u e c).0 (keep_once_mem (set q.atoms i b) m),
  λ s. mem_keep_once ((set_mem q.atoms i a b u e c).1 s),
)

change_terms : (q : Query) (i : ℕ) (a b : Atom Term) → Unrepeated q.atoms → At q.atoms i a → (t : Term) → t ∈ terms (change_atom q i b)
    → (t ∈ terms q) ⊎ (t ∈ args b)
unfolding change_atom
change_terms q i a b u e t m =
    elim (terms_cases (change_atom q i b) m) [
      | inl n ↦ inl (terms_answers q n)
      | inr w ↦ elim ((change_mem q i a b u e w.0).0 w.1) [
        | inl d ↦ inr (subst (λ c. t ∈ args c) d w.2)
        | inr s ↦ inl (terms_atoms q s.0 w.2)
      ]
    ]

module _ (p q : Query) (r : Alike p q) where
  -- ---- unbound variables

  -- a variable stands in an atom as often as its image stands in the atom's image
  standing_image : (v : ℕ) (a : Atom Term) → var v ∈ terms p → a ∈ p.atoms → standing (r.to v) (map_atom (rename r.to) a) ≡ standing v a
  standing_image v a m n =
      count_image (rename r.to) (same_term (var (r.to v))) (same_term (var v)) a
      (λ t k. same_test (same_term (var (r.to v)) (rename r.to t)) (same_term (var v) t) (
        λ x. (same_term_iff (var v) t).1
            (rename_injective p q r (var v) t m (terms_atoms p n k) ((same_term_iff (var (r.to v)) (rename r.to t)).0 x)),
        λ x. (same_term_iff (var (r.to v)) (rename r.to t)).1 (ap (rename r.to) ((same_term_iff (var v) t).0 x)),
      ))

  -- the image of an unbound variable is no answer term, and stands only in the image of the variable's atom
  unbound_answer : (v : ℕ) → T (unbound p (var v)) → var v ∈ terms p → ¬ (var (r.to v) ∈ q.answers)
  unbound_answer v x m n =
      let s = Memᴰ.of_map (rename r.to) p.answers (mem_along (sym r.on_answers) n) in
      unbound_answers p v x (Memᴰ.cast (sym (rename_injective p q r s.0 (var v) (terms_answers p s.1) m s.2)) s.1)

  unbound_atom : (v : ℕ) (a b : Atom Term) → T (unbound p (var v)) → a ∈ p.atoms → var v ∈ args a → b ∈ q.atoms → var (r.to v) ∈ args b
      → b ≡ map_atom (rename r.to) a
  unbound_atom v a b x m n k l =
      let c = r.onto b k in
      let s = args_map (rename r.to) c.0 (subst (λ z. var (r.to v) ∈ args z) (sym c.2) l) in
      let e : s.0 ≡ var v = rename_injective p q r s.0 (var v) (terms_atoms p c.1 s.1) (terms_atoms p m n) s.2 in
      let i = mem_at m in
      let j = mem_at c.1 in
      let d : j.0 ≡ i.0 = unbound_elsewhere p v j.0 i.0 c.0 a x j.1 i.1 (Memᴰ.cast (sym e) s.1) n in
      sym c.2 ∙ ap (map_atom (rename r.to)) (at_equal p.atoms d j.1 i.1)

  -- unbound variables go to unbound variables
  pub unbound_respected : Unrepeated q.atoms → (v : ℕ) → T (unbound p (var v)) → T (unbound q (var (r.to v)))
  unbound_respected u v x =
      let all : total (standing v) p.atoms ≡ 1 = unbound_total p v x in
      let s = total_some (standing v) p.atoms (omega arith) in
      let h : standing v s.1 ≤ total (standing v) p.atoms = total_at (standing v) p.atoms s.0 s.2 in
      let l : 0 < standing v s.1 = s.3 in
      go s.1 (at_mem p.atoms s.0 s.2) (omega arith) ((count_same same_term same_term_iff (var v) (args s.1)).0 l)
    where
      go : (a : Atom Term) → a ∈ p.atoms → standing v a ≡ 1 → var v ∈ args a → T (unbound q (var (r.to v)))
      go a m one n =
          let k = mem_at (r.into a m) in
          let stands : var v ∈ terms p = terms_atoms p m n in
          elim (either (unbound q (var (r.to v)))) [
            | inl y ↦ y
            | inr f ↦
                (let w = bound_elsewhere q (r.to v) k.0 (map_atom (rename r.to) a) k.1 f (standing_image v a stands m
                ∙ one) (unbound_answer v x stands) in
                let e : w.1 ≡ map_atom (rename r.to) a = unbound_atom v a w.1 x m n (at_mem q.atoms w.0 w.2) w.4 in
                absurd (w.3 (unrepeated_at q.atoms u w.0 k.0 (w.2 ∙ ap some e) k.1)))
          ]

  unbound_term : Unrepeated q.atoms → (t : Term) → T (unbound p t) → T (unbound q (rename r.to t))
  unfolding unbound
  unbound_term u (var v) x = unbound_respected u v x
  unbound_term u (const c) x = x

  -- ---- the renaming of the results: the fresh variable of p goes to that of q

  abbrev extended : ℕ → ℕ
  extended = update r.to (fresh p) (fresh q)

  extended_old : (v : ℕ) → var v ∈ terms p → extended v ≡ r.to v
  extended_old v m = update_other r.to (fresh p) (fresh q) v (λ e. fresh_new p (Memᴰ.cast (ap var (sym e)) m))

  extended_fresh : extended (fresh p) ≡ fresh q
  extended_fresh = update_same r.to (fresh p) (fresh q)

  rename_old : (t : Term) → t ∈ terms p → rename extended t ≡ rename r.to t
  rename_old (var v) m = ap var (extended_old v m)
  rename_old (const c) m = refl

  image_old : (a : Atom Term) → a ∈ p.atoms → map_atom (rename extended) a ≡ map_atom (rename r.to) a
  image_old a m = map_atom_agree (rename extended) (rename r.to) a (λ t n. rename_old t (terms_atoms p m n))

  -- ---- the step

  -- the renaming is one-to-one on the old variables and the fresh one
  fresh_apart : (v : ℕ) → var v ∈ terms p → ¬ (extended v ≡ extended (fresh p))
  fresh_apart v m e = fresh_new q (Memᴰ.cast (ap var (sym extended_fresh ∙ sym e ∙ extended_old v m)) (term_into p q r m))

  extended_injective : (u v : ℕ) → (var u ∈ terms p) ⊎ (u ≡ fresh p) → (var v ∈ terms p) ⊎ (v ≡ fresh p) → extended u ≡ extended v → u ≡ v
  extended_injective u v (inl m) (inl n) e = r.one_to_one u v m n (sym (extended_old u m) ∙ e ∙ extended_old v n)
  extended_injective u v (inl m) (inr d) e = absurd (fresh_apart u m (e ∙ ap extended d))
  extended_injective u v (inr d) (inl n) e = absurd (fresh_apart v n (sym e ∙ ap extended d))
  extended_injective u v (inr d) (inr f) e = d ∙ sym f

  module _ (up : Unrepeated p.atoms) (uq : Unrepeated q.atoms) where
    -- an atom and its image changed to b and its image
    change_respected : (i j : ℕ) (a b : Atom Term) → At p.atoms i a → At q.atoms j (map_atom (rename r.to) a) → Within p a b
        → Alike (change_atom p i b) (change_atom q j (map_atom (rename extended) b))
    unfolding change_atom
    change_respected i j a b e f within = record {
      to = extended;
      one_to_one = λ u v m n. extended_injective u v (old u m) (old v n);
      on_answers = map_agree (rename extended) (rename r.to) p.answers (λ t m. rename_old t (terms_answers p m)) ∙ r.on_answers;
      into = λ c m. (in_q (image c)).1 (elim ((in_p c).0 m) [
        | inl d ↦ inl (ap image d)
        | inr s ↦ inr (
          Memᴰ.cast (image_old c s.0) (r.into c s.0),
          λ d. s.1 (image_injective p q r c a s.0 (at_mem p.atoms i e) (sym (image_old c s.0) ∙ d)),
        )
      ]);
      onto = λ d m. elim ((in_q d).0 m) [
        | inl k ↦ (b, (in_p b).1 (inl refl), sym k)
        | inr s ↦ (let c = r.onto d s.0 in
            (c.0, (in_p c.0).1 (inr (c.1, λ k. s.1 (sym c.2 ∙ ap (map_atom (rename r.to)) k))), image_old c.0 c.1 ∙ c.2))
      ];
    }
      where
        image : Atom Term → Atom Term
        image = map_atom (rename extended)

        in_p : (c : Atom Term) → (c ∈ (change_atom p i b).atoms) ↔ ((c ≡ b) ⊎ ((c ∈ p.atoms) × (c ≢ a)))
        in_p = change_mem p i a b up e

        in_q : (c : Atom Term) → (c ∈ (change_atom q j (image b)).atoms)
            ↔ ((c ≡ image b) ⊎ ((c ∈ q.atoms) × (c ≢ map_atom (rename r.to) a)))
        in_q = change_mem q j (map_atom (rename r.to) a) (image b) uq f

        old : (v : ℕ) → var v ∈ terms (change_atom p i b) → (var v ∈ terms p) ⊎ (v ≡ fresh p)
        old v m =
            elim (change_terms p i a b up e (var v) m) [
              | inl n ↦ inl n
              | inr n ↦ elim (within (var v) n) [ inl k ↦ inl (terms_atoms p (at_mem p.atoms i e) k) | inr k ↦ inr (cc) ]
            ]

    -- the same rule on the atom's image
    pub rule_respected : (rules : List Rule) (i k : ℕ) (s : Query) → rule_step rules p i k ≡ some s
        → (j : ℕ) × (t : Query) × (rule_step rules q j k ≡ some t) × Alike s t
    rule_respected rules i k s e =
        let w = (rule_step_iff rules p i k s).0 e in
        let b = map_atom (rename extended) w.2 in
        let m = at_mem p.atoms i w.4 in
        let j = mem_at (r.into w.1 m) in
        let c = rewrite_image p q (rename r.to) (rename extended) (unbound_term uq) (ap var extended_fresh) w.0 w.1 w.2
        (λ t n. rename_old t (terms_atoms p m n)) w.5 in (
          j.0,
          change_atom q j.0 b,
          (rule_step_iff rules q j.0 k (change_atom q j.0 b)).1 (w.0, map_atom (rename r.to) w.1, b, w.3, j.1, c.0, refl),
          subst (λ x. Alike x (change_atom q j.0 b)) w.6 (change_respected i j.0 w.1 w.2 w.4 j.1 c.1),
        )
