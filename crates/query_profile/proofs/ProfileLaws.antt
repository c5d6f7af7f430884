-- What a renaming keeps: sets of variables that it carries to each other are equally large.
use mathlib.Core.Path.{◌≡◌, refl, sym, ap, ◌∙◌, subst}
use mathlib.Core.Logic.{inl, inr, ◌↔◌}
use Prim.Native.Nat.{ℕ, zero, suc, ◌+◌, ◌/◌, ◌%◌, ◌^◌, ◌≤◌, ◌<◌, zero-le}
use native.Mathlib.Nat.{le_antisymm, mod-lt, mod-eq_of_lt}
use native.Mathlib.Numerals.{one-add}
use native.Mathlib.Decide.{ℕ_discrete}
use native.Mathlib.Omega.{arith}
use mathlib.Core.Bool.{Bool, true, false, ◌&&◌, ◌||◌, or_assoc, or_comm, or-false}
use mathlib.Core.List.Memᴰ
use mathlib.Core.List.{List, [], ◌∷◌}
use lib.Dec.{T, eqb}
use lib.ListN.{length, get_or}
use lib.Pow.{pow_pos, mod-pow-add}
use lib.Count.{ones, ones_cat}
use borrow.Author.Rules.{rules}
use borrow.Author.Tests.{eq-eqb}
use Rattle.theory.specs.Lists.{◌∈◌, Unrepeated, pick, any}
use Rattle.theory.specs.Syntax.{Term, var, Atom, concept, role, Query, args, terms, map_atom, rename, same_term}
use Rattle.theory.specs.Renaming.{Alike}
use Rattle.theory.specs.Laws.Options.{T_and, pick_true, same_test}
use Rattle.theory.specs.Laws.Lists.{here, mem_along, any_decides, any_same, mem_at, mem_drop_at, drop_at, at_equal}
use Rattle.theory.proofs.Laws.Syntax.{same_term_iff, args_map, map_args, terms_atoms}
use Rattle.theory.proofs.Laws.Pigeonhole.{length_drop_at}
use Rattle.theory.proofs.Laws.Equivalence.{inverse, rename_injective}
use Rattle.theory.proofs.Laws.Spellings.{spellings}
use Rattle.theory.specs.Laws.Scans.{some_from, test_at, some_next, some_past}
use Rattle.words.specs.Words.{query_of, word_term, word_atom}
use Rattle.words.specs.Laws.Scans.{some_atom}
use Rattle.words.specs.declared.QueryWords.{QueryWords}
use Rattle.words.specs.Laws.LowVariables.{atom_low, variable_word}
use Rattle.query_sets.specs.Sets.{holds}
use Rattle.query_sets.specs.Laws.Digits.{holds_none, holds_below}
use Rattle.query_variables.specs.UsedVariables.{AddsVariables}
use Rattle.query_partial.specs.Partial.{same_predicate}
use Rattle.query_profile.specs.Gathered.{stands_in, Gathers}

-- ---- a list that goes one-to-one into another is no longer

injected : {X Y : Type 0} (f : X → Y) (xs : List X) (ys : List Y) → Unrepeated xs → ((x : X) → x ∈ xs → f x ∈ ys)
    → ((x z : X) → x ∈ xs → z ∈ xs → f x ≡ f z → x ≡ z) → length xs ≤ length ys
injected f [] ys u into one = zero-le
injected f (x ∷ xs) ys u into one =
    let first = mem_at (into x here) in
    let rest : length xs ≤ length (drop_at ys first.0) =
    injected f xs (drop_at ys first.0) u.1
    (λ z m. let s = mem_at (into z (Memᴰ.tail m)) in mem_drop_at ys first.0 s.0 s.1
    (λ e. u.0 (Memᴰ.cast (one x z here (Memᴰ.tail m) (sym (at_equal ys e s.1 first.1))) m)))
    (λ y z m n. one y z (Memᴰ.tail m) (Memᴰ.tail n)) in
    omega (arith, rest, length_drop_at ys first.0 first.1)

-- ---- the numbers below k that a set holds

held : ℕ → ℕ → List ℕ
unfolding holds
held set zero = []
held set (suc k) = pick (holds set k) (k ∷ held set k) (held set k)

held_mem : (set k v : ℕ) → v ∈ held set k → (v < k) × T (holds set v)
unfolding held
held_mem set zero v m = absurd (Memᴰ.not-nil m)
held_mem set (suc k) v m = go (holds set k) refl (λ n. let r = held_mem set k v n in (omega (arith, r.0), r.1)) m
  where
    go : (b : Bool) → holds set k ≡ b → (v ∈ held set k → (v < suc k) × T (holds set v)) → v ∈ pick b (k ∷ held set k) (held set k)
        → (v < suc k) × T (holds set v)
    go true e later n = elim (Memᴰ.cases_cons n) [ inl d ↦ (omega arith, subst T (sym (ap (holds set) d ∙ e)) tt) | inr l ↦ later l ]
    go false e later n = later n

mem_held : (set k v : ℕ) → v < k → T (holds set v) → v ∈ held set k
unfolding held
mem_held set zero v h t = absurd (omega arith)
mem_held set (suc k) v h t =
    elim (ℕ_discrete v k) [
      | yes e ↦ mem_along (sym (pick_true (holds set k) (k ∷ held set k) (held set k) (subst (λ u. T (holds set u)) e t)))
          (Memᴰ.head e)
      | no d ↦ (let m = mem_held set k v (omega arith) t in
          elim (holds set k) as (λ b. v ∈ pick b (k ∷ held set k) (held set k)) [ true ↦ Memᴰ.tail m | false ↦ m ])
    ]

held_unrepeated : (set k : ℕ) → Unrepeated (held set k)
unfolding held
held_unrepeated set zero = tt
held_unrepeated set (suc k) =
    elim (holds set k) as (λ b. Unrepeated (pick b (k ∷ held set k) (held set k))) [
      | true ↦ ((λ m. let h = (held_mem set k k m).0 in omega arith), held_unrepeated set k)
      | false ↦ held_unrepeated set k
    ]

-- ---- are as many as its word has digits 1

one_digit : (d n : ℕ) → d < 2 → pick (eqb d 1) (suc n) n ≡ ones d + n
unfolding ones
one_digit zero n h = omega arith
one_digit (suc zero) n h = omega arith
one_digit (suc (suc d)) n h = absurd (omega arith)

held_length : (set k : ℕ) → length (held set k) ≡ ones (set % 2 ^ k)
unfolding held holds ones
held_length set zero = let e : 0 ≡ set % 1 = omega arith in ap ones e
held_length set (suc k) =
    let d : ℕ = set / 2 ^ k % 2 in
    pick_length (eqb d 1)
    ∙ one_digit d (length (held set k)) (omega arith)
    ∙ ap (λ n. ones d + n) (held_length set k)
    ∙ sym (ones_cat k d (set % 2 ^ k) (mod-lt set (pow_pos k)))
    ∙ ap ones (sym (mod-pow-add set 1 k) ∙ ap (λ n. set % 2 ^ n) (one-add k))
  where
    pick_length : (b : Bool) → length (pick b (k ∷ held set k) (held set k)) ≡ pick b (suc (length (held set k))) (length (held set k))
    pick_length true = refl
    pick_length false = refl

-- ---- sets that a renaming carries to each other

module _ (p q : Query) (r : Alike p q) where
  -- a variable of p and where it goes are both in the sets or both not
  abbrev Carries : ℕ → ℕ → Type 0
  Carries set other =
      ((v : ℕ) → T (holds set v) → var v ∈ terms p)
      × ((w : ℕ) → T (holds other w) → var w ∈ terms q)
      × ((v : ℕ) → var v ∈ terms p → T (holds set v) ↔ T (holds other (r.to v)))

  carried_ones : (set other : ℕ) → set < 4294967296 → other < 4294967296 → Carries set other → ones set ≡ ones other
  carried_ones set other h k c = sym (held_ones set h) ∙ le_antisymm forth back ∙ held_ones other k
    where
      held_ones : (s : ℕ) → s < 4294967296 → length (held s 32) ≡ ones s
      held_ones s l = held_length s 32 ∙ ap ones (mod-eq_of_lt l)

      forth : length (held set 32) ≤ length (held other 32)
      forth =
          injected r.to (held set 32) (held other 32) (held_unrepeated set 32)
          (λ v m. let t = (held_mem set 32 v m).1 in let u = (c.2 v (c.0 v t)).0 t in mem_held other 32 (r.to v) (holds_below 32 k u) u)
          (λ u v m n e. r.one_to_one u v (c.0 u (held_mem set 32 u m).1) (c.0 v (held_mem set 32 v n).1) e)

      undo : (w : ℕ) → w ∈ held other 32 → (var ((inverse p q r).0 w) ∈ terms p) × (r.to ((inverse p q r).0 w) ≡ w)
      undo w m = (inverse p q r).2 w (c.1 w (held_mem other 32 w m).1)

      back : length (held other 32) ≤ length (held set 32)
      back =
          injected (inverse p q r).0 (held other 32) (held set 32) (held_unrepeated other 32)
          (λ w m.
          let s = undo w m in
          let t = (c.2 ((inverse p q r).0 w) s.0).1 (subst (λ u. T (holds other u)) (sym s.1) (held_mem other 32 w m).1) in
          mem_held set 32 ((inverse p q r).0 w) (holds_below 32 h t) t)
          (λ u v m n e. sym (undo u m).1 ∙ ap r.to e ∙ (undo v n).1)

  -- ---- the variables of atoms that pass a test which a renaming keeps

  -- a variable stands in an atom of p exactly where its target stands in the renamed atom
  stands_iff : (a : Atom Term) (v : ℕ) → a ∈ p.atoms → var v ∈ terms p
      → (var v ∈ args a) ↔ (var (r.to v) ∈ args (map_atom (rename r.to) a))
  stands_iff a v i j = (
    λ m. map_args (rename r.to) a m,
    λ m. (let x = args_map (rename r.to) a m in
        Memᴰ.cast (sym (rename_injective p q r x.0 (var v) (terms_atoms p i x.1) j x.2)) x.1),
  )

stands_mem : (v : ℕ) (a : Atom Term) → T (stands_in v a) ↔ (var v ∈ args a)
unfolding stands_in
stands_mem v a = any_same same_term same_term_iff (var v) (args a)

gathers_iff : (test : Atom Term → Bool) (q : Query) (set u : ℕ) → Gathers test q set
    → T (holds set u) ↔ ((a : Atom Term) × (a ∈ q.atoms) × (T (test a) × (var u ∈ args a)))
gathers_iff test q set u g =
    let iff = any_decides (λ a. test a && stands_in u a) (λ a. T (test a) × (var u ∈ args a)) q.atoms (λ a. (
      λ t. (let s = (T_and (test a) (stands_in u a)).0 t in (s.0, (stands_mem u a).0 s.1)),
      λ s. (T_and (test a) (stands_in u a)).1 (s.0, (stands_mem u a).1 s.1),
    )) in (
      λ t. iff.0 (subst T (g.gathers u) t),
      λ w. subst T (sym (g.gathers u)) (iff.1 w),
    )

-- a test on the atoms of p, and one on those of q, that pass on an atom and on its image
module _ (p q : Query) (r : Alike p q) (tp tq : Atom Term → Bool)
    (keeps : (a : Atom Term) → a ∈ p.atoms → tp a ≡ tq (map_atom (rename r.to) a)) (set other : ℕ) (gp : Gathers tp p set)
    (gq : Gathers tq q other) where
  gathered_ones : set < 4294967296 → other < 4294967296 → ones set ≡ ones other
  gathered_ones h k = carried_ones p q r set other h k (
    λ v t. (let w = (gathers_iff tp p set v gp).0 t in terms_atoms p w.1 w.2.1),
    λ v t. (let w = (gathers_iff tq q other v gq).0 t in terms_atoms q w.1 w.2.1),
    λ v i. (
      λ t. (
          let w = (gathers_iff tp p set v gp).0 t in
          (gathers_iff tq q other (r.to v) gq).1 (
            map_atom (rename r.to) w.0,
            r.into w.0 w.1,
            (subst T (keeps w.0 w.1) w.2.0, (stands_iff p q r w.0 v w.1 i).0 w.2.1),
          )
          ),
      λ t. (
          let w = (gathers_iff tq q other (r.to v) gq).0 t in
          let a = r.onto w.0 w.1 in
          (gathers_iff tp p set v gp).1 (
            a.0,
            a.1,
            (
              subst T (sym (keeps a.0 a.1 ∙ ap tq a.2)) w.2.0,
              (stands_iff p q r a.0 v a.1 i).1 (subst (λ b. var (r.to v) ∈ args b) (sym a.2) w.2.1),
            ),
          )
          ),
    ),
  )

-- ---- the variables beside a variable, and those of a predicate

pub beside_ones : (p q : Query) (v w set other : ℕ) → set < 4294967296 → other < 4294967296 → Gathers (stands_in v) p set
    → Gathers (stands_in w) q other
    → (r : Alike p q) → var v ∈ terms p → r.to v ≡ w → eqb (ones set) (ones other) ≡ true
beside_ones p q v w set other h k gp gq r i e =
    eq-eqb (ones set) (ones other) (gathered_ones p q r (stands_in v) (stands_in w) keeps set other gp gq h k)
  where
    keeps : (a : Atom Term) → a ∈ p.atoms → stands_in v a ≡ stands_in w (map_atom (rename r.to) a)
    keeps a m =
        let b : Atom Term = map_atom (rename r.to) a in
        let iff = stands_iff p q r a v m i in
        same_test (stands_in v a) (stands_in w b) (
          λ t. (stands_mem w b).1 (subst (λ u. var u ∈ args b) e (iff.0 ((stands_mem v a).0 t))),
          λ t. (stands_mem v a).1 (iff.1 (subst (λ u. var u ∈ args b) (sym e) ((stands_mem w b).0 t))),
        )

predicate_kept : (f : Term → Term) (a b : Atom Term) → same_predicate a b ≡ same_predicate a (map_atom f b)
unfolding same_predicate
predicate_kept f (concept A s) (concept B t) = refl
predicate_kept f (concept A s) (role Q t u) = refl
predicate_kept f (role P s s') (concept B t) = refl
predicate_kept f (role P s s') (role Q t u) = refl

pub spread_ones : (p q : Query) (a : Atom Term) (set other : ℕ) → set < 4294967296 → other < 4294967296 → Gathers (same_predicate a) p set
    → Gathers (same_predicate a) q other
    → (ones set ≡ ones other → ⊥) → Alike p q → false ≡ true
spread_ones p q a set other h k gp gq d r =
    absurd (d (gathered_ones p q r (same_predicate a) (same_predicate a) (λ b m. predicate_kept (rename r.to) a b) set other gp gq h k))

-- ---- the loops

-- u stands in an atom that passes the test, at or after index i
abbrev gathered_from : (Atom Term → Bool) → ℕ → ℕ → List ℕ → ℕ → Bool
gathered_from test u n atoms i = some_from (test_at (λ a. test a && stands_in u a) word_atom atoms) i n

-- the set holds the variables of such atoms before index i: with those of the later ones they are all
pub record Gathering (test : Atom Term → Bool) (n : ℕ) (atoms : List ℕ) (set i : ℕ) : Type 0 where
  pub gathering : (u : ℕ) → (holds set u || gathered_from test u n atoms i) ≡ gathered_from test u n atoms 0

module _ (test : Atom Term → Bool) (n : ℕ) (atoms : List ℕ) where
  pub gathering_none : Gathering test n atoms 0 0
  gathering_none = record { gathering = λ u. simp (holds_none u) }

  module _ (set i : ℕ) (before : Gathering test n atoms set i) (b : Bool) (h : i < n) (e : b ≡ test (word_atom (get_or atoms i 0))) where
    next : (u : ℕ) → (holds set u || ((b && stands_in u (word_atom (get_or atoms i 0))) || gathered_from test u n atoms (i + 1)))
        ≡ gathered_from test u n atoms 0
    next u = simp e (simp (some_next (test_at (λ a. test a && stands_in u a) word_atom atoms) i n h) at (before.gathering u))

    pub gathered_this : (r : ℕ) → b ≡ true → AddsVariables (args (word_atom (get_or atoms i 0))) set r → Gathering test n atoms r (i + 1)
    unfolding stands_in
    gathered_this r f put = record {
      gathering = λ u. (
          let here' : Bool = stands_in u (word_atom (get_or atoms i 0)) in
          let later : Bool = gathered_from test u n atoms (i + 1) in
          ap (λ c. c || later) (put.adds u ∙ or_comm here' (holds set u)) ∙ or_assoc (holds set u) here' later
          ∙ ap (λ c. holds set u || ((c && here') || later)) (sym f) ∙ next u
          );
    }

    pub passed_this : b ≡ false → Gathering test n atoms set (i + 1)
    passed_this f = record {
      gathering = λ u.
          ap (λ c. holds set u || ((c && stands_in u (word_atom (get_or atoms i 0))) || gathered_from test u n atoms (i + 1))) (sym f)
          ∙ next u;
    }

pub gathered_all : (test : Atom Term → Bool) (q : QueryWords) (set i : ℕ) → length q.atoms ≡ 8 → q.size ≤ 8
    → Gathering test q.size q.atoms set i → q.size ≤ i → Gathers test (query_of q) set
gathered_all test q set i l g before h = record {
  gathers = λ u.
      some_atom q l g (λ a. test a && stands_in u a) (holds set u)
      (sym (or-false (holds set u))
      ∙ (simp (some_past (test_at (λ a. test a && stands_in u a) word_atom q.atoms) i q.size h) at (before.gathering u)));
}

-- ---- one atom

-- the word of a variable is its number
pub variable_stands : (v a : ℕ) (b : Bool) → v < 32 → b ≡ any (same_term (word_term v)) (args (word_atom a)) → b ≡ stands_in v (word_atom a)
unfolding stands_in
variable_stands v a b h e = rw (variable_word v (omega arith)) at e

pub ruleset laws = (
  rules,
  spellings,
  atom_low,
  variable_stands,
  gathering_none,
  gathered_this,
  passed_this,
  gathered_all,
  beside_ones,
  spread_ones,
)
