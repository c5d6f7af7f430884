-- A rule on an atom: what the code makes of their words is what the definitions say.
use mathlib.Core.Path.{◌≡◌, refl, sym, ap, ◌∙◌, subst}
use Prim.Native.Nat.{ℕ, zero, suc, ◌≤◌, ◌<◌}
use native.Mathlib.Omega.{arith}
use mathlib.Core.Bool.{Bool, true, false, not, ◌&&◌, and-true, and-false}
use mathlib.Core.Option.{Option as Maybe, none, some}
use lib.Dec.{eqb}
use borrow.Author.Rules.{rules}
use borrow.Author.Tests.{eq-eqb, ne_eqb, eqb-true, eqb-false}
use Rattle.std.specs.Prelude.{Option, IfSome}
use Rattle.std.specs.Bool.{then_some}
use Rattle.theory.specs.Lists.{pick, guard, and_then}
use Rattle.theory.specs.Syntax.{Term, var, concept, role, named, has, has_inverse, Rule, concept_inclusion, role_inclusion, Query}
use Rattle.theory.specs.Syntax.{instance, oriented}
use Rattle.theory.specs.Rewriting.{unbound, fresh, bearer, rewrite_atom}
use Rattle.theory.proofs.Laws.Spellings.{exchanged, differ_exchanged}
use Rattle.theory.specs.Laws.Options.{and_both}
use Rattle.words.specs.Records.{rule_kind, left_form, left_name, right_form, right_name, basic_of, rule_in, atom_of}
use Rattle.words.specs.Words.{
  query_of,
  Small,
  word_term,
  word_atom,
  word_kind,
  word_name,
  word_first,
  word_second,
  LowAtom,
  first_of,
  second_of,
}
use Rattle.words.specs.declared.QueryWords.{QueryWords}
use Rattle.words.specs.Laws.LowVariables.{concept_atom, role_atom, variable_word}
use Rattle.words.specs.Limits.{word_object_bound}
use Rattle.query_rule.specs.RuleOnAtom.{term_found, left_of, right_of, names, unnamed_none, made_low}

-- ---- the rule of a word

module _ (f n : ℕ) where
  basic_named : f ≡ 0 → basic_of f n ≡ named n
  unfolding basic_of
  basic_named e = simp (eq-eqb f 0 e)

  basic_has : f ≡ 1 → basic_of f n ≡ has n
  unfolding basic_of
  basic_has e = simp e

  basic_inverse : (f ≡ 0 → ⊥) → (f ≡ 1 → ⊥) → basic_of f n ≡ has_inverse n
  unfolding basic_of
  basic_inverse e d = simp (ne_eqb f 0 e, ne_eqb f 1 d)

module _ (x : ℕ) where
  kind_1 : rule_kind x ≡ 1 → rule_in x ≡ concept_inclusion (left_of x) (right_of x)
  unfolding rule_in
  kind_1 e = simp (eq-eqb (rule_kind x) 1 e)

  kind_2 : (rule_kind x ≡ 1 → ⊥) → rule_in x ≡ role_inclusion (left_name x) (eqb (right_form x) 1) (right_name x)
  unfolding rule_in
  kind_2 e = simp (ne_eqb (rule_kind x) 1 e)

-- ---- the right side's predicate

-- the kind of the right side of a rule of kind k and right form f
abbrev right_kind : ℕ → ℕ → ℕ
right_kind k f = pick (eqb k 1) (pick (eqb f 0) 0 1) 1

-- a rule's kind and right form, as they were read
module _ (x k : ℕ) (kx : k ≡ rule_kind x) where
  pub right_role : (k ≡ 1 → ⊥) → 1 ≡ right_kind (rule_kind x) (right_form x)
  right_role e = sym (simp (sym kx, ne_eqb k 1 e))

  module _ (e : k ≡ 1) (f : ℕ) (fx : f ≡ right_form x) where
    pub right_concept : f ≡ 0 → 0 ≡ right_kind (rule_kind x) (right_form x)
    right_concept d = sym (simp (sym kx, sym fx, eq-eqb k 1 e, eq-eqb f 0 d))

    pub right_description : (f ≡ 0 → ⊥) → 1 ≡ right_kind (rule_kind x) (right_form x)
    right_description d = sym (simp (sym kx, sym fx, eq-eqb k 1 e, ne_eqb f 0 d))

  -- what `describe` asks
  pub kind_is_1 : k ≡ 1 → rule_kind x ≡ 1
  kind_is_1 e = sym kx ∙ e

-- the test on an atom's kind, which is 0 or 1
kind_test : (k : ℕ) → k < 2 → (x y : Bool) → pick x (pick y (eqb k 0) (not (eqb k 0))) (not (eqb k 0)) ≡ eqb (pick x (pick y 0 1) 1) k
kind_test zero h true true = refl
kind_test zero h true false = refl
kind_test zero h false y = refl
kind_test (suc zero) h true true = refl
kind_test (suc zero) h true false = refl
kind_test (suc zero) h false y = refl
kind_test (suc (suc k)) h x y = absurd (omega arith)

-- a term that is found where a test passes
found_where : (b : Bool) (t : ℕ) → term_found (then_some b t) ≡ guard b (word_term t)
found_where true t = refl
found_where false t = refl

pub found_below : (b : Bool) (t n : ℕ) (o : Option ℕ) → t < n → o ≡ then_some b t → IfSome o (λ k. k < n)
found_below b t n o h e =
    subst (λ r. IfSome r (λ k. k < n)) (sym e) (elim b as (λ c. IfSome (then_some c t) (λ k. k < n)) [ true ↦ h | false ↦ tt ])

module _ (x a : ℕ) where
  names_words : names (rule_in x) (word_atom a)
      ≡ (eqb (right_name x) (word_name a) && eqb (right_kind (rule_kind x) (right_form x)) (word_kind a))
  unfolding names rule_in atom_of
  names_words =
      go (eqb (rule_kind x) 1) (eqb (right_form x) 0) (eqb (right_form x) 1) (eqb (word_kind a) 0)
      ∙ ap (λ b. eqb (right_name x) (word_name a) && b) (kind_test (word_kind a) (omega arith) (eqb (rule_kind x) 1) (eqb (right_form x) 0))
    where
      n : ℕ
      n = right_name x

      m : ℕ
      m = word_name a

      t : Term
      t = first_of a

      u : Term
      u = second_of a

      rule : Bool → Bool → Bool → Rule
      rule k f g =
          pick k
          (concept_inclusion (left_of x) (pick f (named n) (pick g (has n) (has_inverse n))))
          (role_inclusion (left_name x) (eqb (right_form x) 1) n)

      go : (k f g b : Bool) → names (rule k f g) (pick b (concept m t) (role m t u)) ≡ (eqb n m && pick k (pick f b (not b)) (not b))
      go true true g true = sym (and-true (eqb n m))
      go true true g false = sym (and-false (eqb n m))
      go true false true true = sym (and-false (eqb n m))
      go true false true false = sym (and-true (eqb n m))
      go true false false true = sym (and-false (eqb n m))
      go true false false false = sym (and-true (eqb n m))
      go false f g true = sym (and-false (eqb n m))
      go false f g false = sym (and-true (eqb n m))

  module _ (n m : ℕ) (nx : n ≡ right_name x) (ma : m ≡ word_name a) where
    pub predicate_decides : (r k : ℕ) → n ≡ m → r ≡ right_kind (rule_kind x) (right_form x) → k ≡ word_kind a
        → eqb r k ≡ names (rule_in x) (word_atom a)
    predicate_decides r k e f g = simp (f, g) (sym (names_words ∙ simp (eq-eqb (right_name x) (word_name a) (sym nx ∙ e ∙ ma))))

    pub number_differs : (n ≡ m → ⊥) → false ≡ names (rule_in x) (word_atom a)
    number_differs e = sym (names_words ∙ simp (ne_eqb (right_name x) (word_name a) (λ z. e (nx ∙ z ∙ sym ma))))

  pub is_named : (b : Bool) → b ≡ names (rule_in x) (word_atom a) → b ≡ true → names (rule_in x) (word_atom a) ≡ true
  is_named b e h = sym e ∙ h

  module _ (h : names (rule_in x) (word_atom a) ≡ true) where
    tests : (eqb (right_name x) (word_name a) ≡ true) × (eqb (right_kind (rule_kind x) (right_form x)) (word_kind a) ≡ true)
    tests = and_both (eqb (right_name x) (word_name a)) (eqb (right_kind (rule_kind x) (right_form x)) (word_kind a)) (sym names_words ∙ h)

    same_kind : right_kind (rule_kind x) (right_form x) ≡ word_kind a
    same_kind = eqb-true (right_kind (rule_kind x) (right_form x)) (word_kind a) tests.1

    -- a concept where the right side is one, and else a role
    on_concept : rule_kind x ≡ 1 → right_form x ≡ 0 → word_atom a ≡ concept (word_name a) (first_of a)
    on_concept k f = concept_atom a (sym same_kind ∙ sym (right_concept x (rule_kind x) refl k (right_form x) refl f))

    on_role : 1 ≡ right_kind (rule_kind x) (right_form x) → word_atom a ≡ role (word_name a) (first_of a) (second_of a)
    on_role e = role_atom a (λ z. let d : 1 ≡ word_kind a = e ∙ same_kind in omega arith)

    -- ---- the bearer

    module _ (q : Query) (k : rule_kind x ≡ 1) (f : ℕ) (fx : f ≡ right_form x) (t : ℕ) (e : t ≡ word_first a) where
      pub bears_concept : f ≡ 0 → some (word_term t) ≡ bearer q (right_of x) (word_atom a)
      unfolding bearer
      bears_concept z = sym (simp (basic_named (right_form x) (right_name x) (sym fx ∙ z), on_concept k (sym fx ∙ z), tests.0, sym e))

      module _ (u : ℕ) (b : Bool) (o : Option ℕ) (d : u ≡ word_second a) (nz : f ≡ 0 → ⊥) where
        described_role : word_atom a ≡ role (word_name a) (first_of a) (second_of a)
        described_role = on_role (right_description x (rule_kind x) refl k f fx nz)

        pub bears_first : f ≡ 1 → b ≡ unbound q (word_term u) → o ≡ then_some b t → term_found o ≡ bearer q (right_of x) (word_atom a)
        unfolding bearer
        bears_first g i r =
            rw (r, found_where b t) (simp i (sym (simp (
              basic_has (right_form x) (right_name x) (sym fx
                  ∙ g),
              described_role,
              tests.0,
              sym e,
              sym d,
            ))))

        pub bears_second : (f ≡ 1 → ⊥) → b ≡ unbound q (word_term t) → o ≡ then_some b u
            → term_found o ≡ bearer q (right_of x) (word_atom a)
        unfolding bearer
        bears_second g i r =
            let n : ℕ = right_name x in
            let inverse : right_of x ≡ has_inverse n = sym (ap (λ y. basic_of y n) fx) ∙ basic_inverse f n nz g in
            rw (r, found_where b u) (simp i (sym (simp (inverse, described_role, tests.0, sym e, sym d))))

-- ---- the left side's instance

module _ (w f n t z : ℕ) where
  pub made_concept : f ≡ 0 → word_atom w ≡ concept n (word_term t) → word_atom w ≡ instance (basic_of f n) (word_term t) (var z)
  made_concept e h = h ∙ sym (simp (basic_named f n e))

  pub made_first : f ≡ 1 → z < word_object_bound → word_atom w ≡ role n (word_term t) (word_term z)
      → word_atom w ≡ instance (basic_of f n) (word_term t) (var z)
  made_first e l h = h ∙ simp (variable_word z l, basic_has f n e)

  pub made_second : (f ≡ 0 → ⊥) → (f ≡ 1 → ⊥) → z < word_object_bound → word_atom w ≡ role n (word_term z) (word_term t)
      → word_atom w ≡ instance (basic_of f n) (word_term t) (var z)
  made_second e d l h = h ∙ simp (variable_word z l, basic_inverse f n e d)

-- the left role of the rule, and its right form, as they were read
module _ (x w f n t u g h : ℕ) (fx : f ≡ right_form x) (nx : n ≡ left_name x) (e : t ≡ g) (d : u ≡ h) where
  pub made_exchanged : f ≡ 1 → word_atom w ≡ role n (word_term u) (word_term t)
      → word_atom w ≡ oriented (eqb (right_form x) 1) (left_name x) (word_term g) (word_term h)
  made_exchanged z m = m ∙ simp (sym fx, sym nx, e, d, eq-eqb f 1 z)

  pub made_kept : (f ≡ 1 → ⊥) → word_atom w ≡ role n (word_term t) (word_term u)
      → word_atom w ≡ oriented (eqb (right_form x) 1) (left_name x) (word_term g) (word_term h)
  made_kept z m = m ∙ simp (sym fx, sym nx, e, d, ne_eqb f 1 z)

-- ---- what the rule makes

module _ (q : QueryWords) (x a : ℕ) where
  -- a rule of kind 1 on an atom of its right side's predicate
  module _ (k : rule_kind x ≡ 1) where
    -- the left description of what was found, if anything was
    made : (o : Maybe Term) → o ≡ bearer (query_of q) (right_of x) (word_atom a)
        → rewrite_atom (query_of q) (rule_in x) (word_atom a)
        ≡ and_then o (λ s. some (instance (left_of x) s (var (fresh (query_of q)))))
    unfolding rewrite_atom
    made o h =
        ap (λ r. rewrite_atom (query_of q) r (word_atom a)) (kind_1 x k)
        ∙ ap (λ o. and_then o (λ s. some (instance (left_of x) s (var (fresh (query_of q)))))) (sym h)

    -- the bearer t, form and number of the left side, as they were read, and the fresh variable
    module _ (w t f n z : ℕ) (h : some (word_term t) ≡ bearer (query_of q) (right_of x) (word_atom a)) (fx : f ≡ left_form x)
        (nx : n ≡ left_name x) (zf : z ≡ fresh (query_of q)) (m : word_atom w ≡ instance (basic_of f n) (word_term t) (var z)) where
      pub described : some (word_atom w) ≡ rewrite_atom (query_of q) (rule_in x) (word_atom a)
      described = sym (made (some (word_term t)) h ∙ simp (sym zf, sym fx, sym nx, sym m))

      pub described_low : Small q → LowAtom a → LowAtom w
      described_low s = made_low q (rule_in x) a w s described

    pub no_bearer : none ≡ bearer (query_of q) (right_of x) (word_atom a) → none ≡ rewrite_atom (query_of q) (rule_in x) (word_atom a)
    no_bearer h = sym (made none h)

  module _ (b : Bool) (h : b ≡ names (rule_in x) (word_atom a)) where
    pub not_named : b ≡ false → none ≡ rewrite_atom (query_of q) (rule_in x) (word_atom a)
    not_named e = unnamed_none (query_of q) (rule_in x) (word_atom a) (sym h ∙ e)

    module _ (w k : ℕ) (e : b ≡ true) (kx : k ≡ rule_kind x) (nk : k ≡ 1 → ⊥)
        (m : word_atom w ≡ oriented (eqb (right_form x) 1) (left_name x) (first_of a) (second_of a)) where
      pub turned : some (word_atom w) ≡ rewrite_atom (query_of q) (rule_in x) (word_atom a)
      unfolding rewrite_atom
      turned =
          sym (simp (kind_2 x (λ z. nk (kx ∙ z)), on_role x a (sym h ∙ e) (right_role x k kx nk), (tests x a (sym h ∙ e)).0, m))

      pub turned_low : Small q → LowAtom a → LowAtom w
      turned_low s = made_low q (rule_in x) a w s turned

-- ---- the same test in another spelling

module _ (m n : ℕ) where
  pub test_exchanged : (b : Bool) → eqb m n ≡ b → eqb n m ≡ b
  test_exchanged true e = eq-eqb n m (sym (eqb-true m n e))
  test_exchanged false e = ne_eqb n m (λ d. eqb-false m n e (sym d))

module _ (n : ℕ) where
  pub below_one : n < 1 → n ≡ 0
  below_one h = omega arith

  pub not_below_one : 1 ≤ n → n ≡ 0 → ⊥
  not_below_one h e = omega arith

pub ruleset spellings = (exchanged, differ_exchanged, test_exchanged, below_one, not_below_one)

pub ruleset predicates = (right_concept, right_description, right_role, kind_is_1, predicate_decides, number_differs, is_named)

pub ruleset descriptions = (
  found_below,
  bears_concept,
  bears_first,
  bears_second,
  made_concept,
  made_first,
  made_second,
  made_exchanged,
  made_kept,
)

pub ruleset results = (described, described_low, no_bearer, not_named, turned, turned_low)

pub ruleset laws = (rules, spellings, predicates, descriptions, results)
