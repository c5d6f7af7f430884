-- Refusals 8 and 9: what the step beside a member yields.
use mathlib.Core.Path.{◌≡◌, refl, sym, ap, ◌∙◌, subst}
use Prim.Native.Nat.{ℕ, zero, suc, ◌+◌, ◌-◌, ◌*◌, ◌≤◌, ◌<◌}
use native.Mathlib.Omega.{arith}
use mathlib.Core.Bool.{Bool, true, false, not, not-not, ◌||◌}
use mathlib.Core.Option.{Option, none, some}
use mathlib.Core.List.{List, [], ◌∷◌, map}
use lib.ListN.{length, get_or, drop}
use lib.Dec.{T}
use borrow.Author.Rules.{rules}
use borrow.Author.Tests.{eq-eqb, ne_eqb, lt-ltb, le-ltb}
use Rattle.theory.specs.Lists.{At, any, is_some, numbers}
use Rattle.theory.specs.Refusals.{first_refusal, number_of}
use Rattle.theory.specs.Syntax.{Rule, Query, Member, UCQ}
use Rattle.theory.specs.Rewriting.{rule_step, merge_step}
use Rattle.theory.specs.Renaming.{alike}
use Rattle.theory.specs.Union.{yield, yields_unlike, any_from, refuses8, refuses9}
use Rattle.theory.specs.Laws.Scans.{some_from, number_scans, some_later, some_found, some_none}
use Rattle.words.specs.Records.{rule_in, step_kind, step_parent, step_atom, step_other, step_of}
use Rattle.words.specs.Words.{query_of, rules_in, union_in}
use Rattle.words.specs.declared.QueryWords.{QueryWords}
use Rattle.words.specs.Rows.{member_in}
use Rattle.words.specs.Laws.Rows.{rows, union_at, union_from, rule_there, no_rule_there, step_there}
use Rattle.std.specs.Prelude.{Option as Made, Some, None, is_some as made}
use Rattle.query_steps.specs.StepResults.{query_found}
use Rattle.theory.specs.Explaining.{step_from}
use Rattle.check_steps.specs.Written.{yields_alike, YieldsAlike, FailsAt}

-- ---- what a step yields

module _ (o : Option Query) where
  -- whether there is none
  pub none_made : (r : Made QueryWords) (b : Bool) → made r ≡ not b → query_found r ≡ o → b ≡ not (is_some o)
  unfolding is_some
  none_made None b e f = sym (not-not b) ∙ ap not (sym e) ∙ ap (λ x. not (is_some x)) f
  none_made (Some q) b e f = sym (not-not b) ∙ ap not (sym e) ∙ ap (λ x. not (is_some x)) f

  pub nothing_alike : (p : Query) → none ≡ o → false ≡ yields_alike o p
  nothing_alike p e = ap (λ x. yields_alike x p) e

  pub nothing_made : none ≡ o → FailsAt o 8
  nothing_made e = record { nothing = sym e; eight = refl }

  pub compared : (r : Made QueryWords) (q m : QueryWords) (b : Bool) (p : Query) → r ≡ Some q → query_found r ≡ o
      → b ≡ alike (query_of q) (query_of m) → query_of m ≡ p → YieldsAlike o p b
  unfolding is_some
  compared r q m b p s e g h =
      let found : some (query_of q) ≡ o = sym (ap query_found s) ∙ e in
      record {
        made = sym (ap is_some found);
        same_is = g ∙ ap (alike (query_of q)) h ∙ ap (λ x. yields_alike x p) found;
      }

-- ---- a rule by its number

module _ (rules : List ℕ) (count : ℕ) (within : count ≤ length rules) (r : Made QueryWords) (q : QueryWords) (i k : ℕ) where
  pub rule_steps : k < count → ((rs : List Rule) (l : ℕ) → At rs l (rule_in (get_or rules k 0)) → query_found r
      ≡ rule_step rs (query_of q) i l)
      → query_found r ≡ rule_step (rules_in rules count) (query_of q) i k
  rule_steps h f = f (rules_in rules count) k (rule_there rules count within k h)

  pub no_rule : count ≤ k → none ≡ rule_step (rules_in rules count) (query_of q) i k
  unfolding rule_step
  no_rule h = sym (simp (no_rule_there rules count within k h))

-- ---- a step by its kind

module _ (rules : List Rule) (q : Query) (step kind atom other : ℕ) (o : Option Query) (k : kind ≡ step_kind step) where
  pub by_rule_lem : kind ≡ 1 → atom ≡ step_atom step → other ≡ step_other step → o ≡ rule_step rules q atom other
      → o ≡ step_from rules q (step_of step)
  unfolding step_of
  by_rule_lem h a b e = e ∙ sym (simp (eq-eqb (step_kind step) 1 (sym k ∙ h), a, b))

  pub by_merge_lem : (kind ≡ 1 → ⊥) → kind ≡ 2 → atom ≡ step_atom step → other ≡ step_other step → o ≡ merge_step q atom other
      → o ≡ step_from rules q (step_of step)
  unfolding step_of
  by_merge_lem g h a b e = e ∙ sym (simp (ne_eqb (step_kind step) 1 (λ z. g (k ∙ z)), eq-eqb (step_kind step) 2 (sym k ∙ h), a, b))

  pub by_nothing : (kind ≡ 1 → ⊥) → (kind ≡ 2 → ⊥) → o ≡ none → o ≡ step_from rules q (step_of step)
  unfolding step_of
  by_nothing g h e = e ∙ sym (simp (ne_eqb (step_kind step) 1 (λ z. g (k ∙ z)), ne_eqb (step_kind step) 2 (λ z. h (k ∙ z))))

-- ---- the step beside a member

-- what a step yields whose parent is an earlier member, and one whose parent is not
yields_from : (rules : List Rule) (union : UCQ) (k w : ℕ) (p : Member) → step_parent w < k → At union (step_parent w) p
    → yield rules union k (step_of w) ≡ step_from rules p.query (step_of w)
unfolding yield step_of
yields_from rules union k w p h e = simp (lt-ltb (step_parent w) k h, e)

yields_nothing : (rules : List Rule) (union : UCQ) (k w : ℕ) → k ≤ step_parent w → yield rules union k (step_of w) ≡ none
unfolding yield step_of
yields_nothing rules union k w h = simp (le-ltb (step_parent w) k h)

module _ (rules : List Rule) (table : List ℕ) (n k parent : ℕ) (o : Option Query) (p : parent ≡ step_parent (get_or table (16 * k) 0)) where
  pub from_parent : (q : QueryWords) → k < n → parent < k → query_of q ≡ (member_in table parent).query
      → o ≡ step_from rules (query_of q) (step_of (get_or table (16 * k) 0)) → o ≡ yield rules (union_in table n) k (member_in table k).step
  from_parent q g h e f =
      let there : At (union_in table n) (step_parent (get_or table (16 * k) 0)) (member_in table parent) =
      subst (λ x. At (union_in table n) x (member_in table parent)) p (union_at table n parent (omega arith)) in
      f ∙ ap (λ r. step_from rules r (step_of (get_or table (16 * k) 0))) e
      ∙ sym (ap (yield rules (union_in table n) k) (step_there table k)
      ∙ yields_from rules (union_in table n) k (get_or table (16 * k) 0) (member_in table parent) (omega arith) there)

  pub no_parent : k ≤ parent → o ≡ none → o ≡ yield rules (union_in table n) k (member_in table k).step
  no_parent h e =
      e ∙ sym (ap (yield rules (union_in table n) k) (step_there table k)
      ∙ yields_nothing rules (union_in table n) k (get_or table (16 * k) 0) (omega arith))

-- ---- every later member

any_later : (test : ℕ → Member → Bool) (g : ℕ → Member) (k n : ℕ) → any_from test k (map g (numbers k n))
    ≡ any (λ j. test j (g j)) (numbers k n)
unfolding any_from any numbers
any_later test g k zero = refl
any_later test g k (suc n) = ap (λ b. test k (g k) || b) (any_later test g (suc k) n)

later_decide : (test : ℕ → Member → Bool) (table : List ℕ) (n : ℕ) → any_from test 1 (drop 1 (union_in table n))
    ≡ some_from (λ k. test k (member_in table k)) 1 n
later_decide test table n = ap (any_from test 1) (union_from table n 1) ∙ any_later test (member_in table) 1 (n - 1)

module _ (rules : List Rule) (table : List ℕ) (n : ℕ) where
  -- the step beside member k yields nothing; yields another question than the member's
  abbrev pub fails_at : ℕ → Bool
  fails_at k = not (is_some (yield rules (union_in table n) k (member_in table k).step))

  abbrev pub unlike_at : ℕ → Bool
  unlike_at k = yields_unlike (yield rules (union_in table n) k (member_in table k).step) (member_in table k).query

  pub is_eight : (b : Bool) (q : Query) → b ≡ some_from fails_at 1 n → b ≡ refuses8 rules q (union_in table n)
  unfolding refuses8
  is_eight b q e = e ∙ sym (later_decide (λ k m. not (is_some (yield rules (union_in table n) k m.step))) table n)

  is_nine : (b : Bool) (q : Query) → b ≡ some_from unlike_at 1 n → b ≡ refuses9 rules q (union_in table n)
  unfolding refuses9
  is_nine b q e = e ∙ sym (later_decide (λ k m. yields_unlike (yield rules (union_in table n) k m.step) m.query) table n)

-- ---- the first of 8 and 9

-- 8 by its test, and 9 by another
abbrev pub eight_then : List Rule → Query → UCQ → Bool → List (ℕ × Bool)
eight_then rules q union nine = (8, refuses8 rules q union) ∷ (9, nine) ∷ []

module _ (rules : List Rule) (union : UCQ) (b : Bool) (eight : (p : Query) → b ≡ refuses8 rules p union) (q : Query) where
  pub it_is_eight : b ≡ true → 8 ≡ number_of (first_refusal (eight_then rules q union true))
  unfolding first_refusal number_of
  it_is_eight t = simp (sym (eight q), t)

  pub it_is_nine : b ≡ false → 9 ≡ number_of (first_refusal (eight_then rules q union true))
  unfolding first_refusal number_of
  it_is_nine f = simp (sym (eight q), f)

-- the steps before member k are right: those that are left decide
pub record RightBefore (rules : List Rule) (table : List ℕ) (n k : ℕ) : Type 0 where
  pub fails : some_from (fails_at rules table n) k n ≡ some_from (fails_at rules table n) 1 n
  pub unlike : some_from (unlike_at rules table n) k n ≡ some_from (unlike_at rules table n) 1 n

pub none_before : (rules : List Rule) (table : List ℕ) (n : ℕ) → RightBefore rules table n 1
none_before rules table n = record { fails = refl; unlike = refl }

-- what yields a question alike to the member's fails neither test
right_passes : (o : Option Query) (q : Query) → true ≡ yields_alike o q → (not (is_some o) ≡ false) × (yields_unlike o q ≡ false)
unfolding is_some yields_unlike
right_passes none q e = absurd (subst T e tt)
right_passes (some p) q e = (refl, ap not (sym e))

-- a question that is not alike to the member's
unlike_where : (o : Option Query) (q : Query) → is_some o ≡ true → yields_alike o q ≡ false → yields_unlike o q ≡ true
unfolding is_some yields_unlike
unlike_where none q e f = absurd (subst T (sym e) tt)
unlike_where (some p) q e f = ap not f

module _ (rules : List Rule) (table : List ℕ) (n k : ℕ) (before : RightBefore rules table n k) where
  pub right_too : (b : Bool) → k < n
      → b ≡ yields_alike (yield rules (union_in table n) k (member_in table k).step) (member_in table k).query
      → b ≡ true → RightBefore rules table n (k + 1)
  right_too b h e t =
      let passes =
      right_passes (yield rules (union_in table n) k (member_in table k).step) (member_in table k).query (sym t ∙ e) in
      record {
        fails = some_later (fails_at rules table n) k n (some_from (fails_at rules table n) 1 n) before.fails false h (sym passes.0) refl;
        unlike =
            some_later (unlike_at rules table n) k n (some_from (unlike_at rules table n) 1 n) before.unlike false h (sym passes.1) refl;
      }

module _ (rules : List Rule) (table : List ℕ) (n k : ℕ) (q : Query) (before : RightBefore rules table n k) where
  abbrev nine_here : Bool
  nine_here = refuses9 rules q (union_in table n)

  -- a step that yields nothing is refusal 8
  eight_met : k < n → is_some (yield rules (union_in table n) k (member_in table k).step) ≡ false
      → true ≡ refuses8 rules q (union_in table n)
  eight_met h none_there =
      is_eight rules table n true q
      (some_found (fails_at rules table n) k n (some_from (fails_at rules table n) 1 n) before.fails true h (sym (ap not none_there)) refl)

  pub one_fails : (r : ℕ) → k < n → FailsAt (yield rules (union_in table n) k (member_in table k).step) r
      → r ≡ number_of (first_refusal (eight_then rules q (union_in table n) nine_here))
  unfolding is_some first_refusal number_of
  one_fails r h f = f.eight ∙ simp (sym (eight_met h (ap is_some f.nothing)))

  pub one_unlike : (r : ℕ) (b : Bool) → k < n
      → YieldsAlike (yield rules (union_in table n) k (member_in table k).step) (member_in table k).query b → b ≡ false
      → ((p : Query) → r ≡ number_of (first_refusal (eight_then rules p (union_in table n) true)))
      → r ≡ number_of (first_refusal (eight_then rules q (union_in table n) nine_here))
  one_unlike r b h e t f =
      let found : true ≡ nine_here =
      is_nine rules table n true q
      (some_found (unlike_at rules table n) k n (some_from (unlike_at rules table n) 1 n) before.unlike true h
      (sym (unlike_where (yield rules (union_in table n) k (member_in table k).step) (member_in table k).query e.made (sym e.same_is ∙ t)))
      refl) in
      f q ∙ ap (λ c. number_of (first_refusal (eight_then rules q (union_in table n) c))) found

  -- the two in one: the step yields nothing, or a question that is not alike to the member's
  pub one_wrong : (r : ℕ) (b : Bool) → k < n
      → b ≡ yields_alike (yield rules (union_in table n) k (member_in table k).step) (member_in table k).query → b ≡ false
      → ((p : Query) → r ≡ number_of (first_refusal (eight_then rules p (union_in table n) true)))
      → r ≡ number_of (first_refusal (eight_then rules q (union_in table n) nine_here))
  unfolding first_refusal number_of
  one_wrong r b h e t f = by_result (is_some (yield rules (union_in table n) k (member_in table k).step)) refl
    where
      by_result : (there : Bool) → is_some (yield rules (union_in table n) k (member_in table k).step) ≡ there
          → r ≡ number_of (first_refusal (eight_then rules q (union_in table n) nine_here))
      by_result false d = f q ∙ simp (sym (eight_met h d))
      by_result true d = one_unlike r b h (record { made = d; same_is = e }) t f

  pub neither : n ≤ k → 0 ≡ number_of (first_refusal (eight_then rules q (union_in table n) nine_here))
  unfolding first_refusal number_of
  neither h =
      let eight : false ≡ refuses8 rules q (union_in table n) =
      is_eight rules table n false q (some_none (fails_at rules table n) k n (some_from (fails_at rules table n) 1 n) before.fails h) in
      let nine : false ≡ nine_here =
      is_nine rules table n false q (some_none (unlike_at rules table n) k n (some_from (unlike_at rules table n) 1 n) before.unlike h) in
      simp (sym eight, sym nine)

pub ruleset laws = (
  rules,
  number_scans,
  rows,
  none_made,
  nothing_alike,
  nothing_made,
  compared,
  rule_steps,
  no_rule,
  by_rule_lem,
  by_merge_lem,
  by_nothing,
  from_parent,
  no_parent,
  is_eight,
  it_is_eight,
  it_is_nine,
  none_before,
  right_too,
  one_fails,
  one_unlike,
  one_wrong,
  neither,
)
