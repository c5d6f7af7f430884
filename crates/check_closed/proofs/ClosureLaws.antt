-- Refusal 11: the steps from a member, one by one.
use mathlib.Core.Path.{◌≡◌, refl, sym, ap, ap₂, ◌∙◌}
use mathlib.Core.Logic.{inl, inr}
use Prim.Native.Nat.{ℕ, ◌+◌, ◌-◌, ◌≤◌, ◌<◌}
use native.Mathlib.Omega.{arith}
use mathlib.Core.Bool.{Bool, true, false, not, ◌||◌, or-false}
use mathlib.Core.Option.{Option, none}
use mathlib.Core.List.{List, [], ◌∷◌, flat_map}
use lib.ListN.{length, get_or}
use lib.Dec.{eqb}
use borrow.Author.Rules.{rules}
use borrow.Author.Tests.{le-ltb, eq-eqb, ne_eqb}
use Rattle.theory.specs.Lists.{Unrepeated, At, any, to_list, numbers}
use Rattle.theory.specs.Syntax.{Rule, Query, UCQ}
use Rattle.theory.specs.Rewriting.{rule_step, merge_step, steps}
use Rattle.theory.specs.Renaming.{alike}
use Rattle.theory.specs.Union.{refuses11}
use Rattle.theory.proofs.Laws.StepShape.{step_distinct}
use Rattle.theory.specs.Laws.Lists.{any_append, any_map, any_flat_map}
use Rattle.theory.specs.Laws.Scans.{some_from, number_scans, skip, some_begins, some_later, some_found, some_none}
use Rattle.theory.specs.Laws.Scans.{records_length}
use Rattle.words.specs.Records.{rule_in}
use Rattle.words.specs.Words.{query_of, Small, rules_in, union_in, word_atom}
use Rattle.words.specs.declared.QueryWords.{QueryWords}
use Rattle.words.specs.Rows.{member_in}
use Rattle.words.specs.Laws.Rows.{rows, union_from, rules_length, rule_there}
use Rattle.query_rule.specs.RuleOnAtom.{names, unnamed_none}
use Rattle.std.specs.Prelude.{Option as Made, Some, None, IfSome}
use Rattle.query_steps.specs.StepResults.{query_found}
use Rattle.query_steps.proofs.StepLaws.{atom_at_lem}
use Rattle.check_steps.proofs.WrittenLaws.{rule_steps}
use Rattle.check_closed.specs.Outside.{outside, leads_outside, rule_out, rules_out, merge_out, merges_out}

-- ---- what a step leads to

module _ (r : Made QueryWords) (union : UCQ) where
  pub leads_out : (q : QueryWords) (b : Bool) → r ≡ Some q → b ≡ any (λ m. alike (query_of q) m.query) union
      → not b ≡ leads_outside union (query_found r)
  unfolding any to_list
  leads_out q b e f =
      ap not f ∙ sym (or-false (outside union (query_of q))) ∙ ap (λ o. leads_outside union (query_found o)) (sym e)

  pub leads_nowhere : r ≡ None → false ≡ leads_outside union (query_found r)
  unfolding any to_list
  leads_nowhere e = ap (λ o. leads_outside union (query_found o)) (sym e)

-- ---- rules

-- what a step makes has each atom once
pub rule_sound : (r : Made QueryWords) (q : QueryWords) (i x : ℕ)
    → ((rs : List Rule) (l : ℕ) → At rs l (rule_in x) → query_found r ≡ rule_step rs (query_of q) i l) → IfSome r Small
    → IfSome r (λ p. Small p × Unrepeated (query_of p).atoms)
rule_sound None q i x f s = s
rule_sound (Some p) q i x f s =
    (s, step_distinct (rule_in x ∷ []) (query_of q) (query_of p) (inl (i, 0, sym (f (rule_in x ∷ []) 0 refl))))

module _ (rules : List ℕ) (count : ℕ) (r : Made QueryWords) (q : QueryWords) (i k : ℕ) (within : count ≤ length rules) (h : k < count)
    (f : (rs : List Rule) (l : ℕ) → At rs l (rule_in (get_or rules k 0)) → query_found r ≡ rule_step rs (query_of q) i l) where
  pub rule_leads : (b : Bool) (union : UCQ) → b ≡ leads_outside union (query_found r)
      → b ≡ rule_out union (query_of q) (rules_in rules count) i k
  rule_leads b union e = e ∙ ap (leads_outside union) (rule_steps rules count within r q i k h f)

-- a rule for another predicate gives no step
pub rule_passed : (rules : List ℕ) (count : ℕ) (q : QueryWords) (i k : ℕ) (union : UCQ) (b : Bool) → count ≤ length rules → k < count
    → length q.atoms ≡ 8 → Small q → i < q.size → b ≡ names (rule_in (get_or rules k 0)) (word_atom (get_or q.atoms i 0)) → b ≡ false
    → false ≡ rule_out union (query_of q) (rules_in rules count) i k
unfolding rule_step any to_list
rule_passed rules count q i k union b within h l s g e f =
    let none_made = unnamed_none (query_of q) (rule_in (get_or rules k 0)) (word_atom (get_or q.atoms i 0)) (sym e ∙ f) in
    let no_step : rule_step (rules_in rules count) (query_of q) i k ≡ none =
    simp (rule_there rules count within k h, atom_at_lem q i l s g, ← none_made) in
    sym (ap (leads_outside union) no_step)

-- ---- a rule that stands twice

module _ (rules : List ℕ) (k : ℕ) where
  -- the word at j is that at k
  abbrev pub same_word : ℕ → Bool
  same_word j = eqb (get_or rules j 0) (get_or rules k 0)

  module _ (j : ℕ) (r : Bool) (left : some_from same_word j k ≡ r) (h : j < k) where
    pub word_found : get_or rules j 0 ≡ get_or rules k 0 → true ≡ r
    word_found e = some_found same_word j k r left true h (sym (eq-eqb (get_or rules j 0) (get_or rules k 0) e)) refl

    pub word_later : (get_or rules j 0 ≡ get_or rules k 0 → ⊥) → some_from same_word (j + 1) k ≡ r
    word_later e = some_later same_word j k r left false h (sym (ne_eqb (get_or rules j 0) (get_or rules k 0) e)) refl

-- ---- merges

module _ (union : UCQ) (q : Query) where
  -- no atom is merged with itself or an earlier one
  no_merge : (i j : ℕ) → j ≤ i → merge_out union q i j ≡ false
  unfolding merge_step any to_list
  no_merge i j h = simp (le-ltb i j h)

  pub merges_begin : (i size : ℕ) → i < size → some_from (merge_out union q i) (i + 1) size ≡ any (merge_out union q i) (numbers 0 size)
  merges_begin i size h =
      sym (skip (merge_out union q i) size (i + 1) (i + 1) 0 (omega arith) (omega arith) (λ j g l. no_merge i j (omega arith)))
      ∙ some_begins (merge_out union q i) size

pub merge_sound : (r : Made QueryWords) (q : QueryWords) (i j : ℕ) → query_found r ≡ merge_step (query_of q) i j → IfSome r Small
    → IfSome r (λ p. Small p × Unrepeated (query_of p).atoms)
merge_sound None q i j e s = s
merge_sound (Some p) q i j e s = (s, step_distinct [] (query_of q) (query_of p) (inr (i, j, sym e)))

pub merge_leads : (r : Made QueryWords) (q : QueryWords) (i j : ℕ) (b : Bool) (union : UCQ) → query_found r ≡ merge_step (query_of q) i j
    → b ≡ leads_outside union (query_found r) → b ≡ merge_out union (query_of q) i j
merge_leads r q i j b union e f = f ∙ ap (leads_outside union) e

-- ---- all steps from a member

pub any_agree : (p q : ℕ → Bool) (xs : List ℕ) → ((x : ℕ) → p x ≡ q x) → any p xs ≡ any q xs
unfolding any
any_agree p q [] h = refl
any_agree p q (x ∷ xs) h = ap₂ ◌||◌ (h x) (any_agree p q xs h)

module _ (out : Query → Bool) (f : ℕ → ℕ → Option Query) where
  each_pair : (is ks : List ℕ) → any out (flat_map (λ i. flat_map (λ k. to_list (f i k)) ks) is)
      ≡ any (λ i. any (λ k. any out (to_list (f i k))) ks) is
  each_pair is ks =
      any_flat_map out (λ i. flat_map (λ k. to_list (f i k)) ks) is
      ∙ any_agree (λ i. any out (flat_map (λ k. to_list (f i k)) ks)) (λ i. any (λ k. any out (to_list (f i k))) ks) is
      (λ i. any_flat_map out (λ k. to_list (f i k)) ks)

pub each_step : (union : UCQ) (rules : List Rule) (q : Query) → any (outside union) (steps rules q)
    ≡ (any (rules_out union q rules (length rules)) (numbers 0 (length q.atoms)) || any (merges_out union q (length q.atoms))
    (numbers 0 (length q.atoms)))
unfolding steps
each_step union rules q =
    any_append (outside union) (flat_map (λ i. flat_map (λ k. to_list (rule_step rules q i k)) (numbers 0 (length rules))) is)
    (flat_map (λ i. flat_map (λ j. to_list (merge_step q i j)) is) is)
    ∙ ap₂ ◌||◌ (each_pair (outside union) (rule_step rules q) is (numbers 0 (length rules)))
    (each_pair (outside union) (merge_step q) is is)
  where
    is : List ℕ
    is = numbers 0 (length q.atoms)

module _ (rules : List ℕ) (count : ℕ) (table : List ℕ) (n j : ℕ) (q : QueryWords) (within : count ≤ length rules) (s : Small q)
    (eight : length q.atoms ≡ 8) (e : query_of q ≡ (member_in table j).query) (b : Bool)
    (f : b ≡ any (rules_out (union_in table n) (query_of q) (rules_in rules count) count) (numbers 0 q.size)) where
  size_is : length (query_of q).atoms ≡ q.size
  unfolding query_of
  size_is = records_length word_atom q.atoms q.size (let h = s.few_atoms in omega arith)

  either : any (outside (union_in table n)) (steps (rules_in rules count) (member_in table j).query)
      ≡ (b || any (merges_out (union_in table n) (query_of q) q.size) (numbers 0 q.size))
  either =
      ap (λ p. any (outside (union_in table n)) (steps (rules_in rules count) p)) (sym e)
      ∙ each_step (union_in table n) (rules_in rules count) (query_of q)
      ∙ simp (rules_length rules count within, size_is, sym f)

  pub atoms_lead : b ≡ true → true ≡ any (outside (union_in table n)) (steps (rules_in rules count) (member_in table j).query)
  atoms_lead g = sym (either ∙ simp g)

  pub pairs_lead : (d : Bool) → b ≡ false → d ≡ any (merges_out (union_in table n) (query_of q) q.size) (numbers 0 q.size)
      → d ≡ any (outside (union_in table n)) (steps (rules_in rules count) (member_in table j).query)
  pairs_lead d g i = i ∙ sym (either ∙ simp g)

-- ---- all members

module _ (rules : List Rule) (table : List ℕ) (n : ℕ) where
  -- some step from member j leads outside
  abbrev pub member_out : ℕ → Bool
  member_out j = any (outside (union_in table n)) (steps rules (member_in table j).query)

  is_eleven : (b : Bool) (q : Query) → b ≡ some_from member_out 0 n → b ≡ refuses11 rules q (union_in table n)
  unfolding refuses11
  is_eleven b q e =
      e ∙ sym (ap (any (λ m. any (outside (union_in table n)) (steps rules m.query))) (union_from table n 0)
      ∙ any_map (λ m. any (outside (union_in table n)) (steps rules m.query)) (member_in table) (numbers 0 (n - 0)))

  module _ (m : ℕ) (q : Query) (left : some_from member_out m n ≡ some_from member_out 0 n) where
    pub member_out_lem : (b : Bool) → m < n → b ≡ member_out m → b ≡ true → true ≡ refuses11 rules q (union_in table n)
    member_out_lem b h e t = is_eleven true q (some_found member_out m n (some_from member_out 0 n) left b h e t)

    pub members_in : n ≤ m → false ≡ refuses11 rules q (union_in table n)
    members_in h = is_eleven false q (some_none member_out m n (some_from member_out 0 n) left h)

pub ruleset laws = (
  rules,
  number_scans,
  rows,
  leads_out,
  leads_nowhere,
  rule_leads,
  rule_passed,
  word_found,
  word_later,
  merges_begin,
  merge_sound,
  merge_leads,
  atoms_lead,
  pairs_lead,
  member_out_lem,
  members_in,
)
