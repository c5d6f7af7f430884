-- Steps in words: what the code computes is what the definitions say, and what is known of a query is known of the query after a step.
use mathlib.Core.Path.{◌≡◌, refl, sym, ap, ap₂, ◌∙◌, subst}
use mathlib.Core.Logic.{◌⊎◌, inl, inr, ◌↔◌}
use Prim.Native.Nat.{ℕ, zero, suc, ◌+◌, ◌≤◌, ◌<◌}
use native.Mathlib.Numerals.{add-one}
use native.Mathlib.Decide.{dec_lt}
use native.Mathlib.Omega.{arith}
use mathlib.Core.Bool.{Bool, true, false, ◌||◌, or-true}
use mathlib.Core.Option.{none, some}
use mathlib.Core.List.Memᴰ
use mathlib.Core.List.{List, [], ◌∷◌, ◌++◌, map, map-append, append-nil}
use lib.Dec.{T}
use lib.ListN.{length, get_or, get_elem?, take, set}
use lib.Seq.{take-suc-set, take-set-lt}
use borrow.Author.Rules.{rules}
use borrow.Author.Tests.{lt-ltb, le-ltb}
use Rattle.std.specs.Bool.{MatchBool}
use Rattle.std.specs.List.{HoldsAt, AllWithin}
use Rattle.theory.specs.Lists.{◌∈◌, At, pick, any, without, once}
use Rattle.theory.specs.Syntax.{Term, var, const, Rule, Query, args, terms, map_atom, subst_term, same_atom}
use Rattle.theory.specs.Rewriting.{rewrite_atom, unify, keep_once, substitute, change_atom, rule_step, merge_step}
use Rattle.theory.specs.Laws.Options.{same_test}
use Rattle.theory.proofs.Laws.Spellings.{same_comm, spellings}
use Rattle.theory.specs.Laws.Scans.{first_more, record_at_lem, record_past}
use Rattle.theory.specs.Laws.Lists.{any_same, once_mem, mem_once}
use Rattle.theory.proofs.Laws.Syntax.{same_atom_iff, terms_atoms, terms_answers, terms_cases, terms_from, keep_once_mem}
use Rattle.words.specs.Records.{rule_in}
use Rattle.words.specs.Words.{TermWords, query_of, Small, word_term, word_atom, LowAtom}
use Rattle.words.specs.Limits.{word_term_bound}
use Rattle.words.specs.Laws.Scans.{query_scans}
use Rattle.words.specs.declared.QueryWords.{QueryWords}
use Rattle.words.specs.Laws.LowVariables.{answer_low, atom_low}
use Rattle.query_substitution.specs.Substitutions.{SmallTerm, SmallTargets, subst_of}
use Rattle.query_substitution.specs.declared.Substitution.{Substitution}
use Rattle.query_substitution.proofs.SubstitutionLaws.{place, each_stored, below32, each_below}
use Rattle.query_steps.specs.StepResults.{once_each, with_atom}

-- ---- on lists

-- the first i + 1 words, the last of them just stored
stored_last : {X : Type 0} (f : ℕ → X) (words : List ℕ) (i v : ℕ) → i < length words
    → map f (take (i + 1) (set words i v)) ≡ map f (take i words) ++ (f v ∷ [])
stored_last f words i v h =
    ap (λ k. map f (take k (set words i v))) (add-one i) ∙ ap (map f) (take-suc-set words i v h) ∙ map-append f (take i words) (v ∷ [])

-- an element changed at one index
map_set : {X Y : Type 0} (f : X → Y) (xs : List X) (i : ℕ) (x : X) → map f (set xs i x) ≡ set (map f xs) i (f x)
map_set f [] i x = refl
map_set f (y ∷ ys) zero x = refl
map_set f (y ∷ ys) (suc i) x = ap (λ l. f y ∷ l) (map_set f ys i x)

mem_set : {X : Type 0} (xs : List X) (i : ℕ) (b : X) {x : X} → x ∈ set xs i b → (x ≡ b) ⊎ (x ∈ xs)
mem_set [] i b m = inr m
mem_set (y ∷ ys) zero b (Memᴰ.head e) = inl e
mem_set (y ∷ ys) zero b (Memᴰ.tail m) = inr (Memᴰ.tail m)
mem_set (y ∷ ys) (suc i) b (Memᴰ.head e) = inr (Memᴰ.head e)
mem_set (y ∷ ys) (suc i) b (Memᴰ.tail m) = elim (mem_set ys i b m) [ inl e ↦ inl e | inr n ↦ inr (Memᴰ.tail n) ]

-- what a search by an iterator finds
any_at : {X : Type 0} (p : X → Bool) (f : ℕ → X) (xs : List ℕ) (k : ℕ) → k < length xs → ((d : ℕ) → p (f (get_or xs k d)) ≡ true)
    → any p (map f xs) ≡ true
unfolding any
any_at p f [] k h e = absurd (omega arith)
any_at p f (x ∷ xs) zero h e = simp (e 0)
any_at p f (x ∷ xs) (suc k) h e = simp (any_at p f xs k (omega arith) e, or-true)

any_nowhere : {X : Type 0} (p : X → Bool) (f : ℕ → X) (xs : List ℕ)
    → ((k d : ℕ) → 0 ≤ k → k < length xs → p (f (get_or xs k d)) ≡ false) → any p (map f xs) ≡ false
unfolding any
any_nowhere p f [] e = refl
any_nowhere p f (x ∷ xs) e =
    simp (e 0 0 (omega arith) (omega arith)) (any_nowhere p f xs (λ k d g h. e (suc k) d (omega arith) (omega arith)))

pub any_found : {X : Type 0} (p : X → Bool) (f : ℕ → X) (xs : List ℕ) (r : Bool)
    → MatchBool r ((k : ℕ) × (k < length xs) × HoldsAt (λ x. p (f x) ≡ true) xs k) (AllWithin (λ x. p (f x) ≡ false) xs 0 (length xs))
    → r ≡ any p (map f xs)
any_found p f xs true found = sym (any_at p f xs found.0 found.1 found.2)
any_found p f xs false nowhere = sym (any_nowhere p f xs nowhere)

-- elements kept once, with one more at the end
without_append : {X : Type 0} (p : X → Bool) (xs ys : List X) → without p (xs ++ ys) ≡ without p xs ++ without p ys
unfolding without
without_append p [] ys = refl
without_append p (x ∷ xs) ys =
    ap (λ l. pick (p x) l (x ∷ l)) (without_append p xs ys)
    ∙ (elim (p x) as (λ b. pick b (without p xs ++ without p ys) (x ∷ (without p xs ++ without p ys))
    ≡ pick b (without p xs) (x ∷ without p xs) ++ without p ys)
    [ true ↦ refl | false ↦ refl ])

module _ {X : Type 0} (same : X → X → Bool) (same-iff : (x y : X) → T (same x y) ↔ (x ≡ y)) where
  -- the element y after the list xs goes where it stands in xs
  once_snoc : (xs : List X) (y : X) → once same (xs ++ (y ∷ [])) ≡ pick (any (same y) xs) (once same xs) (once same xs ++ (y ∷ []))
  unfolding once any without
  once_snoc [] y = refl
  once_snoc (x ∷ xs) y = first (any (same y) xs) (once_snoc xs y)
    where
      last : (b : Bool) → same x y ≡ b
          → x ∷ (without (same x) (once same xs) ++ without (same x) (y ∷ []))
          ≡ pick (same y x || false) (x ∷ without (same x) (once same xs)) (x ∷ (without (same x) (once same xs) ++ (y ∷ [])))
      last true e = simp (e, sym (same_comm same same-iff x y) ∙ e, append-nil)
      last false e = simp (e, sym (same_comm same same-iff x y) ∙ e)

      first : (b : Bool) → once same (xs ++ (y ∷ [])) ≡ pick b (once same xs) (once same xs ++ (y ∷ []))
          → x ∷ without (same x) (once same (xs ++ (y ∷ [])))
          ≡ pick (same y x || b) (x ∷ without (same x) (once same xs)) (x ∷ (without (same x) (once same xs) ++ (y ∷ [])))
      first true e = ap (λ l. x ∷ without (same x) l) e ∙ sym (simp or-true)
      first false e =
          ap (λ l. x ∷ without (same x) l) e ∙ ap (λ l. x ∷ l) (without_append (same x) (once same xs) (y ∷ [])) ∙ last (same x y) refl

  -- which is where it stands among those that were kept
  once_more : (xs : List X) (y : X)
      → once same (xs ++ (y ∷ [])) ≡ pick (any (same y) (once same xs)) (once same xs) (once same xs ++ (y ∷ []))
  once_more xs y =
      once_snoc xs y
      ∙ ap (λ b. pick b (once same xs) (once same xs ++ (y ∷ [])))
      (same_test (any (same y) xs) (any (same y) (once same xs)) (
        λ t. (any_same same same-iff y (once same xs)).1 (mem_once same same-iff ((any_same same same-iff y xs).0 t)),
        λ t. (any_same same same-iff y xs).1 (once_mem same same-iff xs ((any_same same same-iff y (once same xs)).0 t)),
      ))

-- ---- equal atoms kept once

module _ (q : QueryWords) (a : ℕ) (b : Bool) (e : b ≡ any (same_atom (word_atom a)) (query_of q).atoms) where
  pub atom_stands : b ≡ true → query_of q ≡ with_atom (query_of q) (word_atom a)
  unfolding with_atom
  atom_stands f = sym (simp (sym e ∙ f))

  pub atom_appended : length q.atoms ≡ 8 → q.size < 8 → b ≡ false
      → query_of (record { terms = q.terms; answers = q.answers; size = q.size + 1; atoms = set q.atoms q.size a })
      ≡ with_atom (query_of q) (word_atom a)
  unfolding with_atom query_of
  atom_appended l h f =
      ap (λ x. record { answers = (query_of q).answers; atoms = x }) (stored_last word_atom q.atoms q.size a (omega arith))
      ∙ sym (simp (sym e ∙ f))

-- the query with its first i atoms
abbrev pub cut : QueryWords → ℕ → QueryWords
cut q i = record { terms = q.terms; answers = q.answers; size = i; atoms = q.atoms }

pub none_kept : (q : QueryWords) → query_of (cut q 0) ≡ once_each (query_of (cut q 0))
unfolding query_of once_each
none_kept q = refl

pub atom_kept : (q kept r : QueryWords) (i n : ℕ) → length q.atoms ≡ 8 → i < n → n ≤ 8 → query_of kept ≡ once_each (query_of (cut q i))
    → query_of r ≡ with_atom (query_of kept) (word_atom (get_or q.atoms i 0)) → query_of r ≡ once_each (query_of (cut q (i + 1)))
unfolding query_of once_each with_atom
atom_kept q kept r i n l h g e d =
    d ∙ ap (λ p. with_atom p (word_atom (get_or q.atoms i 0))) e
    ∙ ap (λ x. record { answers = (query_of q).answers; atoms = x })
    (sym (ap keep_once (first_more word_atom q.atoms i (omega arith))
    ∙ once_more same_atom same_atom_iff (map word_atom (take i q.atoms)) (word_atom (get_or q.atoms i 0))))

-- ---- what is known of the query after a step

once_each_terms : (p : Query) {t : Term} → t ∈ terms (once_each p) → t ∈ terms p
unfolding once_each
once_each_terms p m =
    elim (terms_cases (once_each p) m) [ inl n ↦ terms_answers p n | inr w ↦ terms_atoms p (keep_once_mem p.atoms w.1) w.2 ]

module _ (q kept : QueryWords) (i : ℕ) (h : i ≤ q.size) (g : q.size ≤ i) (e : query_of kept ≡ once_each (query_of (cut q i))) where
  pub all_kept : query_of kept ≡ once_each (query_of q)
  all_kept = e ∙ ap (λ k. once_each (query_of (cut q k))) (let d : i ≡ q.size = omega arith in d)

  pub kept_small : Small q → kept.size ≤ i → kept.terms ≡ q.terms → kept.answers ≡ q.answers → Small kept
  kept_small s f t w = record {
    few_terms = rw t s.few_terms;
    few_atoms = omega (arith, s.few_atoms);
    answer_words = subst TermWords (sym w) s.answer_words;
    variables = λ v m. s.variables v (once_each_terms (query_of q) (subst (λ p. var v ∈ terms p) all_kept m));
  }

-- ---- an atom changed

-- the words with that of an atom stored at index i
abbrev stored_at : QueryWords → ℕ → ℕ → QueryWords
stored_at q i b = record { terms = q.terms; answers = q.answers; size = q.size; atoms = set q.atoms i b }

module _ (q : QueryWords) (i b : ℕ) (h : i < q.size) where
  atoms_changed : (query_of (stored_at q i b)).atoms ≡ set (query_of q).atoms i (word_atom b)
  unfolding query_of
  atoms_changed = ap (map word_atom) (take-set-lt q.size q.atoms i b h) ∙ map_set word_atom (take q.size q.atoms) i b

  pub changed_small : Small q → LowAtom b → Small (stored_at q i b)
  unfolding query_of
  changed_small s low = record {
    few_terms = s.few_terms;
    few_atoms = s.few_atoms;
    answer_words = s.answer_words;
    variables = λ v m. elim (terms_cases (query_of (stored_at q i b)) m) [
      | inl n ↦ s.variables v (terms_answers (query_of q) n)
      | inr w ↦ elim (mem_set (query_of q).atoms i (word_atom b) (subst (λ l. w.0 ∈ l) atoms_changed w.1)) [
        | inl e ↦ low v (subst (λ a. var v ∈ args a) e w.2)
        | inr n ↦ s.variables v (terms_atoms (query_of q) n w.2)
      ]
    ];
  }

  pub atom_changed : (r : QueryWords) → query_of r ≡ once_each (query_of (stored_at q i b)) → query_of r
      ≡ change_atom (query_of q) i (word_atom b)
  unfolding query_of once_each change_atom
  atom_changed r e = e ∙ ap (λ l. record { answers = (query_of q).answers; atoms = keep_once l }) atoms_changed

-- ---- a query under a replacement

filled_more : {X : Type 0} (f : ℕ → X) (g : X → X) (l words : List ℕ) (i v : ℕ) → i < length l → i < length words
    → map f (take i words) ≡ map g (map f (take i l)) → f v ≡ g (f (get_or l i 0))
    → map f (take (i + 1) (set words i v)) ≡ map g (map f (take (i + 1) l))
filled_more f g l words i v h h' e d =
    stored_last f words i v h' ∙ ap₂ (λ x y. x ++ (y ∷ [])) e d
    ∙ sym (ap (map g) (first_more f l i h) ∙ map-append g (map f (take i l)) (f (get_or l i 0) ∷ []))

module _ (σ : ℕ → Term) (l : List ℕ) where
  pub no_term_filled : [] ≡ map (subst_term σ) (map word_term (take 0 l))
  no_term_filled = refl

  pub no_atom_filled : [] ≡ map (map_atom (subst_term σ)) (map word_atom (take 0 l))
  no_atom_filled = refl

  module _ (words : List ℕ) (i v : ℕ) where
    pub term_filled : (n : ℕ) → length l ≡ 4 → length words ≡ 4 → i < n → n ≤ 4
        → map word_term (take i words) ≡ map (subst_term σ) (map word_term (take i l)) → word_term v
        ≡ subst_term σ (word_term (get_or l i 0))
        → map word_term (take (i + 1) (set words i v)) ≡ map (subst_term σ) (map word_term (take (i + 1) l))
    term_filled n k m h g = filled_more word_term (subst_term σ) l words i v (omega arith) (omega arith)

    pub atom_filled : (n : ℕ) → length l ≡ 8 → length words ≡ 8 → i < n → n ≤ 8
        → map word_atom (take i words) ≡ map (map_atom (subst_term σ)) (map word_atom (take i l))
        → word_atom v ≡ map_atom (subst_term σ) (word_atom (get_or l i 0))
        → map word_atom (take (i + 1) (set words i v)) ≡ map (map_atom (subst_term σ)) (map word_atom (take (i + 1) l))
    atom_filled n k m h g = filled_more word_atom (map_atom (subst_term σ)) l words i v (omega arith) (omega arith)

filled_all : {X : Type 0} (f : ℕ → X) (g : X → X) (l words : List ℕ) (i n : ℕ) → i ≤ n → n ≤ i
    → map f (take i words) ≡ map g (map f (take i l)) → map f (take n words) ≡ map g (map f (take n l))
filled_all f g l words i n h k e = let d : i ≡ n = omega arith in subst (λ m. map f (take m words) ≡ map g (map f (take m l))) d e

module _ (q : QueryWords) (σ : ℕ → Term) (words : List ℕ) (i : ℕ) where
  pub terms_filled : i ≤ q.terms → q.terms ≤ i → map word_term (take i words) ≡ map (subst_term σ) (map word_term (take i q.answers))
      → map word_term (take q.terms words) ≡ map (subst_term σ) (query_of q).answers
  unfolding query_of
  terms_filled = filled_all word_term (subst_term σ) q.answers words i q.terms

  pub atoms_filled : i ≤ q.size → q.size ≤ i
      → map word_atom (take i words) ≡ map (map_atom (subst_term σ)) (map word_atom (take i q.atoms))
      → map word_atom (take q.size words) ≡ map (map_atom (subst_term σ)) (query_of q).atoms
  unfolding query_of
  atoms_filled = filled_all word_atom (map_atom (subst_term σ)) q.atoms words i q.size

-- what is known of each word
pub small_answer : (q : QueryWords) (i : ℕ) → Small q → length q.answers ≡ 4 → i < q.terms → SmallTerm (get_or q.answers i 0)
small_answer q i s l h = record { word = s.answer_words i; low = answer_low q i s l h }

pub zero_words : (l : List ℕ) → T (below32 l) → TermWords l
zero_words l t k = let h : get_or l k 0 < 32 = each_below l t k in omega arith

pub term_stored : (l : List ℕ) (i w : ℕ) → TermWords l → SmallTerm w → TermWords (set l i w)
term_stored l i w h s = each_stored (λ x. x < word_term_bound) l i w h s.word

module _ (s : Substitution) (q : QueryWords) (answers atoms : List ℕ)
    (e : map word_term (take q.terms answers) ≡ map (subst_term (subst_of s)) (query_of q).answers)
    (d : map word_atom (take q.size atoms) ≡ map (map_atom (subst_term (subst_of s))) (query_of q).atoms) where
  -- the words of the query under the replacement
  abbrev sent : QueryWords
  sent = record { terms = q.terms; answers = answers; size = q.size; atoms = atoms }

  sent_variable : SmallTargets s → ((v : ℕ) → var v ∈ terms (query_of q) → v < 32) → (t : Term) → t ∈ terms (query_of q) → (v : ℕ)
      → subst_term (subst_of s) t ≡ var v → v < 32
  sent_variable sound low (var u) m v f = (sound u).low v (sym f ∙ place s u (low u m))
  sent_variable sound low (const c) m v f = absurd (let z : ◌≡◌ {A = ℕ} 0 1 = cc in omega arith)

  pub sent_small : SmallTargets s → Small q → TermWords answers → Small sent
  unfolding query_of
  sent_small sound small words = record {
    few_terms = small.few_terms;
    few_atoms = small.few_atoms;
    answer_words = words;
    variables = λ v m.
        let w =
        terms_from (query_of q) (query_of sent) (subst_term (subst_of s)) (sym e)
        (λ b n. Memᴰ.of_map (map_atom (subst_term (subst_of s))) (query_of q).atoms (subst (λ l. b ∈ l) d n)) m in
        sent_variable sound small.variables w.0 w.1 v w.2;
  }

  pub sent_once : (r : QueryWords) → query_of r ≡ once_each (query_of sent) → query_of r ≡ substitute (subst_of s) (query_of q)
  unfolding query_of once_each substitute
  sent_once r f = f ∙ ap₂ (λ x y. record { answers = x; atoms = keep_once y }) e d

-- ---- steps

module _ (q : QueryWords) (i : ℕ) where
  pub atom_at_lem : length q.atoms ≡ 8 → Small q → i < q.size → get_elem? (query_of q).atoms i ≡ some (word_atom (get_or q.atoms i 0))
  unfolding query_of
  atom_at_lem l s h = record_at_lem word_atom q.atoms q.size (omega (arith, s.few_atoms)) i h

  atom_past : q.size ≤ i → get_elem? (query_of q).atoms i ≡ none
  unfolding query_of
  atom_past h = record_past word_atom q.atoms q.size i h

  pub made_low : (b : ℕ) → length q.atoms ≡ 8 → Small q → i < q.size → (LowAtom (get_or q.atoms i 0) → LowAtom b) → LowAtom b
  made_low b l s h f = f (atom_low q i s l h)

-- a rule on an atom
module _ (q : QueryWords) (i rule : ℕ) (rules : List Rule) (k : ℕ) (at : At rules k (rule_in rule)) where
  pub rule_past : q.size ≤ i → none ≡ rule_step rules (query_of q) i k
  unfolding rule_step
  rule_past h = sym (simp (at, atom_past q i h))

  module _ (l : length q.atoms ≡ 8) (s : Small q) (h : i < q.size) where
    pub rule_unfit : none ≡ rewrite_atom (query_of q) (rule_in rule) (word_atom (get_or q.atoms i 0))
        → none ≡ rule_step rules (query_of q) i k
    unfolding rule_step
    rule_unfit e = sym (simp (at, atom_at_lem q i l s h, sym e))

    pub rule_fits : (r : QueryWords) (w : ℕ)
        → some (word_atom w) ≡ rewrite_atom (query_of q) (rule_in rule) (word_atom (get_or q.atoms i 0))
        → query_of r ≡ change_atom (query_of q) i (word_atom w) → some (query_of r) ≡ rule_step rules (query_of q) i k
    unfolding rule_step
    rule_fits r w e d = ap some d ∙ sym (simp (at, atom_at_lem q i l s h, sym e))

-- a merge of two atoms
module _ (q : QueryWords) (i j : ℕ) where
  pub merge_order : j ≤ i → none ≡ merge_step (query_of q) i j
  unfolding merge_step
  merge_order h = sym (simp (le-ltb i j h))

  module _ (l : length q.atoms ≡ 8) (s : Small q) (h : i < j) where
    pub earlier_low : j < q.size → LowAtom (get_or q.atoms i 0)
    earlier_low g = atom_low q i s l (omega arith)

    pub merge_past : q.size ≤ j → none ≡ merge_step (query_of q) i j
    unfolding merge_step
    merge_past g =
        elim (dec_lt i q.size) [
          | yes m ↦ sym (simp (lt-ltb i j h, atom_at_lem q i l s m, atom_past q j g))
          | no m ↦ sym (simp (lt-ltb i j h, atom_past q i (omega arith)))
        ]

    module _ (g : j < q.size) where
      pub merge_unfit : none ≡ unify (word_atom (get_or q.atoms i 0)) (word_atom (get_or q.atoms j 0))
          → none ≡ merge_step (query_of q) i j
      unfolding merge_step
      merge_unfit e = sym (simp (lt-ltb i j h, atom_at_lem q i l s (omega arith), atom_at_lem q j l s g, sym e))

      pub merge_fits : (u : Substitution) (r : QueryWords)
          → some (subst_of u) ≡ unify (word_atom (get_or q.atoms i 0)) (word_atom (get_or q.atoms j 0))
          → query_of r ≡ substitute (subst_of u) (query_of q) → some (query_of r) ≡ merge_step (query_of q) i j
      unfolding merge_step
      merge_fits u r e d =
          ap some d ∙ sym (simp (lt-ltb i j h, atom_at_lem q i l s (omega arith), atom_at_lem q j l s g, sym e))

pub ruleset once_laws = (
  rules,
  spellings,
  query_scans,
  atom_stands,
  atom_appended,
  none_kept,
  atom_kept,
  all_kept,
  kept_small,
)

pub ruleset change_laws = (rules, spellings, changed_small, atom_changed)

pub ruleset fill_laws = (
  rules,
  spellings,
  no_term_filled,
  no_atom_filled,
  term_filled,
  atom_filled,
  terms_filled,
  atoms_filled,
  small_answer,
  atom_low,
  zero_words,
  term_stored,
)

pub ruleset sent_laws = (rules, spellings, sent_small, sent_once)

pub ruleset rule_laws = (rules, spellings, made_low, rule_past, rule_unfit, rule_fits)

pub ruleset merge_laws = (rules, spellings, atom_low, earlier_low, merge_order, merge_past, merge_unfit, merge_fits)
