-- The search of `Renaming` finds what is to be handed back (02, T-05): its first renaming is the smallest, and it finds none exactly where
-- there is none.
use Rattle.std.specs.Prelude.{◌≡◌, refl, ℕ, zero, suc, ◌+◌, ◌≤◌, ◌<◌, Bool, true, false, T, eqb, get_or, replicate}
use Rattle.std.proofs.Math.Path.{sym, ap}
use Rattle.std.proofs.Common.{◌∙◌, subst, arith}
use Rattle.std.proofs.Math.Logic.{inl, inr}
use Rattle.std.proofs.Math.Decide.{dec_lt}
use Rattle.std.proofs.Math.Option.{Option, none, some}
use mathlib.Core.List.Memᴰ
use mathlib.Core.List.{List, [], ◌∷◌, map}
use Rattle.std.proofs.Math.ListN.{get_or-eq_default}
use Rattle.theory.specs.Lists.{◌∈◌, Unrepeated, pick, without, first_some, is_some, numbers, Pairs, lookup}
use Rattle.theory.specs.Syntax.{var, Query, terms}
use Rattle.theory.specs.Renaming.{Alike, variables, may_be, promising, complete, find_renaming, alike}
use Rattle.theory.specs.Evaluation.{before, Before}
use Rattle.theory.specs.Targets.{places, no_target, target_at, by_rising_source, Smallest, HandedBack}
use Rattle.theory.specs.Laws.Options.{is_true, some_inj, none≢some, tested_found, tested_of}
use Rattle.theory.specs.Laws.Lists.{here, forall_cons, mem_without, first_some_found, numbered_length}
use Rattle.theory.specs.Laws.Lookup.{lookup_head, lookup_later}
use Rattle.theory.specs.Laws.Ascending.{Ascending}
use Rattle.theory.proofs.Laws.Answers.{before_cons}
use Rattle.theory.proofs.Laws.Equivalence.{term_into}
use Rattle.theory.proofs.Laws.Variables.{variables_ascending, variables_unrepeated, variables_mem, mem_variables}
use Rattle.theory.proofs.Laws.Targets.{values_same}
use Rattle.theory.proofs.Laws.RenamingDecided.{target, target_is, found_renaming, Follows}
use Rattle.theory.proofs.Laws.RenamingDecided.{follows_promising, Open, others_open, complete_gives, alike_iff}

-- ---- on lists of numbers

without_ascending : (p : ℕ → Bool) (xs : List ℕ) → Ascending ◌<◌ xs → Ascending ◌<◌ (without p xs)
unfolding without
without_ascending p [] a = tt
without_ascending p (x ∷ xs) a =
    elim (p x) as (λ b. Ascending ◌<◌ (pick b (without p xs) (x ∷ without p xs))) [
      | true ↦ without_ascending p xs a.1
      | false ↦ (λ y m. a.0 y (mem_without p xs m).0, without_ascending p xs a.1)
    ]

-- the lowest number of the list that gives something gives y
abbrev Lowest : {Y : Type 0} → (ℕ → Option Y) → Y → List ℕ → Type 0
Lowest f y xs = (u : ℕ) × (u ∈ xs) × (f u ≡ some y) × ((z : ℕ) → z ∈ xs → T (is_some (f z)) → u ≤ z)

-- of an ascending list `first_some` takes the lowest number that gives something
first_some_lowest : {Y : Type 0} (f : ℕ → Option Y) (xs : List ℕ) {y : Y} → Ascending ◌<◌ xs → first_some f xs ≡ some y → Lowest f y xs
unfolding first_some is_some
first_some_lowest f [] a e = absurd (none≢some e)
first_some_lowest {Y} f (x ∷ xs) {y} a e = go (f x) refl (λ d. first_some_lowest f xs a.1 d) e
  where
    go : (o : Option Y) → f x ≡ o → (first_some f xs ≡ some y → Lowest f y xs)
        → ◌≡◌ {A = Option Y} (elim o [ none ↦ first_some f xs | some z ↦ some z ]) (some y) → Lowest f y (x ∷ xs)
    go none d later e =
        let (u, m, h, low) = later e in (
          u,
          Memᴰ.tail m,
          h,
          forall_cons (λ t. absurd (subst (λ o. T (is_some o)) d t)) low,
        )
    go (some z) d later e = (x, here, d ∙ e, forall_cons (λ t. omega arith) (λ v m t. let l = a.0 v m in omega arith))

-- ---- the search keeps what is assigned, and assigns sources alone

complete_keeps : (p q : Query) (sources free : List ℕ) (ps : Pairs) {found : Pairs} → complete p q sources free ps ≡ some found → (v : ℕ)
    → ¬ (v ∈ sources) → lookup found v ≡ lookup ps v
unfolding complete
complete_keeps p q [] free ps e v f = ap (λ r. lookup r v) (sym (some_inj e))
complete_keeps p q (u ∷ sources) free ps e v f =
    let r = first_some_found _ free e in
    let w : ℕ = r.0 in
    let s = tested_found (promising (may_be ((u, w) ∷ ps)) p q) (complete p q sources (without (eqb w) free) ((u, w) ∷ ps)) r.2 in
    complete_keeps p q sources (without (eqb w) free) ((u, w) ∷ ps) s.1 v (λ m. f (Memᴰ.tail m))
    ∙ lookup_later (u, w) ps v (λ d. f (Memᴰ.head (sym d)))

-- ---- what it finds is the smallest

module _ (p q : Query) (r : Alike p q) where
  complete_least : (sources free : List ℕ) (ps : Pairs) {found : Pairs} → Follows p q r ps → Unrepeated sources → Ascending ◌<◌ free
      → Open p q r sources free → complete p q sources free ps ≡ some found
      → ¬ Before (map r.to sources) (map (target found) sources)
  unfolding complete before
  complete_least [] free ps f u a h e b = b
  complete_least (v ∷ sources) free ps {found} f u a h e b =
      let (w, m, d, low) = first_some_lowest _ free a e in
      let s = tested_found (promising (may_be ((v, w) ∷ ps)) p q) (complete p q sources (without (eqb w) free) ((v, w) ∷ ps)) d in
      let at : target found v ≡ w =
      target_is found v w (complete_keeps p q sources (without (eqb w) free) ((v, w) ∷ ps) s.1 v u.0
      ∙ lookup_head (v, w) ps v refl) in
      elim ((before_cons (r.to v) (target found v) (map r.to sources) (map (target found) sources)).0 b) [
        | inl l ↦ (let k : w ≤ r.to v = low (r.to v) (h v here).1 given in omega arith)
        | inr c ↦ (let i : r.to v ≡ w = c.0 ∙ at in
            complete_least sources (without (eqb w) free) ((v, w) ∷ ps) (forall_cons ((h v here).0, i) f) u.1
            (without_ascending (eqb w) free a) (subst (λ x. Open p q r sources (without (eqb x) free)) i left) s.1 c.1)
      ]
    where
      left : Open p q r sources (without (eqb (r.to v)) free)
      left = others_open p q r v sources free u h

      next : Pairs
      next = (v, r.to v) ∷ ps

      follows : Follows p q r next
      follows = forall_cons ((h v here).0, refl) f

      given : T (is_some {X = Pairs} (elim (promising (may_be next) p q) [
        | true ↦ complete p q sources (without (eqb (r.to v)) free) next
        | false ↦ none
      ]))
      given =
          tested_of (promising (may_be next) p q) (complete p q sources (without (eqb (r.to v)) free) next)
          (follows_promising p q r next follows)
          (complete_gives p q r sources (without (eqb (r.to v)) free) next follows u.1 left)

-- ---- handed back as a list of targets

-- the target of a variable in the pairs found, and no target where there is none
or_none : Option ℕ → ℕ
or_none none = no_target
or_none (some w) = w

unfoldable pub targets_found : Option Pairs → List ℕ
unfolding or_none lookup numbers
targets_found none = replicate places no_target
targets_found (some ps) = map (λ v. or_none (lookup ps v)) (numbers 0 places)

numbered_at : (f : ℕ → ℕ) (start n v d : ℕ) → v < n → get_or (map f (numbers start n)) v d ≡ f (start + v)
unfolding numbers
numbered_at f start zero v d h = absurd (omega arith)
numbered_at f start (suc n) zero d h = ap f (omega arith)
numbered_at f start (suc n) (suc v) d h = numbered_at f (suc start) n v d (omega arith) ∙ ap f (omega arith)

module _ (p q : Query) (low : (v : ℕ) → var v ∈ terms p → v < places) (ps : Pairs) (e : find_renaming p q ≡ some ps) where
  at_place : (v : ℕ) → v < places → target_at (targets_found (some ps)) v ≡ or_none (lookup ps v)
  unfolding targets_found
  at_place v h = numbered_at (λ v. or_none (lookup ps v)) 0 places v no_target h ∙ ap (λ u. or_none (lookup ps u)) (omega arith)

  -- a variable of p has its target, another number none
  found_at : (v : ℕ) → var v ∈ terms p → target_at (targets_found (some ps)) v ≡ target ps v
  unfolding or_none
  found_at v m =
      let a = (found_renaming p q e).0 v m in
      at_place v (low v m) ∙ ap or_none a.1 ∙ sym (target_is ps v a.0 a.1)

  nothing_at : (v : ℕ) → ¬ (var v ∈ terms p) → target_at (targets_found (some ps)) v ≡ no_target
  unfolding targets_found or_none find_renaming lookup
  nothing_at v f = elim (dec_lt v places) [
    | yes h ↦ at_place v h ∙ ap or_none (complete_keeps p q (variables (terms p)) (variables (terms q)) []
        (tested_found (promising (may_be []) p q) (complete p q (variables (terms p)) (variables (terms q)) []) e).1 v
        (λ m. f (variables_mem (terms p) m)))
    | no h ↦ get_or-eq_default (targets_found (some ps)) no_target {n = v}
        (let k = numbered_length (λ v. or_none (lookup ps v)) places in omega arith)
  ]

  found_smallest : Smallest p q (targets_found (some ps))
  unfolding targets_found find_renaming
  found_smallest = record {
    fits = record {
      renaming = (found_renaming p q e).1.0;
      sent = λ v m. found_at v m ∙ sym ((found_renaming p q e).1.1 v);
      unsent = nothing_at;
      long = numbered_length (λ v. or_none (lookup ps v)) places;
    };
    least = λ r b. complete_least p q r (variables (terms p)) (variables (terms q)) [] (λ d m. absurd (Memᴰ.not-nil m))
        (variables_unrepeated (terms p)) (variables_ascending (terms q))
        (λ v m. (let n = variables_mem (terms p) m in (n, mem_variables (terms q) (term_into p q r n))))
        (tested_found (promising (may_be []) p q) (complete p q (variables (terms p)) (variables (terms q)) []) e).1
        (subst (Before (by_rising_source p r.to))
        (values_same (target_at (targets_found (some ps))) (target ps) (variables (terms p))
        (λ v m. found_at v (variables_mem (terms p) m))) b);
  }

-- the search hands back what 02 asks for
pub search_hands_back : (p q : Query) → ((v : ℕ) → var v ∈ terms p → v < places)
    → HandedBack p q (is_some (find_renaming p q)) (targets_found (find_renaming p q))
unfolding is_some targets_found alike
search_hands_back p q low = go (find_renaming p q) refl
  where
    go : (o : Option Pairs) → find_renaming p q ≡ o → HandedBack p q (is_some o) (targets_found o)
    go none e = record {
      smallest = λ d. absurd (subst T (sym d) tt);
      none_fits = λ d r. subst (λ o. T (is_some o)) e ((alike_iff p q).1 r);
      no_targets = λ d. refl;
    }
    go (some ps) e = record {
      smallest = λ d. found_smallest p q low ps e;
      none_fits = λ d. absurd (subst T d tt);
      no_targets = λ d. absurd (subst T d tt);
    }

-- so where two queries are alike there is a smallest renaming
pub smallest_found : (p q : Query) → ((v : ℕ) → var v ∈ terms p → v < places) → Alike p q → (targets : List ℕ) × Smallest p q targets
unfolding alike
smallest_found p q low r =
    let handed = search_hands_back p q low in
    (targets_found (find_renaming p q), handed.smallest (is_true (is_some (find_renaming p q)) ((alike_iff p q).1 r)))
