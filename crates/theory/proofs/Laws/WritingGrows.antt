-- 02, T-02: how the written union grows. Members are only appended, each with its own step, none alike to an earlier one; and what the
-- steps of a taken member lead to is alike to a member.
use Rattle.std.specs.Prelude.{◌≡◌, ◌⊎◌}
use Rattle.std.proofs.Math.Path.{refl, ap, subst}
use Rattle.std.proofs.Common.{sym, ◌∙◌, eq-or-lt_of_le, length-append}
use Rattle.std.proofs.Math.Logic.{inl, inr}
use Prim.Native.Nat.{ℕ, zero, suc, ◌+◌, ◌≤◌, ◌<◌}
use Rattle.std.proofs.Math.Decide.{dec_lt}
use native.Mathlib.Omega.{arith}
use Rattle.std.proofs.Math.Option.{Option, none, some}
use mathlib.Core.List.Memᴰ
use mathlib.Core.List.{List, [], ◌∷◌, ◌++◌, append_assoc, append-nil, flat_map}
use Rattle.std.proofs.Math.ListN.{length, get_elem?}
use Rattle.theory.specs.Lists.{◌∈◌, At, any, numbers}
use Rattle.theory.specs.Syntax.{Rule, Query, Step, Member, UCQ}
use Rattle.theory.specs.Rewriting.{rule_step, merge_step, StepTo}
use Rattle.theory.specs.Renaming.{Alike, alike}
use Rattle.theory.specs.Union.{Yields, no_step}
use Rattle.theory.specs.Writing.{stepped, by_rule, by_merge, steps_from, appended, appended_all, with_steps_of, grown}
use Rattle.theory.specs.Laws.Options.{either, pick_true, pick_false, some_inj, none≢some, some_or_none}
use Rattle.theory.specs.Laws.Lists.{here, flat_map_found, flat_map_of, numbers_iff, at_mem, mem_at, at_lt, at_or_past, at_unique}
use Rattle.theory.specs.Laws.Lists.{at_append, at_snoc}
use Rattle.theory.proofs.Laws.Steps.{rule_step_iff, merge_step_iff}
use Rattle.theory.proofs.Laws.Equivalence.{alike_refl, alike_sym}
use Rattle.theory.proofs.Laws.UnionTests.{some_alike_iff}
use Rattle.theory.specs.Laws.WritingGrows.{AlikeIn}

-- ---- unions that begin with a union

-- the second union is the first with members after it
abbrev pub Extends : UCQ → UCQ → Type 0
Extends u v = (more : UCQ) × (v ≡ u ++ more)

pub extends_refl : (u : UCQ) → Extends u u
extends_refl u = ([], sym (append-nil u))

pub extends_trans : (u v w : UCQ) → Extends u v → Extends v w → Extends u w
extends_trans u v w (a, e) (b, f) = (a ++ b, f ∙ ap (λ x. x ++ b) e ∙ append_assoc u a b)

module _ (u v : UCQ) (x : Extends u v) where
  pub extends_at : (i : ℕ) {m : Member} → At u i m → At v i m
  extends_at i {m} e = subst (λ (l : UCQ). At l i m) (sym x.1) (at_append u x.0 i e)

  pub extends_mem : {m : Member} → m ∈ u → m ∈ v
  extends_mem {m} n = let w = mem_at n in at_mem v w.0 (extends_at w.0 w.1)

  pub extends_length : length u ≤ length v
  extends_length = let e : length v ≡ length u + length x.0 = ap length x.1 ∙ length-append u x.0 in omega arith

-- ---- one member appended

pub alike_extends : (r : Query) (u v : UCQ) → Extends u v → AlikeIn r u → AlikeIn r v
alike_extends r u v x w = (w.0, extends_mem u v x w.1, w.2)

module _ (u : UCQ) (m : Member) where
  pub appended_alike : AlikeIn m.query u → appended u m ≡ u
  unfolding appended
  appended_alike w = pick_true (any (λ n. alike m.query n.query) u) u (u ++ (m ∷ [])) ((some_alike_iff m.query u).1 w)

  pub appended_unlike : (¬ AlikeIn m.query u) → appended u m ≡ u ++ (m ∷ [])
  unfolding appended
  appended_unlike f =
      pick_false (any (λ n. alike m.query n.query) u) u (u ++ (m ∷ [])) (λ t. f ((some_alike_iff m.query u).0 t))

  pub alike_or_new : AlikeIn m.query u ⊎ (¬ AlikeIn m.query u)
  alike_or_new =
      elim (either (any (λ n. alike m.query n.query) u)) [
        | inl t ↦ inl ((some_alike_iff m.query u).0 t)
        | inr f ↦ inr (λ w. f ((some_alike_iff m.query u).1 w))
      ]

  pub appended_extends : Extends u (appended u m)
  appended_extends =
      elim alike_or_new [ inl w ↦ ([], appended_alike w ∙ sym (append-nil u)) | inr f ↦ (m ∷ [], appended_unlike f) ]

  -- the result is alike to a member now
  pub appended_covers : AlikeIn m.query (appended u m)
  appended_covers =
      elim alike_or_new [
        | inl w ↦ alike_extends m.query u (appended u m) appended_extends w
        | inr f ↦ subst (AlikeIn m.query) (sym (appended_unlike f)) (m, Memᴰ.append_right u here, alike_refl m.query)
      ]

-- ---- many, one after another

pub appended_all_append : (u : UCQ) (xs ys : List Member) → appended_all u (xs ++ ys) ≡ appended_all (appended_all u xs) ys
unfolding appended_all
appended_all_append u [] ys = refl
appended_all_append u (x ∷ xs) ys = appended_all_append (appended u x) xs ys

pub appended_all_extends : (u : UCQ) (ms : List Member) → Extends u (appended_all u ms)
unfolding appended_all
appended_all_extends u [] = extends_refl u
appended_all_extends u (m ∷ ms) =
    extends_trans u (appended u m) (appended_all (appended u m) ms) (appended_extends u m) (appended_all_extends (appended u m) ms)

pub appended_all_covers : (u : UCQ) (ms : List Member) {m : Member} → m ∈ ms → AlikeIn m.query (appended_all u ms)
unfolding appended_all
appended_all_covers u [] n = absurd (Memᴰ.not-nil n)
appended_all_covers u (x ∷ xs) {m} (Memᴰ.head e) =
    alike_extends m.query (appended u x) (appended_all (appended u x) xs) (appended_all_extends (appended u x) xs)
    (subst (λ (y : Member). AlikeIn y.query (appended u x)) (sym e) (appended_covers u x))
appended_all_covers u (x ∷ xs) (Memᴰ.tail n) = appended_all_covers (appended u x) xs n

-- ---- what is kept: each member but the first has its own step beside it, and no two are alike

module _ (rules : List Rule) (q : Query) where
  -- the step of m, made from this union, gives m's question
  abbrev pub StepFits : UCQ → Member → Type 0
  StepFits u m = Yields rules u (length u) m.step m.query

  pub record Kept (u : UCQ) : Type 0 where
    pub first : At u 0 (record { step = no_step; query = q })
    pub own_step : (j : ℕ) (m : Member) → 0 < j → At u j m → Yields rules u j m.step m.query
    pub unlike : (i j : ℕ) (m n : Member) → i < j → At u i m → At u j n → Alike m.query n.query → ⊥

  yields_extends : (u v : UCQ) (j k : ℕ) (s : Step) (r : Query) → Extends u v → j ≤ k → Yields rules u j s r → Yields rules v k s r
  yields_extends u v j k s r x l y = (let h = y.0 in omega arith, y.1, extends_at u v x s.parent y.2, y.3)

  fits_extends : (u v : UCQ) (m : Member) → Extends u v → StepFits u m → StepFits v m
  fits_extends u v m x y = yields_extends u v (length u) (length v) m.step m.query x (extends_length u v x) y

  kept_new : (u : UCQ) (m : Member) → Kept u → StepFits u m → (¬ AlikeIn m.query u) → Kept (u ++ (m ∷ []))
  kept_new u m k fits new = record {
    first = at_append u (m ∷ []) 0 k.first;
    own_step = λ j n l e. elim (at_snoc u m j e) [
      | inl f ↦ yields_extends u (u ++ (m ∷ [])) j j n.step n.query (m ∷ [], refl) (omega arith) (k.own_step j n l f)
      | inr w ↦ subst (λ (x : Member). Yields rules (u ++ (m ∷ [])) j x.step x.query) (sym w.1)
          (yields_extends u (u ++ (m ∷ [])) (length u) j m.step m.query (m ∷ [], refl) (let d = w.0 in omega arith) fits)
    ];
    unlike = λ i j x y l e f a. elim (at_snoc u m j f) [
      | inl g ↦ elim (at_snoc u m i e) [
        | inl h ↦ k.unlike i j x y l h g a
        | inr w ↦ (let p = at_lt u j g in let d = w.0 in absurd (omega arith))
      ]
      | inr w ↦ elim (at_snoc u m i e) [
        | inl h ↦ new (x, at_mem u i h, alike_sym x.query m.query (subst (λ (z : Member). Alike x.query z.query) w.1 a))
        | inr v ↦ (let d = w.0 in let c = v.0 in absurd (omega arith))
      ]
    ];
  }

  appended_kept : (u : UCQ) (m : Member) → Kept u → StepFits u m → Kept (appended u m)
  appended_kept u m k fits =
      elim (alike_or_new u m) [
        | inl w ↦ subst Kept (sym (appended_alike u m w)) k
        | inr f ↦ subst Kept (sym (appended_unlike u m f)) (kept_new u m k fits f)
      ]

  appended_all_kept : (u : UCQ) (ms : List Member) → Kept u → ((m : Member) → m ∈ ms → StepFits u m) → Kept (appended_all u ms)
  unfolding appended_all
  appended_all_kept u [] k h = k
  appended_all_kept u (m ∷ ms) k h =
      appended_all_kept (appended u m) ms (appended_kept u m k (h m here))
      (λ n i. fits_extends u (appended u m) n (appended_extends u m) (h n (Memᴰ.tail i)))

  -- ---- the steps of one member

  -- each is a step from member k, and gives what stands beside it
  pub stepped_found : (s : Step) (o : Option Query) {m : Member} → m ∈ stepped s o → (m.step ≡ s) × (o ≡ some m.query)
  unfolding stepped
  stepped_found s none n = absurd (Memᴰ.not-nil n)
  stepped_found s (some r) (Memᴰ.head e) = (ap (λ (x : Member). x.step) e, ap (λ (x : Member). some x.query) (sym e))
  stepped_found s (some r) (Memᴰ.tail n) = absurd (Memᴰ.not-nil n)

  -- what stands beside a result of member k's steps gives that result
  module _ (u : UCQ) (k : ℕ) (p : Member) (at : At u k p) where
    rule_fits : (i j : ℕ) {m : Member} → m ∈ by_rule rules k p.query i j → StepFits u m
    unfolding by_rule
    rule_fits i j {m} n =
        let w = stepped_found record { kind = 1; parent = k; atom = i; other = j } (rule_step rules p.query i j) n in
        subst (λ (s : Step). Yields rules u (length u) s m.query) (sym w.0) (at_lt u k at, p, at, inl (refl, w.1))

    merge_fits : (i j : ℕ) {m : Member} → m ∈ by_merge k p.query i j → StepFits u m
    unfolding by_merge
    merge_fits i j {m} n =
        let w = stepped_found record { kind = 2; parent = k; atom = i; other = j } (merge_step p.query i j) n in
        subst (λ (s : Step). Yields rules u (length u) s m.query) (sym w.0) (at_lt u k at, p, at, inr (refl, w.1))

    pub steps_fit : (m : Member) → m ∈ steps_from rules k p.query → StepFits u m
    unfolding steps_from
    steps_fit m n =
        let indices : List ℕ = numbers 0 (length p.query.atoms) in
        elim (Memᴰ.append_cases (flat_map (λ i. flat_map (by_rule rules k p.query i) (numbers 0 (length rules))) indices) n) [
          | inl h ↦
              (let x = flat_map_found (λ i. flat_map (by_rule rules k p.query i) (numbers 0 (length rules))) indices h in
              let y = flat_map_found (by_rule rules k p.query x.0) (numbers 0 (length rules)) x.2 in
              rule_fits x.0 y.0 y.2)
          | inr h ↦
              (let x = flat_map_found (λ i. flat_map (by_merge k p.query i) indices) indices h in
              let y = flat_map_found (by_merge k p.query x.0) indices x.2 in
              merge_fits x.0 y.0 y.2)
        ]

  pub found_stepped : (s : Step) (o : Option Query) {r : Query} → o ≡ some r → record { step = s; query = r } ∈ stepped s o
  unfolding stepped
  found_stepped s none e = absurd (none≢some e)
  found_stepped s (some x) e = Memᴰ.head (ap (λ (r : Query). record { step = s; query = r }) (sym (some_inj e)))

  -- and each result of a step is among them
  pub steps_listed : (k : ℕ) (p r : Query) → StepTo rules p r → (m : Member) × (m ∈ steps_from rules k p) × (m.query ≡ r)
  unfolding steps_from by_rule by_merge
  steps_listed k p r (inl (i, j, e)) =
      let w = (rule_step_iff rules p i j r).0 e in
      let indices : List ℕ = numbers 0 (length p.atoms) in (
        record { step = record { kind = 1; parent = k; atom = i; other = j }; query = r },
        Memᴰ.append_left (flat_map (λ i. flat_map (by_merge k p i) indices) indices)
            (flat_map_of (λ i. flat_map (by_rule rules k p i) (numbers 0 (length rules)))
            ((numbers_iff (length p.atoms) i).1 (at_lt p.atoms i w.4))
            (flat_map_of (by_rule rules k p i) ((numbers_iff (length rules) j).1 (at_lt rules j w.3))
            (found_stepped record { kind = 1; parent = k; atom = i; other = j } (rule_step rules p i j) e))),
        refl,
      )
  steps_listed k p r (inr (i, j, e)) =
      let w = (merge_step_iff p i j r).0 e in
      let indices : List ℕ = numbers 0 (length p.atoms) in (
        record { step = record { kind = 2; parent = k; atom = i; other = j }; query = r },
        Memᴰ.append_right (flat_map (λ i. flat_map (by_rule rules k p i) (numbers 0 (length rules))) indices)
            (flat_map_of (λ i. flat_map (by_merge k p i) indices)
            ((numbers_iff (length p.atoms) i).1 (at_lt p.atoms i w.4))
            (flat_map_of (by_merge k p i) ((numbers_iff (length p.atoms) j).1 (at_lt p.atoms j w.5))
            (found_stepped record { kind = 2; parent = k; atom = i; other = j } (merge_step p i j) e))),
        refl,
      )

  -- ---- the union when so many members have been taken

  pub with_steps_extends : (k : ℕ) (o : Option Member) (u : UCQ) → Extends u (with_steps_of rules k o u)
  unfolding with_steps_of
  with_steps_extends k none u = extends_refl u
  with_steps_extends k (some m) u = appended_all_extends u (steps_from rules k m.query)

  pub grown_next : (n : ℕ) → Extends (grown rules q n) (grown rules q (suc n))
  unfolding grown
  grown_next n = with_steps_extends n (get_elem? (grown rules q n) n) (grown rules q n)

  pub grown_extends : (n k : ℕ) → n ≤ k → Extends (grown rules q n) (grown rules q k)
  grown_extends n zero l = subst (λ (k : ℕ). Extends (grown rules q n) (grown rules q k)) (omega arith) (extends_refl (grown rules q n))
  grown_extends n (suc k) l =
      elim (eq-or-lt_of_le l) [
        | inl e ↦ subst (λ (k : ℕ). Extends (grown rules q n) (grown rules q k)) e (extends_refl (grown rules q n))
        | inr h ↦ extends_trans (grown rules q n) (grown rules q k) (grown rules q (suc k)) (grown_extends n k (omega arith)) (grown_next k)
      ]

  -- where there is no member n, nothing is left to be taken
  pub grown_ended : (n : ℕ) → length (grown rules q n) ≤ n → grown rules q (suc n) ≡ grown rules q n
  unfolding grown with_steps_of
  grown_ended n l =
      elim (some_or_none (get_elem? (grown rules q n) n)) [
        | inl w ↦ (let h : n < length (grown rules q n) = at_lt (grown rules q n) n w.1 in absurd (omega arith))
        | inr e ↦ ap (λ (o : Option Member). with_steps_of rules n o (grown rules q n)) e
      ]

  pub grown_same : (n k : ℕ) → n ≤ k → length (grown rules q n) ≤ n → grown rules q k ≡ grown rules q n
  grown_same n zero l h = ap (grown rules q) (omega arith)
  grown_same n (suc k) l h =
      elim (eq-or-lt_of_le l) [
        | inl e ↦ ap (grown rules q) (sym e)
        | inr g ↦
            (let e : grown rules q k ≡ grown rules q n = grown_same n k (omega arith) h in
            let d : length (grown rules q k) ≡ length (grown rules q n) = ap length e in
            grown_ended k (omega arith) ∙ e)
      ]

  kept_first : Kept (record { step = no_step; query = q } ∷ [])
  kept_first = record {
    first = refl;
    own_step = λ j m l e. none_later j l e;
    unlike = λ i j m n l e f a. (let h = at_lt (record { step = no_step; query = q } ∷ []) j f in omega arith);
  }
    where
      none_later : (j : ℕ) {m : Member} → 0 < j → At (record { step = no_step; query = q } ∷ []) j m
          → Yields rules (record { step = no_step; query = q } ∷ []) j m.step m.query
      none_later j l e = let h = at_lt (record { step = no_step; query = q } ∷ []) j e in absurd (omega arith)

  with_steps_kept : (k : ℕ) (o : Option Member) (u : UCQ) → get_elem? u k ≡ o → Kept u → Kept (with_steps_of rules k o u)
  unfolding with_steps_of
  with_steps_kept k none u e kept = kept
  with_steps_kept k (some m) u e kept = appended_all_kept u (steps_from rules k m.query) kept (steps_fit u k m e)

  pub grown_kept : (n : ℕ) → Kept (grown rules q n)
  unfolding grown
  grown_kept zero = kept_first
  grown_kept (suc n) = with_steps_kept n (get_elem? (grown rules q n) n) (grown rules q n) refl (grown_kept n)

  -- where the members end before k, none of those taken is member k
  past_taken : (n k : ℕ) (m : Member) → length (grown rules q n) ≤ k → k < suc n → At (grown rules q (suc n)) k m → ⊥
  past_taken n k m past l e =
      let d : grown rules q (suc n) ≡ grown rules q n = grown_ended n (omega arith) in
      let h : k < length (grown rules q n) = at_lt (grown rules q n) k (subst (λ (u : UCQ). At u k m) d e) in
      omega arith

  -- what a step of member k leads to is alike to a member once k has been taken
  with_steps_taken : (k : ℕ) (o : Option Member) (u : UCQ) (m : Member) (r : Query) → o ≡ some m → StepTo rules m.query r
      → AlikeIn r (with_steps_of rules k o u)
  unfolding with_steps_of
  with_steps_taken k none u m r e s = absurd (none≢some e)
  with_steps_taken k (some p) u m r e s =
      let w = steps_listed k p.query r (subst (λ (x : Member). StepTo rules x.query r) (sym (some_inj e)) s) in
      subst (λ (x : Query). AlikeIn x (appended_all u (steps_from rules k p.query))) w.2
      (appended_all_covers u (steps_from rules k p.query) w.1)

  pub grown_taken : (n k : ℕ) (m : Member) (r : Query) → k < n → At (grown rules q n) k m → StepTo rules m.query r
      → AlikeIn r (grown rules q n)
  unfolding grown
  grown_taken zero k m r l e s = absurd (omega arith)
  grown_taken (suc n) k m r l e s =
      elim (at_or_past (grown rules q n) k) [
        | inr past ↦ absurd (past_taken n k m past l e)
        | inl w ↦ elim (dec_lt k n) [
          | yes h ↦ alike_extends r (grown rules q n) (grown rules q (suc n)) (grown_next n)
              (grown_taken n k m r h (w.1 ∙ ap some (same w)) s)
          | no f ↦ (let d : k ≡ n = omega arith in
              with_steps_taken n (get_elem? (grown rules q n) n) (grown rules q n) m r
              (ap (get_elem? (grown rules q n)) (sym d) ∙ w.1 ∙ ap some (same w)) s)
        ]
      ]
    where
      same : (w : (x : Member) × At (grown rules q n) k x) → w.0 ≡ m
      same w = at_unique (grown rules q (suc n)) k (extends_at (grown rules q n) (grown rules q (suc n)) (grown_next n) k w.1) e
