-- Whatever a member finds, the question finds, after as many rounds as there are rule steps behind the member.
use Rattle.std.specs.Prelude.{◌≡◌, eqb}
use Rattle.std.proofs.Common.{sym, ◌∙◌, subst, inl, inr, not-suc-le-zero, eq-or-lt_of_le, le_of_suc-le-suc, arith}
use Rattle.std.proofs.Math.Path.{ap}
use Prim.Native.Nat.{ℕ, suc, ◌+◌, ◌≤◌, ◌<◌, max, zero-le}
use Rattle.std.proofs.Math.Nat.{zero-add}
use mathlib.Core.List.{List, [], ◌∷◌, ◌++◌, foldr}
use Rattle.std.proofs.Math.ListN.{length, get_elem?, get_or, length-append, get_or-append}
use Rattle.std.proofs.Math.Seq.{get_or-append_seam}
use Rattle.theory.specs.Lists.{At, pick}
use Rattle.theory.specs.Syntax.{Rule, Query, Member, UCQ, Fact}
use Rattle.theory.specs.Chase.{Round, Answer, OfSomeMember}
use Rattle.theory.specs.Renaming.{Alike}
use Rattle.theory.specs.Union.{Accepted, Yields, depths_after, depth}
use Rattle.theory.specs.Laws.Options.{T_eqb, pick_true, pick_false}
use Rattle.theory.specs.Laws.Lists.{get_d_max, mem_at, at_lt, at_equal, at_unique}
use Rattle.theory.proofs.Laws.Chase.{alike_answer, answer_later}
use Rattle.theory.proofs.Laws.Soundness.{merge_sound, rule_sound}

-- the number of rule steps behind a member, from the numbers of the members before it
abbrev depth_of : List ℕ → Member → ℕ
depth_of known m = pick (eqb m.step.kind 1) (suc (get_or known m.step.parent 0)) (get_or known m.step.parent 0)

length_depths : (known : List ℕ) (rest : UCQ) → length (depths_after known rest) ≡ length known + length rest
unfolding depths_after
length_depths known [] = omega arith
length_depths known (m ∷ ms) =
    let e = length_depths (known ++ (depth_of known m ∷ [])) ms in
    let f = length-append known (depth_of known m ∷ []) in omega (arith, e, f)

module _ (rules : List Rule) (q : Query) (union : UCQ) (accepted : Accepted rules q union) (facts : List Fact) where
  -- p's answers are the question's, d rounds later
  abbrev Reaches : ℕ → Query → Type 0
  Reaches d p = (tuple : List ℕ) (n m : ℕ) → d + n ≤ m → Answer (Round rules facts n) p tuple → Answer (Round rules facts m) q tuple

  -- so it is for every member whose number of rule steps is known
  abbrev Known : List ℕ → Type 0
  Known known = (j : ℕ) (m : Member) → j < length known → At union j m → Reaches (get_or known j 0) m.query

  reaches_first : (known : List ℕ) (m : Member) → length known ≡ 0 → At union 0 m → Reaches (depth_of known m) m.query
  reaches_first known m e at tuple n k l w =
      answer_later rules facts n k q tuple (omega arith)
      (subst (λ (p : Member). Answer (Round rules facts n) p.query tuple) (at_unique union 0 at accepted.first) w)

  reaches_later : (known : List ℕ) (m : Member) → Known known → 0 < length known → At union (length known) m
      → Reaches (depth_of known m) m.query
  reaches_later known m below pos at tuple n k l w = go (accepted.later (length known) m pos at)
    where
      d : ℕ
      d = get_or known m.step.parent 0

      go : (r : Query) × Yields rules union (length known) m.step r × Alike r m.query → Answer (Round rules facts k) q tuple
      go (r, (before, p, place, made), alike) =
          let found : Answer (Round rules facts n) r tuple = alike_answer (Round rules facts n) r m.query tuple alike w in
          elim made [
            | inl s ↦ below m.step.parent p before place tuple (suc n) k
                (let e : depth_of known m ≡ suc d = pick_true (eqb m.step.kind 1) (suc d) d ((T_eqb m.step.kind 1).1 s.0) in
                omega arith)
                (rule_sound rules facts n p.query r m.step.atom m.step.other tuple s.1 found)
            | inr s ↦ below m.step.parent p before place tuple n k
                (let e : depth_of known m ≡ d = pick_false (eqb m.step.kind 1) (suc d) d (λ t. let f = (T_eqb m.step.kind 1).0 t in
                let g = s.0 in omega arith) in omega arith)
                (merge_sound (Round rules facts n) p.query r m.step.atom m.step.other tuple s.1 found)
          ]

  reaches_next : (known : List ℕ) (m : Member) → Known known → At union (length known) m → Reaches (depth_of known m) m.query
  reaches_next known m below at =
      elim (eq-or-lt_of_le {n = 0} {m = length known} zero-le) [
        | inl e ↦ reaches_first known m (sym e) (subst (λ k. At union k m) (sym e) at)
        | inr l ↦ reaches_later known m below l at
      ]

  known_next : (known : List ℕ) (m : Member) → Known known → At union (length known) m → Known (known ++ (depth_of known m ∷ []))
  known_next known m below at j p l atj =
      elim (eq-or-lt_of_le (le_of_suc-le-suc {n = j} {m = length known} (omega (arith, length-append known (depth_of known m ∷ []))))) [
        | inl e ↦ subst (λ d. Reaches d p.query)
            (sym (ap (λ i. get_or (known ++ (depth_of known m ∷ [])) i 0) e ∙ get_or-append_seam known (depth_of known m) [] 0))
            (subst (λ (n : Member). Reaches (depth_of known m) n.query) (at_equal union (sym e) at atj) (reaches_next known m below at))
        | inr k ↦ subst (λ d. Reaches d p.query) (sym (get_or-append known (depth_of known m ∷ []) 0 j k)) (below j p k atj)
      ]

  -- the members still to come are the rest of the union
  all_known : (known : List ℕ) (rest : UCQ) → ((j : ℕ) → get_elem? union (length known + j) ≡ get_elem? rest j) → Known known
      → Known (depths_after known rest)
  unfolding depths_after
  all_known known [] place below = below
  all_known known (m ∷ ms) place below =
      all_known (known ++ (depth_of known m ∷ [])) ms
      (λ j. ap (get_elem? union) (let f = length-append known (depth_of known m ∷ []) in omega (arith, f)) ∙ place (suc j))
      (known_next known m below (ap (get_elem? union) (omega arith) ∙ place 0))

  -- what a member finds in round 0 the question finds in round `depth union`
  pub first_by_depth : (tuple : List ℕ) → OfSomeMember union facts tuple → Answer (Round rules facts (depth union)) q tuple
  unfolding depth
  first_by_depth tuple w =
      let at = mem_at w.1 in
      let lt : at.0 < length union = at_lt union at.0 at.1 in
      let len : length (depths_after [] union) ≡ length union = length_depths [] union ∙ zero-add (length union) in
      all_known [] union (λ j. ap (get_elem? union) (zero-add j)) (λ j m l. absurd (not-suc-le-zero l)) at.0 w.0
      (omega arith) at.1 tuple 0 (foldr max 0 (depths_after [] union))
      (let h : get_or (depths_after [] union) at.0 0 ≤ foldr max 0 (depths_after [] union) = get_d_max (depths_after [] union) at.0 in
      omega arith)
      w.2
