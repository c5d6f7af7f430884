-- 02, T-02: what the written union means. "The written union is one the desk accepts, and 15 comes only where its condition truly holds."
-- And it is the only one there is: any two accepted unions for the same rules and question have, up to names, the same members.
use Rattle.std.specs.Prelude.{◌≡◌, refl, ◌↔◌, ℕ, zero, suc, ◌≤◌, ◌<◌, List, map}
use Rattle.std.proofs.Common.{sym, ap, subst, le_antisymm, arith}
use Rattle.std.proofs.Math.Decide.{ℕ_discrete, dec_lt}
use mathlib.Core.List.Memᴰ
use Rattle.std.proofs.Math.ListN.{length}
use Rattle.std.proofs.lemmas.List.{length-map}
use Rattle.theory.specs.Lists.{◌∈◌, At, Unrepeated}
use Rattle.theory.specs.Syntax.{Rule, Query, Member, UCQ}
use Rattle.theory.specs.Rewriting.{StepTo}
use Rattle.theory.specs.Renaming.{Alike}
use Rattle.theory.specs.Union.{Accepted, no_step}
use Rattle.theory.specs.Writing.{written_union, ReachedIn, Reached, MoreThan}
use Rattle.theory.specs.Laws.Lists.{at_mem, mem_at, at_lt, at_equal, map_at}
use Rattle.theory.proofs.Laws.Pigeonhole.{no_longer}
use Rattle.theory.proofs.Laws.Equivalence.{alike_refl, alike_sym, alike_trans}
use Rattle.theory.proofs.Laws.Respect.{steps_respect}
use Rattle.theory.proofs.Laws.StepShape.{step_distinct}
use Rattle.theory.proofs.Laws.WrittenStep.{yields_step}
use Rattle.theory.specs.Laws.WritingGrows.{AlikeIn}
use Rattle.theory.proofs.Laws.WritingGrows.{Kept, grown_kept, grown_taken}

-- ---- what is reached

module _ (rules : List Rule) (q : Query) where
  -- what every step keeps, all that is reached has
  pub reached_keeps : (P : Query → Type 0) → ((p r : Query) → P p → StepTo rules p r → P r) → P q → (n : ℕ) (r : Query)
      → ReachedIn rules q n r → P r
  reached_keeps P keeps start zero r e = subst P (sym e) start
  reached_keeps P keeps start (suc n) r w = keeps w.0 r (reached_keeps P keeps start n w.0 w.1) w.2

  pub reached_distinct : Unrepeated q.atoms → (r : Query) → Reached rules q r → Unrepeated r.atoms
  reached_distinct u r w = reached_keeps (λ r. Unrepeated r.atoms) (λ p r h s. step_distinct rules p r s) u w.0 r w.1

  pub reached_further : (p r : Query) → Reached rules q p → StepTo rules p r → Reached rules q r
  reached_further p r w s = (suc w.0, (p, w.1, s))

  -- ---- the members of an accepted union are, up to names, all that is reached and nothing else

  module _ (u : UCQ) (ok : Accepted rules q u) (distinct : (m : Member) → m ∈ u → Unrepeated m.query.atoms) where
    start_distinct : Unrepeated q.atoms
    start_distinct = distinct (record { step = no_step; query = q }) (at_mem u 0 ok.first)

    pub reached_member : (n : ℕ) (r : Query) → ReachedIn rules q n r → AlikeIn r u
    reached_member zero r e = (
      record { step = no_step; query = q },
      at_mem u 0 ok.first,
      subst (λ x. Alike x q) (sym e) (alike_refl q),
    )
    reached_member (suc n) r (p, w, s) =
        let m = reached_member n p w in
        let t = steps_respect rules p m.0.query (reached_distinct start_distinct p (n, w)) (distinct m.0 m.1) m.2 r s in
        let o = ok.closed m.0 t.0 m.1 t.1 in
        (o.0, o.1, alike_trans r t.0 o.0.query t.2 o.2)

    -- of the members below b, by their number
    member_reached_below : (b k : ℕ) (m : Member) → k < b → At u k m → (r : Query) × Reached rules q r × Alike r m.query
    member_reached_below zero k m l e = absurd (omega arith)
    member_reached_below (suc b) k m l e =
        elim (ℕ_discrete k 0) [
          | yes d ↦ (q, (0, refl), subst (λ (x : Member). Alike q x.query) (at_equal u (sym d) ok.first e) (alike_refl q))
          | no f ↦
              (let y = ok.later k m (omega arith) e in
              let h : m.step.parent < k = y.1.0 in
              let p : Member = y.1.1 in
              let x = member_reached_below b m.step.parent p (omega arith) y.1.2 in
              let t = steps_respect rules p.query x.0 (distinct p (at_mem u m.step.parent y.1.2))
              (reached_distinct start_distinct x.0 x.1) (alike_sym x.0 p.query x.2) y.0
              (yields_step rules u k m.step y.1) in (
                t.0,
                reached_further x.0 t.0 x.1 t.1,
                alike_trans t.0 y.0 m.query (alike_sym y.0 t.0 t.2) y.2,
              ))
        ]

    pub member_reached : (m : Member) → m ∈ u → (r : Query) × Reached rules q r × Alike r m.query
    member_reached m n = let w = mem_at n in member_reached_below (suc w.0) w.0 m (omega arith) w.1

  -- "any two sound accepted unions [..] for the same rules and question have equally many members, each alike to one of the other"
  module _ (u v : UCQ) (oku : Accepted rules q u) (okv : Accepted rules q v)
      (du : (m : Member) → m ∈ u → Unrepeated m.query.atoms) (dv : (m : Member) → m ∈ v → Unrepeated m.query.atoms) where
    pub each_in_other : (m : Member) → m ∈ u → AlikeIn m.query v
    each_in_other m n =
        let r = member_reached u oku du m n in
        let w = reached_member v okv dv r.1.0 r.0 r.1.1 in
        (w.0, w.1, alike_trans m.query r.0 w.0.query (alike_sym r.0 m.query r.2) w.2)

    pub no_more : length u ≤ length v
    no_more =
        no_longer (λ (m n : Member). Alike m.query n.query) u v each_in_other
        (λ i j m n o l e f a b. oku.unlike i j m n l e f (alike_trans m.query o.query n.query a
        (alike_sym n.query o.query b)))

  pub equally_many : (u v : UCQ) → Accepted rules q u → Accepted rules q v → ((m : Member) → m ∈ u → Unrepeated m.query.atoms)
      → ((m : Member) → m ∈ v → Unrepeated m.query.atoms) → length u ≡ length v
  equally_many u v oku okv du dv = le_antisymm (no_more u v oku okv du dv) (no_more v u okv oku dv du)

  -- ---- the written union

  -- its members are reached as they are named
  kept_reached : (u : UCQ) → Kept rules q u → (b k : ℕ) (m : Member) → k < b → At u k m → Reached rules q m.query
  kept_reached u kept zero k m l e = absurd (omega arith)
  kept_reached u kept (suc b) k m l e =
      elim (ℕ_discrete k 0) [
        | yes d ↦ (0, ap (λ (x : Member). x.query) (at_equal u d e kept.first))
        | no f ↦
            (let y = kept.own_step k m (omega arith) e in
            let h : m.step.parent < k = y.0 in
            reached_further y.1.query m.query (kept_reached u kept b m.step.parent y.1 (omega arith) y.2)
            (yields_step rules u k m.step y))
      ]

  module _ (most : ℕ) where
    abbrev union : UCQ
    union = written_union most rules q

    pub written_kept : Kept rules q union
    unfolding written_union
    written_kept = grown_kept rules q most

    pub written_reached : (m : Member) → m ∈ union → Reached rules q m.query
    written_reached m n = let w = mem_at n in kept_reached union written_kept (suc w.0) w.0 m (omega arith) w.1

    -- "The written union is one the desk accepts": in demand 2's words
    pub written_accepted : length union ≤ most → Accepted rules q union
    unfolding written_union
    written_accepted few = record {
      first = written_kept.first;
      later = λ k m l e. (m.query, written_kept.own_step k m l e, alike_refl m.query);
      unlike = written_kept.unlike;
      closed = λ m r n s.
          (let w = mem_at n in
          let h : w.0 < length union = at_lt union w.0 w.1 in
          grown_taken rules q most w.0 m r (omega arith) w.1 s);
    }

    -- "15 comes only where its condition truly holds", and wherever it does
    abbrev questions : List Query
    questions = map (λ (m : Member). m.query) union

    question_at : (i : ℕ) (r : Query) → At questions i r → (m : Member) × At union i m × (m.query ≡ r)
    question_at = map_at (λ (m : Member). m.query) union

    pub more_than : most < length union → MoreThan most rules q
    more_than l = (
      questions,
      let e : length questions ≡ length union = length-map union (λ (m : Member). m.query) in omega arith,
      λ i j p r h e f a.
          (let m = question_at i p e in
          let n = question_at j r f in
          written_kept.unlike i j m.0 n.0 h m.1 n.1
          (subst (λ x. Alike x n.0.query) (sym m.2) (subst (Alike p) (sym n.2) a))),
      λ r n. (let (m, k, e) = Memᴰ.of_map (λ (m : Member). m.query) union n in subst (Reached rules q) e (written_reached m k)),
    )

    pub not_more_than : Unrepeated q.atoms → length union ≤ most → ¬ MoreThan most rules q
    not_more_than distinct few (qs, l, unlike, reached) =
        let ok = written_accepted few in
        let du : (m : Member) → m ∈ union → Unrepeated m.query.atoms =
        λ m n. reached_distinct distinct m.query (written_reached m n) in
        let h : length qs ≤ length union =
        no_longer (λ (r : Query) (m : Member). Alike r m.query) qs union
        (λ r n. reached_member union ok du (reached r n).0 r (reached r n).1)
        (λ i j p r m k e f a b. unlike i j p r k e f (alike_trans p m.query r a (alike_sym r m.query b))) in
        omega arith

    pub more_than_iff : Unrepeated q.atoms → (most < length union) ↔ MoreThan most rules q
    more_than_iff distinct = (
      more_than,
      λ w. elim (dec_lt most (length union)) [ yes l ↦ l | no f ↦ absurd (not_more_than distinct (omega arith) w) ],
    )
