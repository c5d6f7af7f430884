-- The steps behind a tuple (02, T-06): how many there are, that there is one such list at most, that an accepted union has one, and that
-- following it from the question forward arrives at every member as read.
use Rattle.std.specs.Prelude.{◌≡◌, refl, ℕ, zero, suc, ◌≤◌, ◌<◌, length, drop}
use Rattle.std.proofs.Common.{sym, ap₂, ◌∙◌, inl, inr, zero-le, eq-or-lt_of_le, le_refl, arith}
use Rattle.std.proofs.Math.Path.{ap, subst}
use Rattle.std.proofs.Math.Option.{some}
use mathlib.Core.List.Memᴰ
use mathlib.Core.List.{List, [], ◌∷◌, ◌++◌, map}
use Rattle.std.proofs.Math.ListN.{get_elem?}
use Rattle.theory.specs.Lists.{◌∈◌, At, Unrepeated, without}
use Rattle.theory.specs.Syntax.{Term, var, const, Atom, Rule, Query, Step, Member, UCQ, Fact, terms, map_atom, rename, same_atom}
use Rattle.theory.specs.Chase.{FirstReader}
use Rattle.theory.specs.Rewriting.{rule_step, merge_step}
use Rattle.theory.specs.Union.{Accepted, Yields, no_step}
use Rattle.theory.specs.Targets.{places, target_at, Targets, Smallest}
use Rattle.theory.specs.Explaining.{ExplainedStep, Lowest, PlaceOf, WayBack, Explains, step_from, in_order_of, renamed_as}
use Rattle.theory.specs.Explaining.{replay_step, replay, Replays}
use Rattle.theory.specs.Laws.Options.{three_ways, some_inj, none≢some, and_then_at}
use Rattle.theory.specs.Laws.Lists.{here, map_agree, mem_without, without_mem, without_unrepeated, only_same, map_unrepeated, at_mem}
use Rattle.theory.specs.Laws.Lists.{at_equal, at_unique}
use Rattle.theory.proofs.Laws.Syntax.{same_atom_iff, map_atom_agree, terms_atoms, terms_answers}
use Rattle.theory.proofs.Laws.Equivalence.{image_injective}
use Rattle.theory.proofs.Laws.StepShape.{step_distinct}
use Rattle.theory.proofs.Laws.WrittenStep.{kind_iff, yields_step, yields_unique}
use Rattle.theory.proofs.Laws.Targets.{smallest_unique}
use Rattle.theory.proofs.Laws.SmallestFound.{smallest_found}
use Rattle.theory.specs.Laws.Explaining.{Behind}

-- ---- how many there are

-- as many as there are places in the list
pub way_behind : (rules : List Rule) (union : UCQ) (k : ℕ) (steps : List ExplainedStep) → WayBack rules union k steps
    → Behind union (length steps) k
way_behind rules union k [] w = w
way_behind rules union k (e ∷ es) (pos, place, rest) = (
  pos,
  place.reached,
  place.there,
  subst (λ (s : Step). Behind union (length es) s.parent) place.written
      (way_behind rules union e.step.parent es rest),
)

-- no two numbers of them
pub behind_unique : (union : UCQ) (c d k : ℕ) → Behind union c k → Behind union d k → c ≡ d
behind_unique union zero zero k b b' = refl
behind_unique union zero (suc d) k b b' = let l = b'.0 in absurd (omega arith)
behind_unique union (suc c) zero k b b' = let l = b.0 in absurd (omega arith)
behind_unique union (suc c) (suc d) k (l, m, at, b) (l', m', at', b') =
    ap suc (behind_unique union c d m.step.parent b
    (subst (λ (n : Member). Behind union d n.step.parent) (at_unique union k at' at) b'))

-- at most as many as the number of the member: a parent is an earlier one
pub way_short : (rules : List Rule) (union : UCQ) (k : ℕ) (steps : List ExplainedStep) → WayBack rules union k steps → length steps ≤ k
way_short rules union k [] w = zero-le
way_short rules union k (e ∷ es) (pos, place, rest) =
    let before : place.reached.step.parent < k = place.made.0 in
    let same : e.step.parent ≡ place.reached.step.parent = ap (λ (s : Step). s.parent) place.written in
    let fewer : length es ≤ e.step.parent = way_short rules union e.step.parent es rest in
    omega arith

-- ---- there is one at most

-- the place of a member is fixed by the union
place_unique : (rules : List Rule) (union : UCQ) (k : ℕ) (e e' : ExplainedStep) → PlaceOf rules union k e → PlaceOf rules union k e'
    → e ≡ e'
place_unique rules union k e e' p p' =
    let same : p'.reached ≡ p.reached = at_unique union k p'.there p.there in
    let made : Yields rules union k p.reached.step p'.result =
    subst (λ (m : Member). Yields rules union k m.step p'.result) same p'.made in
    let result : p'.result ≡ p.result = yields_unique rules union k p.reached.step made p.made in
    let renamed : Smallest p.result p.reached.query e'.targets =
    subst (λ r. Smallest r p.reached.query e'.targets) result
    (subst (λ (m : Member). Smallest p'.result m.query e'.targets) same p'.renamed) in
    agree (p.number_is ∙ sym p'.number_is) (p.written ∙ sym (ap (λ (m : Member). m.step) same) ∙ sym p'.written)
    (smallest_unique p.result p.reached.query e.targets e'.targets p.renamed renamed)
  where
    agree : e.member ≡ e'.member → e.step ≡ e'.step → e.targets ≡ e'.targets → e ≡ e'
    agree a b c i = record { member = a i; step = b i; targets = c i }

-- so the way back from a member is fixed by the union
pub way_unique : (rules : List Rule) (union : UCQ) (k : ℕ) (steps steps' : List ExplainedStep) → WayBack rules union k steps
    → WayBack rules union k steps' → steps ≡ steps'
way_unique rules union k [] [] w w' = refl
way_unique rules union k [] (e' ∷ es') w w' = let l = w'.0 in absurd (omega arith)
way_unique rules union k (e ∷ es) [] w w' = let l = w.0 in absurd (omega arith)
way_unique rules union k (e ∷ es) (e' ∷ es') (l, p, w) (l', p', w') =
    let same : e' ≡ e = place_unique rules union k e' e p' p in
    ap₂ ◌∷◌ (sym same) (way_unique rules union e.step.parent es es' w
    (subst (λ (o : ExplainedStep). WayBack rules union o.step.parent es') same w'))

-- one member at most is the lowest that yields a tuple
pub lowest_unique : (facts : List Fact) (union : UCQ) (tuple : List ℕ) (k k' : ℕ) → Lowest facts union tuple k → Lowest facts union tuple k'
    → k ≡ k'
lowest_unique facts union tuple k k' l l' = elim (three_ways k k') [
  | inl h ↦ absurd (l'.lower k l.lowest h l.there l.yields)
  | inr (inl e) ↦ e
  | inr (inr h) ↦ absurd (l.lower k' l'.lowest h l'.there l'.yields)
]

-- the steps behind a tuple are fixed by the sheets
pub explains_unique : (rules : List Rule) (facts : List Fact) (union : UCQ) (tuple : List ℕ) (steps steps' : List ExplainedStep)
    → Explains rules facts union tuple steps → Explains rules facts union tuple steps' → steps ≡ steps'
explains_unique rules facts union tuple steps steps' x x' =
    way_unique rules union x.from steps steps' x.way
    (subst (λ k. WayBack rules union k steps') (lowest_unique facts union tuple x'.from x.from x'.lowest x.lowest) x'.way)

-- what is explained, the first reader finds
pub explains_found : (rules : List Rule) (facts : List Fact) (union : UCQ) (tuple : List ℕ) (steps : List ExplainedStep)
    → Explains rules facts union tuple steps → FirstReader union facts tuple
explains_found rules facts union tuple steps x =
    let l = x.lowest in (l.yields.0, (l.lowest, at_mem union x.from l.there, l.yields.1))

-- ---- an accepted union has one for every member

module _ (rules : List Rule) (q : Query) (union : UCQ) (accepted : Accepted rules q union)
    (low : (k : ℕ) (m : Member) (r : Query) → At union k m → Yields rules union k m.step r → (v : ℕ) → var v ∈ terms r → v < places)
  where
    -- parents are earlier, so a limit above k is enough
    way_below : (limit k : ℕ) (m : Member) → k < limit → At union k m → (steps : List ExplainedStep) × WayBack rules union k steps
    way_below zero k m l at = absurd (omega arith)
    way_below (suc limit) k m l at = elim (eq-or-lt_of_le {n = 0} {m = k} zero-le) [
      | inl e ↦ ([], sym e)
      | inr pos ↦ (let (r, y, alike) = accepted.later k m pos at in
          let before : m.step.parent < k = y.0 in
          let (targets, smallest) = smallest_found r m.query (low k m r at y) alike in
          let (es, way) = way_below limit m.step.parent y.1 (omega arith) y.2 in
          let e : ExplainedStep = record { member = k; step = m.step; targets = targets } in (
            e ∷ es,
            (
              pos,
              record { reached = m; result = r; there = at; number_is = refl; written = refl; made = y; renamed = smallest },
              way,
            ),
          ))
    ]

    -- the way back from each member
    pub way_exists : (k : ℕ) (m : Member) → At union k m → (steps : List ExplainedStep) × WayBack rules union k steps
    way_exists k m at = way_below (suc k) k m (le_refl (suc k)) at

-- ---- followed from the question forward

-- two lists without repeats that have the same elements: the one in the order of the other is the other
in_order : (order atoms : List (Atom Term)) → Unrepeated order → Unrepeated atoms → ((a : Atom Term) → a ∈ order → a ∈ atoms)
    → ((a : Atom Term) → a ∈ atoms → a ∈ order) → in_order_of order atoms ≡ order
unfolding in_order_of
in_order [] [] u u' forth back = refl
in_order [] (b ∷ atoms) u u' forth back = absurd (Memᴰ.not-nil (back b here))
in_order (a ∷ order) atoms u u' forth back =
    ap₂ ◌++◌ (only_same same_atom same_atom_iff a atoms u' (forth a here))
    (in_order order (without (same_atom a) atoms) u.1 (without_unrepeated (same_atom a) atoms u')
    (λ b m. without_mem (same_atom a) (forth b (Memᴰ.tail m)) (λ t. u.0 (Memᴰ.cast ((same_atom_iff a b).0 t) m)))
    (λ b m. let (n, f) = mem_without (same_atom a) atoms m in
    elim (Memᴰ.cases_cons (back b n)) [ inl e ↦ absurd (f ((same_atom_iff a b).1 (sym e))) | inr k ↦ k ]))

-- a renaming of terms goes by their variables
rename_agree : (f g : ℕ → ℕ) (t : Term) → ((v : ℕ) → t ≡ var v → f v ≡ g v) → rename f t ≡ rename g t
rename_agree f g (var v) h = ap var (h v refl)
rename_agree f g (const c) h = refl

-- a result renamed by the targets, in its member's order, is the member
module _ (r q : Query) (targets : List ℕ) (fits : Targets r q targets) (once : Unrepeated r.atoms) (once' : Unrepeated q.atoms)
  where
    to_agrees : (t : Term) → t ∈ terms r → rename (target_at targets) t ≡ rename fits.renaming.to t
    to_agrees t m = rename_agree (target_at targets) fits.renaming.to t (λ v e. fits.sent v (Memᴰ.cast (sym e) m))

    renamed_atoms : map (map_atom (rename (target_at targets))) r.atoms ≡ map (map_atom (rename fits.renaming.to)) r.atoms
    renamed_atoms = map_agree _ _ r.atoms (λ a m. map_atom_agree _ _ a (λ t n. to_agrees t (terms_atoms r m n)))

    renamed_is : renamed_as (target_at targets) r q ≡ q
    renamed_is =
        let to : Atom Term → Atom Term = map_atom (rename fits.renaming.to) in
        agree
        (map_agree _ _ r.answers (λ t m. to_agrees t (terms_answers r m)) ∙ fits.renaming.on_answers)
        (ap (in_order_of q.atoms) renamed_atoms
        ∙ in_order q.atoms (map to r.atoms) once'
        (map_unrepeated to r.atoms (image_injective r q fits.renaming) once)
        (λ b m. let (a, n, e) = fits.renaming.onto b m in Memᴰ.cast (sym e) (Memᴰ.map to n))
        (λ b m. let (a, n, e) = Memᴰ.of_map to r.atoms m in Memᴰ.cast (sym e) (fits.renaming.into a n)))
      where
        agree : {p p' : Query} → p.answers ≡ p'.answers → p.atoms ≡ p'.atoms → p ≡ p'
        agree a b i = record { answers = a i; atoms = b i }

module _ (rules : List Rule) (union : UCQ) where
  -- what a written step yields is what it makes of its parent, and has no atom twice
  yields_from : (k : ℕ) (s : Step) (p : Member) {r : Query} → At union s.parent p → Yields rules union k s r
      → (step_from rules p.query s ≡ some r) × Unrepeated r.atoms
  yields_from k s p {r} at (before, p', at', made) =
      let same : p' ≡ p = at_unique union s.parent at' at in (
        subst (λ (o : Member). step_from rules o.query s ≡ some r) same
            ((kind_iff s.kind (rule_step rules p'.query s.atom s.other) (merge_step p'.query s.atom s.other) r).1 made),
        step_distinct rules p'.query r (yields_step rules union k s (before, p', at', made)),
      )

  module _ (q : Query) (first : At union 0 (record { step = no_step; query = q }))
      (distinct : (m : Member) → m ∈ union → Unrepeated m.query.atoms) where
    -- a place followed from its parent as read leads to its member as read
    replays_place : (k : ℕ) (e : ExplainedStep) (place : PlaceOf rules union k e) (p : Member) → At union e.step.parent p
        → replay_step rules union e p.query ≡ some place.reached.query
    unfolding replay_step
    replays_place k e place p at =
        let m : Member = place.reached in
        let r : Query = place.result in
        let (made, once) = yields_from k e.step p at (subst (λ s. Yields rules union k s r) (sym place.written) place.made) in
        and_then_at _ made ∙ and_then_at _ (ap (get_elem? union) place.number_is ∙ place.there)
        ∙ ap some (renamed_is r m.query e.targets place.renamed.fits once (distinct m (at_mem union k place.there)))

    -- so the list, followed from the question, arrives at the member that it starts from
    pub replay_arrives : (k : ℕ) (m : Member) (steps : List ExplainedStep) → WayBack rules union k steps → At union k m
        → replay rules union q steps ≡ some m.query
    unfolding replay
    replay_arrives k m [] w at = ap (λ (o : Member). some o.query) (at_equal union (sym w) first at)
    replay_arrives k m (e ∷ es) (pos, place, way) at =
        let (before, p, atp, made) = place.made in
        let atp' : At union e.step.parent p = subst (λ (s : Step). At union s.parent p) (sym place.written) atp in
        and_then_at (replay_step rules union e) (replay_arrives e.step.parent p es way atp')
        ∙ replays_place k e place p atp' ∙ ap (λ (o : Member). some o.query) (at_unique union k place.there at)

    -- and so it does at every place of it
    replay_each : (k : ℕ) (steps : List ExplainedStep) → WayBack rules union k steps → (i : ℕ) (e : ExplainedStep) → At steps i e
        → (m : Member) × At union e.member m × (replay rules union q (drop i steps) ≡ some m.query)
    replay_each k [] w i e at = absurd (none≢some at)
    replay_each k (e' ∷ es) (pos, place, way) zero e at =
        let same : k ≡ e.member = sym place.number_is ∙ ap (λ (o : ExplainedStep). o.member) (some_inj at) in (
          place.reached,
          subst (λ j. At union j place.reached) same place.there,
          replay_arrives k place.reached (e' ∷ es) (pos, place, way) place.there,
        )
    replay_each k (e' ∷ es) (pos, place, way) (suc i) e at = replay_each e'.step.parent es way i e at

    -- the steps behind a tuple replay
    pub replays : (facts : List Fact) (tuple : List ℕ) (steps : List ExplainedStep) → Explains rules facts union tuple steps
        → Replays rules facts union q tuple steps
    replays facts tuple steps x = record {
      at_each = replay_each x.from steps x.way;
      arrives =
          (x.lowest.lowest.query, replay_arrives x.from x.lowest.lowest steps x.way x.lowest.there, x.lowest.yields);
    }
