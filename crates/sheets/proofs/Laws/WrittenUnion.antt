-- 02, T-02: the union that is written can be packed. Its members are in range, with roles as read, and sound; so its sheet does not meet 6
-- and reads as it.
use Rattle.std.specs.Prelude.{◌≡◌, ℕ, ◌+◌, ◌*◌, ◌≤◌, ◌<◌, T, length}
use Rattle.std.proofs.Common.{sym, ◌∙◌, subst, inl, inr, arith, length-append}
use Rattle.std.proofs.Math.Path.{ap}
use Rattle.std.proofs.Math.Decide.{ℕ_discrete}
use mathlib.Core.List.Memᴰ
use mathlib.Core.List.{List, [], ◌∷◌, map, map-id, flat_map}
use Rattle.theory.specs.Lists.{◌∈◌, At}
use Rattle.theory.specs.Syntax.{Rule, Query, Member, UCQ}
use Rattle.theory.specs.Union.{SoundQuery}
use Rattle.theory.specs.Writing.{written_union}
use Rattle.theory.specs.Laws.Lists.{here, map_agree, at_mem, mem_at, at_lt, at_equal}
use Rattle.theory.proofs.Laws.Steps.{rule_step_iff, merge_step_iff}
use Rattle.theory.proofs.Laws.StepShape.{step_sound}
use Rattle.theory.proofs.Laws.Writing.{reached_keeps, written_kept, written_reached}
use Rattle.words.specs.Limits.{sheet_width, most_members, step_bytes, most_question_bytes, most_union_bytes}
use Rattle.sheets.specs.Partners.{query_as_read, member_as_read}
use Rattle.sheets.specs.Reading.{union_as_read}
use Rattle.sheets.specs.Tests.{refuses6}
use Rattle.sheets.specs.Packing.{pack_member, pack_union, All, RulesInRange, QueryInRange, StepInRange, MemberInRange}
use Rattle.sheets.specs.Packing.{UnionInRange, WholeBytes}
use Rattle.sheets.proofs.Laws.QuestionRefusals.{refuses4_iff, refuses5_iff}
use Rattle.sheets.proofs.Laws.PackingBytes.{length_number}
use Rattle.sheets.proofs.Laws.PackingSheets.{whole_sheet}
use Rattle.sheets.proofs.Laws.PackingQueries.{length_question}
use Rattle.sheets.proofs.Laws.PackingUnions.{length_member, packed_union_read, Passes, packed_union_passes}
use Rattle.sheets.proofs.Laws.StepsInRange.{AtomStands, RuleStands, step_in_range, step_as_read, query_as_read_lem, member_as_read_lem}

-- ---- how long a union's sheet can be

members_length : (ms : UCQ) → All (MemberInRange sheet_width) ms → length (flat_map (pack_member sheet_width) ms)
    ≤ (step_bytes + most_question_bytes sheet_width) * length ms
unfolding flat_map
members_length [] h = omega arith
members_length (m ∷ ms) h =
    let q = (h m here).1 in
    let terms = q.few_answers in
    let atoms = q.few_atoms in
    omega (
      arith,
      length-append (pack_member sheet_width m) (flat_map (pack_member sheet_width) ms),
      length_member sheet_width whole_sheet m,
      length_question sheet_width whole_sheet m.query,
      members_length ms (λ n i. h n (Memᴰ.tail i)),
    )

pub packed_union_length : (union : UCQ) → UnionInRange sheet_width union
    → length (pack_union sheet_width union) ≤ most_union_bytes sheet_width
unfolding pack_union
packed_union_length union h =
    let few = h.1 in
    omega (arith, length_number 2 (length union) (flat_map (pack_member sheet_width) union), members_length union h.2)

module _ (partners : List ℕ) (w : ℕ) (rules : List Rule) (q : Query) (rules_in_lem : RulesInRange rules)
    (rules_stand : All (RuleStands partners) rules) (question_in : QueryInRange w q)
    (question_stands : All (AtomStands partners) q.atoms)
    (question-sound : SoundQuery (length q.answers) q) where
  abbrev union : UCQ
  union = written_union most_members rules q

  -- ---- each member

  module _ (m : Member) (n : m ∈ union) where
    pub written_in_lem : QueryInRange w m.query
    written_in_lem =
        let r = written_reached rules q most_members m n in
        reached_keeps rules q (QueryInRange w) (λ p r h s. step_in_range w rules p r rules_in_lem h s) question_in r.0 m.query r.1

    pub written_stands : All (AtomStands partners) m.query.atoms
    written_stands =
        let r = written_reached rules q most_members m n in
        reached_keeps rules q (λ p. All (AtomStands partners) p.atoms) (λ p r h s. step_as_read partners rules p r rules_stand h s)
        question_stands r.0 m.query r.1

    pub written_sound : SoundQuery (length q.answers) m.query
    written_sound =
        let r = written_reached rules q most_members m n in
        reached_keeps rules q (SoundQuery (length q.answers)) (λ p r h s. step_sound rules p r (length q.answers) h s)
        question-sound r.0 m.query r.1

    written_passes : (whole : WholeBytes w) → Passes w whole partners (length q.answers) m
    written_passes whole =
        let e : query_as_read partners m.query ≡ m.query = query_as_read_lem partners m.query written_stands in (
          rw e (λ t. let w = (refuses4_iff m.query).0 t in w.2 (written_sound.safe w.0 w.1)),
          rw e (λ t. (refuses5_iff m.query).0 t written_sound.distinct),
          written_sound.arity_is,
        )

  -- the step beside member k
  step_in : length union ≤ most_members → (k : ℕ) (m : Member) → At union k m → StepInRange m.step
  step_in few k m e =
      elim (ℕ_discrete k 0) [
        | yes d ↦ subst (λ (x : Member). StepInRange x.step) (at_equal union (sym d) (written_kept rules q most_members).first e)
            (omega arith, omega arith, omega arith, omega arith)
        | no f ↦
            (let y = (written_kept rules q most_members).own_step k m (omega arith) e in
            let l : k < length union = at_lt union k e in
            let h : m.step.parent < k = y.0 in
            let p : Member = y.1 in
            let atoms : length p.query.atoms ≤ 8 = (written_in_lem p (at_mem union m.step.parent y.2)).few_atoms in
            let many : length rules ≤ 512 = rules_in_lem.0 in
            elim y.3 [
              | inl (one, s) ↦
                  (let r = (rule_step_iff rules p.query m.step.atom m.step.other m.query).0 s in
                  let a : m.step.atom < length p.query.atoms = at_lt p.query.atoms m.step.atom r.4 in
                  let o : m.step.other < length rules = at_lt rules m.step.other r.3 in
                  (omega arith, omega arith, omega arith, omega arith))
              | inr (two, s) ↦
                  (let r = (merge_step_iff p.query m.step.atom m.step.other m.query).0 s in
                  let a : m.step.atom < length p.query.atoms = at_lt p.query.atoms m.step.atom r.4 in
                  let o : m.step.other < length p.query.atoms = at_lt p.query.atoms m.step.other r.5 in
                  (omega arith, omega arith, omega arith, omega arith))
            ])
      ]

  -- ---- the union

  pub written_in_range : length union ≤ most_members → UnionInRange w union
  written_in_range few = (
    let l = at_lt union 0 (written_kept rules q most_members).first in omega arith,
    few,
    λ m n. (let i = mem_at n in (step_in few i.0 m i.1, written_in_lem m n)),
  )

  module _ (whole : WholeBytes w) (few : length union ≤ most_members) where
    -- "its sheet reads as it"
    pub written_reads : union_as_read partners w (pack_union w union) ≡ union
    unfolding union_as_read
    written_reads =
        ap (map (member_as_read partners)) (packed_union_read w whole union (written_in_range few))
        ∙ map_agree (member_as_read partners) (λ m. m) union (λ m n. member_as_read_lem partners m (written_stands m n)) ∙ map-id union

    pub written_passes6 : ¬ T (refuses6 partners w (length q.answers) (pack_union w union))
    written_passes6 =
        packed_union_passes w whole partners (length q.answers) union (written_in_range few) (λ m n. written_passes m n whole)
