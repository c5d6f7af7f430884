-- The rules named by the steps behind a tuple suffice for it (02, T-06): the tuple is an answer of the question in some round in which only
-- they conclude.
use Rattle.std.proofs.Common.{sym, ap, ◌∙◌, subst, inl, inr}
use Rattle.std.specs.Prelude.{ℕ, zero, suc, List, [], ◌∷◌}
use mathlib.Core.List.Memᴰ
use Rattle.theory.specs.Lists.{At}
use Rattle.theory.specs.Syntax.{Rule, Query, Step, Member, UCQ, Fact}
use Rattle.theory.specs.LostTags.{Answerable}
use Rattle.theory.specs.Chase.{Held, Answer}
use Rattle.theory.specs.Union.{Accepted, no_step}
use Rattle.theory.specs.Qualified.{WrittenRule, rules_read}
use Rattle.theory.specs.QualifiedChase.{RoundAsWritten, SecondReaderAsWritten}
use Rattle.theory.specs.Explaining.{ExplainedStep, WayBack, Explains}
use Rattle.theory.specs.NamedRules.{RoundBy, RoundAsWrittenBy, Named, NamedAsWritten, Suffice}
use Rattle.theory.specs.Laws.Lists.{here, at_equal, at_unique}
use Rattle.theory.proofs.Laws.Chase.{answer_more, alike_answer}
use Rattle.theory.proofs.Laws.Soundness.{merge_sound, rule_sound_from}
use Rattle.theory.proofs.Laws.NamedRounds.{named_within_written}
use Rattle.theory.proofs.Laws.Qualified.{Apart, answer_in_round_by}

module _ (rules : List Rule) (facts : List Fact) (union : UCQ) (q : Query) (first : At union 0 (record { step = no_step; query = q }))
    (tuple : List ℕ) where
  -- what a member finds the question finds by the rules that the steps from it back name: each rule step takes one round more
  pub named_answer : (only : ℕ → Type 0) (k : ℕ) (m : Member) (steps : List ExplainedStep) → ((i : ℕ) → Named steps i → only i)
      → WayBack rules union k steps → At union k m → (n : ℕ) → Answer (RoundBy only rules facts n) m.query tuple
      → (n' : ℕ) × Answer (RoundBy only rules facts n') q tuple
  named_answer only k m [] may w at n x =
      (n, subst (λ (o : Member). Answer (RoundBy only rules facts n) o.query tuple) (at_equal union w at first) x)
  named_answer only k m (e ∷ es) may (pos, place, way) at n x =
      let (before, p, atp, made) = place.made in
      let s : Step = place.reached.step in
      let H : Held = RoundBy only rules facts n in
      let found : Answer H place.result tuple =
      alike_answer H place.result place.reached.query tuple place.renamed.fits.renaming
      (subst (λ (o : Member). Answer H o.query tuple) (at_unique union k at place.there) x) in
      let rest : (n : ℕ) → Answer (RoundBy only rules facts n) p.query tuple → (n' : ℕ) × Answer (RoundBy only rules facts n') q tuple =
      named_answer only e.step.parent p es (λ i (f, l, kind, is). may i (f, Memᴰ.tail l, kind, is)) way
      (subst (λ (t : Step). At union t.parent p) (sym place.written) atp) in
      elim made [
        | inl w ↦ (let named : only s.other =
            may s.other (e, here, ap (λ (t : Step). t.kind) place.written ∙ w.0, ap (λ (t : Step). t.other) place.written) in
            rest (suc n)
            (rule_sound_from H (RoundBy only rules facts (suc n)) (λ a h. inl h) p.query rules place.result s.atom s.other tuple
            (λ ρ atρ a c. inr (s.other, ρ, named, atρ, c)) w.1 found))
        | inr w ↦ rest n (merge_sound H p.query place.result s.atom s.other tuple w.1 found)
      ]

  -- so the rules named by the steps behind the tuple suffice, as read
  pub suffice_as_read : (steps : List ExplainedStep) → Explains rules facts union tuple steps
      → (n : ℕ) × Answer (RoundBy (Named steps) rules facts n) q tuple
  suffice_as_read steps x =
      named_answer (Named steps) x.from x.lowest.lowest steps (λ i h. h) x.way x.lowest.there zero x.lowest.yields.1

-- and as written
pub suffice : (ws : List WrittenRule) (facts : List Fact) (union : UCQ) (q : Query) (tuple : List ℕ) (steps : List ExplainedStep)
    → Explains (rules_read ws) facts union tuple steps → Accepted (rules_read ws) q union → Apart ws q facts
    → Suffice ws facts q tuple steps
suffice ws facts union q tuple steps x accepted apart =
    let (n, w) = suffice_as_read (rules_read ws) facts union q accepted.first tuple steps x in record {
      as_read = (n, w);
      as_written = (n, answer_in_round_by apart (Named steps) (NamedAsWritten steps) (λ p m j l named. (j, l, named)) n tuple w);
    }

-- what some rules suffice for the second reader finds, who has all of them
pub suffices_found : (ws : List WrittenRule) (facts : List Fact) (q : Query) (tuple : List ℕ) (steps : List ExplainedStep)
    → Suffice ws facts q tuple steps → Answerable tuple → SecondReaderAsWritten ws q facts tuple
suffices_found ws facts q tuple steps s may =
    let (n, w) = s.as_written in (
      may,
      (
        n,
        answer_more (RoundAsWrittenBy (NamedAsWritten steps) ws facts n) (RoundAsWritten ws facts n)
            (named_within_written (NamedAsWritten steps) ws facts n) q tuple w,
      ),
    )
