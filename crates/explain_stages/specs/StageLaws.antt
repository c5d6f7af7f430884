-- A refusal met at one stage is what the call gives, and where none is met the next stage decides.
use Rattle.std.specs.Prelude.{◌≡◌, refl, ℕ, Result, Err, List, eqb, replicate}
use Rattle.std.proofs.Math.Path.{sym, subst}
use Rattle.std.proofs.Common.{◌∙◌, eq-eqb, ne_eqb}
use Rattle.theory.specs.Lists.{pick}
use Rattle.theory.specs.Refusals.{otherwise}
use Rattle.theory.specs.Syntax.{Rule, UCQ, Fact}
use Rattle.words.specs.Refusals.{code, number_in, count_in}
use Rattle.words.specs.declared.refusals.Refusal.{Refusal}
use Rattle.promises.specs.Laws.Telling.{Tells, TellsBehind}
use Rattle.answer_draw.specs.EntryLaws.{numbered}

module _ (rules : List Rule) (facts : List Fact) (union : UCQ) (terms : ℕ) (tuple : List ℕ) (room : ℕ) where
  -- what a call gives behind stages that come to this number
  abbrev pub After : ℕ → ℕ → ℕ → List ℕ → Type 0
  After first number count list = TellsBehind rules facts union terms tuple room first number count list

  pub tells_first : (number count : ℕ) (list : List ℕ) → Tells rules facts union terms tuple room number count list
      → After 0 number count list
  tells_first number count list t = record { stopped = λ n. absurd (n refl); goes_on = λ z. t }

  pub tells_refused : (first next : ℕ) (refusal : Refusal) (r : Result ℕ Refusal) (list : List ℕ) → code refusal ≡ first
      → (r ≡ Err refusal) × (list ≡ replicate room 0) → After (otherwise first next) (number_in r) (count_in r) list
  unfolding otherwise
  tells_refused first next refusal r list e g =
      let d : pick (eqb first 0) next first ≡ first = rw (ne_eqb first 0 (λ z. numbered refusal (e ∙ z))) in
      rw g.0 (record {
        stopped = λ n. (e ∙ sym d, refl, g.1);
        goes_on = λ z. absurd (numbered refusal (e ∙ sym d ∙ z));
      })

  -- the same, said of numbers
  pub tells_stopped : (number first next told count : ℕ) (list : List ℕ) → number ≡ first → (number ≡ 0 → ⊥)
      → (told ≡ number) × (count ≡ 0) × (list ≡ replicate room 0) → After (otherwise first next) told count list
  unfolding otherwise
  tells_stopped number first next told count list e h g =
      let d : pick (eqb first 0) next first ≡ first = rw (ne_eqb first 0 (λ z. h (e ∙ z))) in
      record {
        stopped = λ n. (g.0 ∙ e ∙ sym d, g.1, g.2);
        goes_on = λ z. absurd (h (e ∙ sym d ∙ z));
      }

  pub tells_on : (first next number count : ℕ) (list : List ℕ) → 0 ≡ first → After next number count list
      → After (otherwise first next) number count list
  unfolding otherwise
  tells_on first next number count list e t =
      let d : next ≡ pick (eqb first 0) next first = rw (eq-eqb first 0 (sym e)) in
      subst (λ n. After n number count list) d t
