-- A refusal met at one stage is what the call gives, and where none is met the next stage decides.
use Rattle.std.specs.Prelude.{◌≡◌, ℕ, Result, Err, List, eqb, replicate}
use Rattle.std.proofs.Math.Path.{refl, sym, subst}
use Rattle.std.proofs.Common.{◌∙◌, eq-eqb, ne_eqb}
use Rattle.theory.specs.Lists.{pick}
use Rattle.words.specs.declared.refusals.Refusal.{Refusal}
use Rattle.words.specs.Refusals.{code, number_in, count_in}
use Rattle.theory.specs.Refusals.{otherwise}
use Rattle.answer_draw.specs.EntryLaws.{numbered}
use Rattle.answer_draw.specs.Gives.{Gives}

-- what a call gives on a refusal, whose number is the first
pub gives_refused : (room : ℕ) (answers : List (List ℕ)) (first next : ℕ) (refusal : Refusal) (r : Result ℕ Refusal) (list : List ℕ)
    → code refusal ≡ first → (r ≡ Err refusal) × (list ≡ replicate room 0)
    → Gives room answers (otherwise first next) (number_in r) (count_in r) list
unfolding otherwise
gives_refused room answers first next refusal r list e g =
    let d : pick (eqb first 0) next first ≡ first = rw (ne_eqb first 0 (λ z. numbered refusal (e ∙ z))) in
    rw g.0 (record {
      number_is = e ∙ sym d;
      refused = λ k. (refl, g.1);
      drawn = λ z. absurd (numbered refusal (e ∙ sym d ∙ z));
    })

-- the same, said of numbers
pub refused_first : (room : ℕ) (answers : List (List ℕ)) (number first next told count : ℕ) (list : List ℕ) → number ≡ first
    → (number ≡ 0 → ⊥) → (told ≡ number) × (count ≡ 0) × (list ≡ replicate room 0)
    → Gives room answers (otherwise first next) told count list
unfolding otherwise
refused_first room answers number first next told count list e h g =
    let d : pick (eqb first 0) next first ≡ first = rw (ne_eqb first 0 (λ z. h (e ∙ z))) in
    record {
      number_is = g.0 ∙ e ∙ sym d;
      refused = λ k. (g.1, g.2);
      drawn = λ z. absurd (h (e ∙ sym d ∙ z));
    }

-- where none is met, the next stage decides
pub goes_on : (room : ℕ) (answers : List (List ℕ)) (first next number count : ℕ) (list : List ℕ) → 0 ≡ first
    → Gives room answers next number count list → Gives room answers (otherwise first next) number count list
unfolding otherwise
goes_on room answers first next number count list e g =
    let d : next ≡ pick (eqb first 0) next first = rw (eq-eqb first 0 (sym e)) in
    subst (λ n. Gives room answers n number count list) d g

-- the same outcome, said of other lists of answers
pub gives_along : (room : ℕ) (answers answers' : List (List ℕ)) (refusal refusal' number count : ℕ) (list : List ℕ)
    → answers ≡ answers' → refusal ≡ refusal' → Gives room answers refusal number count list
    → Gives room answers' refusal' number count list
gives_along room answers answers' refusal refusal' number count list e d g =
    subst (λ a. Gives room a refusal' number count list) e (subst (λ n. Gives room answers n number count list) d g)
