-- What the stages of `rename` give is what its contract names.
use mathlib.Core.Path.{◌≡◌, refl, sym, ap, ◌∙◌, subst}
use mathlib.Core.Logic.Iff
use Prim.Native.Nat.{ℕ}
use native.Mathlib.Omega.{arith}
use mathlib.Core.Bool.{Bool}
use mathlib.Core.Option.{Option, none}
use mathlib.Core.List.{List}
use lib.ListN.{replicate}
use borrow.Author.Rules.{rules}
use Rattle.theory.specs.Refusals.{first_refusal, number_of}
use Rattle.theory.specs.Targets.{places, no_target, HandedBack}
use Rattle.theory.proofs.Laws.Spellings.{spellings}
use Rattle.words.specs.Limits.{sheet_width}
use Rattle.words.specs.Words.{query_of}
use Rattle.words.specs.declared.QueryWords.{QueryWords}
use Rattle.sheets.specs.Partners.{partners01}
use Rattle.sheets.specs.Reading.{question_as_read}
use Rattle.sheets.specs.Refusals.{only_question, question_refusals}
use Rattle.sheets.proofs.Laws.OneList.{number_stops, number_goes_on, question_alone_lem}
use Rattle.promises.specs.TheSheets.{the_question, the_refusal}
use Rattle.promises.specs.Renaming.{question_alone, flagged, refusal_to_rename, Renamed}
use Rattle.promises.proofs.Laws.RenamePromises.{zero_sound}
use Rattle.read_question.specs.QuestionWords.{QuestionRead}
use Rattle.read_question.specs.QuestionLaws.{question_passed, question_small, question_distinct}
use Rattle.std.specs.Prelude.{Err}
use Rattle.words.specs.declared.refusals.Refusal.{Refusal}
use Rattle.words.specs.Refusals.{code}
use Rattle.read_question.specs.QuestionWords.{query_in}

-- ---- the sheets one after the other

module _ (partners sheet : List ℕ) (number : ℕ) (q : QueryWords) (read : QuestionRead partners sheet number q) (e : partners ≡ partners01)
  where
    -- the sheet's own refusal, by the one list
    abbrev own : Option ℕ
    own = the_refusal only_question (question_alone sheet)

    own_is : own ≡ first_refusal (question_refusals partners sheet_width sheet)
    own_is =
        question_alone_lem partners01 sheet_width (question_alone sheet)
        ∙ ap (λ t. first_refusal (question_refusals t sheet_width sheet)) (sym e)

    number_own : number ≡ number_of own
    number_own = read.number_is ∙ ap number_of (sym own_is)

    module _ (zero : number ≡ 0) where
      own_none : own ≡ none
      own_none = own_is ∙ question_passed partners sheet q number read zero

      read_is : query_of q ≡ the_question sheet
      unfolding question_as_read
      read_is = (read.query zero).query_is ∙ ap (λ t. question_as_read t sheet_width sheet) e

-- no refusal has number 0: a question that was read has atoms
numbered : (partners sheet : List ℕ) (refusal : Refusal) → QuestionRead partners sheet (code refusal) (query_in (Err refusal))
    → code refusal ≡ 0 → ⊥
numbered partners sheet refusal read z = let some = (read.query z).some_atoms in omega arith

module _ (first second : List ℕ) where
  abbrev F : Option ℕ
  F = the_refusal only_question (question_alone first)

  abbrev S : Option ℕ
  S = the_refusal only_question (question_alone second)

  refusal : (number : ℕ) → number ≡ number_of (refusal_to_rename first second) → (number ≡ 0 → ⊥)
      → Renamed first second number 0 (replicate places no_target)
  refusal number e h = record {
    number_is = e;
    zero = Iff.trans (λ z. sym e ∙ z, λ z. e ∙ z) (zero_sound first second);
    handed_back = λ z. absurd (h z);
    refused = λ z. (refl, refl);
  }

  module _ (partners : List ℕ) (e : partners ≡ partners01) where
    pub first_turned_back : (stop : Refusal) → QuestionRead partners first (code stop) (query_in (Err stop))
        → Renamed first second (code stop) 0 (replicate places no_target)
    first_turned_back stop read =
        let is = number_own partners first (code stop) (query_in (Err stop)) read e in
        let h = numbered partners first stop read in
        refusal (code stop) (is ∙ sym (number_stops F S (λ z. h (is ∙ z)))) h

    module _ (p : QueryWords) (read : QuestionRead partners first 0 p) (m : ℕ) (q : QueryWords)
        (read' : QuestionRead partners second m q) where
      second_is : m ≡ number_of (refusal_to_rename first second)
      second_is = number_own partners second m q read' e ∙ sym (number_goes_on F S (own_none partners first 0 p read e refl))

    pub second_turned_back : (p : QueryWords) (stop : Refusal) → QuestionRead partners first 0 p
        → QuestionRead partners second (code stop) (query_in (Err stop)) → Renamed first second (code stop) 0 (replicate places no_target)
    second_turned_back p stop read read' =
        refusal (code stop) (second_is p read (code stop) (query_in (Err stop)) read') (numbered partners second stop read')

    pub both_read : (p q : QueryWords) (b : Bool) (t : List ℕ) → QuestionRead partners first 0 p → QuestionRead partners second 0 q
        → HandedBack (query_of p) (query_of q) b t → Renamed first second 0 (flagged b) t
    both_read p q b t read read' h = record {
      number_is = second_is p read 0 q read';
      zero = Iff.trans (λ z. sym (second_is p read 0 q read') ∙ z, λ z. refl) (zero_sound first second);
      handed_back = λ z. (b, refl, named);
      refused = λ z. absurd (z refl);
    }
      where
        named : HandedBack (the_question first) (the_question second) b t
        named =
            subst (λ x. HandedBack x (the_question second) b t) (read_is partners first 0 p read e refl)
            (subst (λ x. HandedBack (query_of p) x b t) (read_is partners second 0 q read' e refl) h)

pub ruleset laws = (
  rules,
  spellings,
  question_small,
  question_distinct,
  first_turned_back,
  second_turned_back,
  both_read,
)
