-- 02, T-01, with only bytes in it: what is promised of drawing where lost tags, the objects 65,024 to 65,535, are about.
use Rattle.std.specs.Prelude.{◌≡◌, refl, ◌⊎◌, ◌↔◌, ℕ, ◌*◌, ◌≤◌, ◌<◌, List, [], ◌∷◌, length}
use Rattle.std.proofs.Common.{ap, ◌∙◌, mul-zero, arith}
use Rattle.std.proofs.Math.Logic.Iff
use Rattle.theory.specs.Lists.{◌∈◌}
use Rattle.theory.specs.Syntax.{const}
use Rattle.theory.specs.Chase.{Answer}
use Rattle.theory.specs.QualifiedChase.{RoundAsWritten}
use Rattle.theory.specs.Laws.Lists.{here}
use Rattle.theory.proofs.Laws.LostTags.{second_passes_over, second_as_before, literal_lost}
use Rattle.sheets.specs.AnswerList.{tuple_size}
use Rattle.promises.specs.TheSheets.{the_written_rules, the_question, the_facts, SoundFacts}
use Rattle.promises.specs.Checking.{AcceptedFor}
use Rattle.promises.specs.Drawing.{the_answers, terms_of, bytes_needed, Registered, Listed, outcome}
use Rattle.promises.proofs.Laws.CheckPromises.{accepted_sound}
use Rattle.promises.proofs.Laws.DrawPromises.{zero_means, count_means, both_readers, answers_are_theirs}

module _ (rules question union facts : List ℕ) (room : ℕ) where
  module _ (zero : (outcome rules question union facts room).number ≡ 0) (tuple : List ℕ) (registered : Registered tuple) where
    -- "A tuple holding one is left out of list"
    pub left_out : (o : ℕ) → o ∈ tuple → 65024 ≤ o → o ≤ 65535
        → ¬ Listed (outcome rules question union facts room).list (outcome rules question union facts room).count (terms_of question) tuple
    left_out o m first last listed =
        second_passes_over tuple o m first last (the_written_rules rules) (the_question question) (the_facts facts)
        ((both_readers rules question union facts room zero tuple registered).0 listed)

    -- every other stands there exactly when the question has it as an answer in some round, where nothing is said of tags
    pub others_as_before : ((o : ℕ) → o ∈ tuple → (o < 65024) ⊎ (65535 < o))
        → Listed (outcome rules question union facts room).list (outcome rules question union facts room).count (terms_of question) tuple
        ↔ ((n : ℕ) × Answer (RoundAsWritten (the_written_rules rules) (the_facts facts) n) (the_question question) tuple)
    others_as_before none_lost =
        Iff.trans (both_readers rules question union facts room zero tuple registered)
        (second_as_before tuple none_lost (the_written_rules rules) (the_question question) (the_facts facts))

  module _ (accepted : AcceptedFor rules question union) (sound : SoundFacts rules facts) where
    -- "and count, and the room for the list is reckoned without it": both go by the number of these, and none holds a lost tag
    pub none_counted : (tuple : List ℕ) → tuple ∈ the_answers union facts → (o : ℕ) → o ∈ tuple → 65024 ≤ o → ¬ (o ≤ 65535)
    none_counted tuple listed o m first last =
        second_passes_over tuple o m first last (the_written_rules rules) (the_question question) (the_facts facts)
        ((answers_are_theirs rules question union facts room accepted sound tuple).0 listed)

    -- a lost tag among the answer terms: no answers
    module _ (c : ℕ) (literal : const c ∈ (the_question question).answers) (first : 65024 ≤ c) (last : c ≤ 65535) where
      no_answers : the_answers union facts ≡ []
      no_answers = empty (the_answers union facts) (λ tuple m.
          literal_lost (the_written_rules rules) (the_question question) (the_facts facts) tuple c literal first last
          ((answers_are_theirs rules question union facts room accepted sound tuple).0 m))
        where
          empty : {X : Type 0} (xs : List X) → ((x : X) → ¬ (x ∈ xs)) → xs ≡ []
          empty [] h = refl
          empty (x ∷ xs) h = absurd (h x here)

      -- and no refusal, whatever the list's length
      pub literal_not_refused : ((outcome rules question union facts room).number ≡ 0)
          × ((outcome rules question union facts room).count ≡ 0)
      literal_not_refused = (not_refused, count_means rules question union facts room not_refused ∙ ap length no_answers)
        where
          needs_none : bytes_needed question union facts ≡ 0
          needs_none = ap (λ answers. tuple_size (terms_of question) * length answers) no_answers
              ∙ mul-zero (tuple_size (terms_of question))

          not_refused : (outcome rules question union facts room).number ≡ 0
          not_refused =
              (zero_means rules question union facts room).1
              ((accepted_sound rules question union).0 accepted, sound, omega (arith, needs_none))
