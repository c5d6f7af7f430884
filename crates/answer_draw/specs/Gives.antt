-- What a call gives that meets its refusals one stage after the other: the number, the count and the list.
use Rattle.std.specs.Prelude.{◌≡◌, ℕ, ◌*◌, List, ltb, length, replicate}
use Rattle.theory.specs.Lists.{pick}
use Rattle.theory.specs.Syntax.{UCQ, Fact}
use Rattle.theory.specs.Evaluation.{answers_of}
use Rattle.sheets.specs.AnswerList.{tuple_size, list_bytes}

-- 14: the answers and the room for them
abbrev pub room_number : ℕ → ℕ → List (List ℕ) → ℕ
room_number room terms answers = pick (ltb room (tuple_size terms * length answers)) 14 0

-- THE PLEDGE of every stage: a call that meets the refusal with this number, or none where it is 0, gives these values and this list
pub record Gives (room : ℕ) (answers : List (List ℕ)) (refusal number count : ℕ) (list : List ℕ) : Type 0 where
  pub number_is : number ≡ refusal
  -- count 0, and zeros in the whole list
  pub refused : (refusal ≡ 0 → ⊥) → (count ≡ 0) × (list ≡ replicate room 0)
  -- all answers, and zeros after them
  pub drawn : refusal ≡ 0 → (count ≡ length answers) × (list ≡ list_bytes room answers)

-- from facts and members that were read: 14, or the answers
abbrev pub GivesAnswers : List Fact → UCQ → ℕ → ℕ → ℕ → ℕ → List ℕ → Type 0
GivesAnswers facts union terms room number count list =
    Gives room (answers_of facts union) (room_number room terms (answers_of facts union)) number count list
