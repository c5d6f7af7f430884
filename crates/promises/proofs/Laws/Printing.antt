-- What the program prints is what 01 says: a refusal's number; or the count, and a line for each answer, which is read again from the bytes
-- of the list.
use Rattle.std.specs.Prelude.{◌≡◌, refl, ◌≢◌, Bool, true, false, cond, eqb, get_or}
use Rattle.std.proofs.Common.{sym, ◌∙◌, subst, eq-eqb, ne_eqb, eqb-true}
use Rattle.std.proofs.Math.Path.{ap, ap₂}
use Prim.Native.Nat.{ℕ, zero, ◌+◌, ◌*◌, ◌-◌, ◌/◌, ◌%◌, ◌≤◌, ◌<◌}
use native.Mathlib.Omega.{arith}
use mathlib.Core.List.Memᴰ
use mathlib.Core.List.{List, [], ◌∷◌, ◌++◌, flat_map, append_assoc}
use Rattle.std.proofs.Math.ListN.{length, replicate, length-append, length-replicate}
use Rattle.std.proofs.lemmas.List.{get_or_at}
use Rattle.std.proofs.lemmas.Bool.{eqb-false}
use Rattle.theory.specs.Lists.{◌∈◌}
use Rattle.theory.specs.Laws.Lists.{here}
use Rattle.words.specs.Limits.{sheet_width, object_bound}
use Rattle.sheets.specs.Format.{term_count}
use Rattle.sheets.specs.Partners.{partners01}
use Rattle.sheets.specs.AnswerList.{tuple_bytes, list_bytes}
use Rattle.sheets.specs.Packing.{bytes_of, pack_records}
use Rattle.sheets.proofs.Laws.QuestionRefusals.{question_arity}
use Rattle.promises.proofs.Laws.CheckPromises.{accepted_sound}
use Rattle.promises.specs.Checking.{AcceptedFor}
use Rattle.promises.specs.Drawing.{the_answers, terms_of, outcome}
use Rattle.promises.proofs.Laws.DrawPromises.{zero_means, refused_means, count_means, list_means}
use Rattle.promises.proofs.Laws.AnswerBytes.{length_tuple, length_answers}
use Rattle.promises.proofs.Laws.Drawing.{answers_known}
use Rattle.promises.specs.Report.{refused_text, accepted_text, object_at, objects_at, line, lines_at, first_line, report}
use Rattle.promises.specs.Text.{list_room, drawn, text_for}

-- ---- a tuple's bytes read again

abbrev InRange : List ℕ → Type 0
InRange tuple = (o : ℕ) → o ∈ tuple → o < object_bound

object_again : (before after : List ℕ) (o : ℕ) → o < object_bound → object_at (before ++ (o / 256 % 256 ∷ o % 256 ∷ after)) (length before)
    ≡ o
object_again before after o h =
    let high : get_or (before ++ (o / 256 % 256 ∷ o % 256 ∷ after)) (length before) 0 ≡ o / 256 % 256
    = get_or_at before (o / 256 % 256) (o % 256 ∷ after) 0 (length before) refl in
    let long : length (before ++ (o / 256 % 256 ∷ [])) ≡ length before + 1 = length-append before (o / 256 % 256 ∷ []) in
    let low : get_or (before ++ (o / 256 % 256 ∷ o % 256 ∷ after)) (length before + 1) 0 ≡ o % 256
    = ap (λ l. get_or l (length before + 1) 0) (sym (append_assoc before (o / 256 % 256 ∷ []) (o % 256 ∷ after)))
    ∙ get_or_at (before ++ (o / 256 % 256 ∷ [])) (o % 256) after 0 (length before + 1) long in
    omega arith

pub objects_again : (t before after : List ℕ) → InRange t → objects_at (before ++ (tuple_bytes t ++ after)) (length before) (length t) ≡ t
unfolding objects_at tuple_bytes pack_records bytes_of
objects_again [] before after h = refl
objects_again (o ∷ os) before after h =
    let two : List ℕ = o / 256 % 256 ∷ o % 256 ∷ [] in
    let long : length (before ++ two) ≡ length before + 2 = length-append before two in
    ap₂ ◌∷◌
    (object_again before (tuple_bytes os ++ after) o (h o here))
    (ap₂ (λ l n. objects_at l n (length os)) (sym (append_assoc before two (tuple_bytes os ++ after))) (sym long)
    ∙ objects_again os (before ++ two) after (λ p m. h p (Memᴰ.tail m)))

-- ---- the lines of all answers

lines_again : (terms : ℕ) (answers : List (List ℕ)) (before after : List ℕ) → ((t : List ℕ) → t ∈ answers → InRange t × (length t ≡ terms))
    → lines_at (before ++ (flat_map tuple_bytes answers ++ after)) (length before) terms (length answers) ≡ flat_map line answers
unfolding lines_at flat_map
lines_again terms [] before after h = refl
lines_again terms (t ∷ ts) before after h =
    let (range, size) = h t here in
    let rest : List ℕ = flat_map tuple_bytes ts ++ after in
    let same : before ++ ((tuple_bytes t ++ flat_map tuple_bytes ts) ++ after) ≡ before ++ (tuple_bytes t ++ rest)
    = ap (λ l. before ++ l) (append_assoc (tuple_bytes t) (flat_map tuple_bytes ts) after) in
    let long : length (before ++ tuple_bytes t) ≡ length before + 2 * terms
    = length-append before (tuple_bytes t) ∙ ap (λ n. length before + n) (length_tuple t ∙ ap (λ n. 2 * n) size) in
    ap₂ ◌++◌
    (ap line (ap₂ (λ l n. objects_at l (length before) n) same (sym size) ∙ objects_again t before rest range))
    (ap₂ (λ l n. lines_at l n terms (length ts)) (same ∙ sym (append_assoc before (tuple_bytes t) rest)) (sym long)
    ∙ lines_again terms ts (before ++ tuple_bytes t) after (λ u m. h u (Memᴰ.tail m)))

-- ---- the report

pub refused_report : (number count terms : ℕ) (list : List ℕ) → number ≢ 0 → report number count terms list ≡ first_line refused_text number
unfolding report
refused_report number count terms list h =
    ap (λ (b : Bool). cond b (first_line accepted_text count ++ lines_at list 0 terms count) (first_line refused_text number))
    (ne_eqb number 0 h)

pub listed_report : (number count terms : ℕ) (list : List ℕ) → number ≡ 0
    → report number count terms list ≡ first_line accepted_text count ++ lines_at list 0 terms count
unfolding report
listed_report number count terms list h =
    ap (λ (b : Bool). cond b (first_line accepted_text count ++ lines_at list 0 terms count) (first_line refused_text number))
    (eq-eqb number 0 h)

module _ (rules question union facts : List ℕ) (room : ℕ) (zero : (outcome rules question union facts room).number ≡ 0) where
  is_accepted : AcceptedFor rules question union
  is_accepted = (accepted_sound rules question union).1 ((zero_means rules question union facts room).0 zero).0

  terms_are : terms_of question ≡ term_count question 0
  terms_are = question_arity partners01 sheet_width question

  -- the answers that the count counts are in the list
  pub fits : 2 * (term_count question 0) * (outcome rules question union facts room).count ≤ room
  fits =
      let need : 2 * terms_of question * length (the_answers union facts) ≤ room =
      ((zero_means rules question union facts room).0 zero).2 in
      let n : (outcome rules question union facts room).count ≡ length (the_answers union facts)
      = count_means rules question union facts room zero in
      subst (λ k. 2 * (term_count question 0) * k ≤ room) (sym n)
      (subst (λ k. 2 * k * length (the_answers union facts) ≤ room) terms_are need)

  -- the list is as long as it was
  drawn_long : length (outcome rules question union facts room).list ≡ room
  unfolding list_bytes
  drawn_long =
      let answers : List (List ℕ) = the_answers union facts in
      let all : List ℕ = flat_map tuple_bytes answers in
      let size : length all ≡ 2 * terms_of question * length answers
      = length_answers answers (terms_of question) room (λ t m. answers_known rules question union facts is_accepted t m) in
      let need : 2 * terms_of question * length answers ≤ room = ((zero_means rules question union facts room).0 zero).2 in
      let zeros : List ℕ = replicate (room - length all) 0 in
      let sum : length (all ++ zeros) ≡ length all + length zeros = length-append all zeros in
      let more : length zeros ≡ room - length all = length-replicate {A = ℕ} (room - length all) 0 in
      ap length (list_means rules question union facts room zero) ∙ omega arith

  pub accepted_report : report (outcome rules question union facts room).number (outcome rules question union facts room).count
      (term_count question 0) (outcome rules question union facts room).list
      ≡ first_line accepted_text (length (the_answers union facts)) ++ flat_map line (the_answers union facts)
  unfolding list_bytes
  accepted_report =
      let answers : List (List ℕ) = the_answers union facts in
      let rest : List ℕ = replicate (room - length (flat_map tuple_bytes answers)) 0 in
      let known : (t : List ℕ) → t ∈ answers → InRange t × (length t ≡ term_count question 0)
      = λ t m. let (range, size) = answers_known rules question union facts is_accepted t m in (range, size ∙ terms_are) in
      listed_report _ _ (term_count question 0) _ zero
      ∙ ap₂ (λ n l. first_line accepted_text n ++ lines_at l 0 (term_count question 0) n)
      (count_means rules question union facts room zero) (list_means rules question union facts room zero)
      ∙ ap (λ l. first_line accepted_text (length answers) ++ l) (lines_again (term_count question 0) answers [] rest known)

pub list_long : (rules question union facts : List ℕ) (room : ℕ) → length (outcome rules question union facts room).list ≡ room
list_long rules question union facts room = go (eqb (outcome rules question union facts room).number 0) refl
  where
    go : (b : Bool) → eqb (outcome rules question union facts room).number 0 ≡ b
        → length (outcome rules question union facts room).list ≡ room
    go true e = drawn_long rules question union facts room (eqb-true (outcome rules question union facts room).number 0 e)
    go false e =
        ap length (refused_means rules question union facts room (eqb-false (outcome rules question union facts room).number 0 e)).1
        ∙ length-replicate {A = ℕ} room 0

-- ---- the program's text

module _ (rules question union facts : List ℕ) where
  -- "refused N"
  pub refused_text_lem : (drawn rules question union facts).number ≢ 0
      → text_for rules question union facts ≡ first_line refused_text (drawn rules question union facts).number
  unfolding text_for
  refused_text_lem h =
      refused_report (drawn rules question union facts).number (drawn rules question union facts).count (term_count question 0)
      (drawn rules question union facts).list h

  -- '"accepted N" with the count, then a line per answer', in the order of the list
  pub accepted_text_lem : (drawn rules question union facts).number ≡ 0
      → text_for rules question union facts
      ≡ first_line accepted_text (length (the_answers union facts)) ++ flat_map line (the_answers union facts)
  unfolding text_for
  accepted_text_lem h = accepted_report rules question union facts list_room h
