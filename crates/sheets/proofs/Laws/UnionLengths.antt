-- How long the sheet of a union is that does not meet 6: at least 7 bytes, and at most 33,282.
use Rattle.std.specs.Prelude.{◌≡◌, refl, ℕ, zero, suc, ◌+◌, ◌*◌, ◌≤◌, ◌<◌, true, false, not, List, T, length}
use Rattle.std.proofs.Common.{sym, subst, inl, inr, arith}
use Rattle.theory.specs.Laws.Options.{T_no, is_true, is_false}
use Rattle.words.specs.Limits.{sheet_width, most_terms, most_atoms, count_bytes, step_bytes, most_question_bytes, most_union_bytes}
use Rattle.sheets.specs.Format.{question_length, term_count, atom_count, member_count, member_start, question_start}
use Rattle.sheets.specs.Tests.{refuses6}
use Rattle.sheets.specs.Conditions.{Malformed}
use Rattle.sheets.proofs.Laws.Tests.{lt_or_le}
use Rattle.sheets.proofs.Laws.UnionRefusals.{Not6, not6_iff, start_rises}

pub first_begins : (s : List ℕ) → count_bytes ≡ member_start sheet_width s 0
unfolding member_start
first_begins s = refl

pub next_start : (s : List ℕ) (j : ℕ) → member_start sheet_width s j + step_bytes + question_length sheet_width s
    (question_start sheet_width s j)
    ≡ member_start sheet_width s (suc j)
unfolding member_start
next_start s j = refl

-- a question with counts in range is at most 61 bytes long, so a member at most 65
question_bound : (s : List ℕ) (at : ℕ) → ¬ Malformed sheet_width s at → question_length sheet_width s at ≤ most_question_bytes sheet_width
question_bound s at ok =
    elim (lt_or_le most_terms (term_count s at)) [
      | inl l ↦ absurd (ok (inl (inl l)))
      | inr few ↦ elim (lt_or_le most_atoms (atom_count s at)) [ inl l ↦ absurd (ok (inl (inr (inr l)))) | inr small ↦ omega arith ]
    ]

start_bound : (s : List ℕ) (n : ℕ) → ((j : ℕ) → j < n → ¬ Malformed sheet_width s (question_start sheet_width s j))
    → member_start sheet_width s n ≤ count_bytes + (step_bytes + most_question_bytes sheet_width) * n
start_bound s zero ok = omega (arith, first_begins s)
start_bound s (suc n) ok =
    let before = start_bound s n (λ j h. ok j (omega arith)) in
    omega (arith, next_start s n, question_bound s (question_start sheet_width s n) (ok n (omega arith)))

module _ (p s : List ℕ) (arity : ℕ) where
  pub accepted : not (refuses6 p sheet_width arity s) ≡ true → Not6 p sheet_width arity s
  accepted e = (not6_iff p sheet_width arity s).0 ((T_no (refuses6 p sheet_width arity s)).0 (subst T (sym e) tt))

  pub at_least : not (refuses6 p sheet_width arity s) ≡ true → 7 ≤ length s
  at_least e = let a = accepted e in omega (arith, first_begins s, next_start s 0, start_rises sheet_width s 1 (member_count s) a.0)

  -- 33,282 is 2 + 512 * 65
  pub at_most : not (refuses6 p sheet_width arity s) ≡ true → length s ≤ most_union_bytes sheet_width
  at_most e = let a = accepted e in omega (arith, start_bound s (member_count s) (λ j h. (a.3 j h).0))

  pub refused : (not (refuses6 p sheet_width arity s) ≡ true → ⊥) → false ≡ not (refuses6 p sheet_width arity s)
  refused f = sym (is_false (not (refuses6 p sheet_width arity s)) (λ t. f (is_true (not (refuses6 p sheet_width arity s)) t)))

  pub too_short : length s < count_bytes → false ≡ not (refuses6 p sheet_width arity s)
  too_short h = refused (λ e. let l : 7 ≤ length s = at_least e in omega arith)

  pub too_long : most_union_bytes sheet_width < length s → false ≡ not (refuses6 p sheet_width arity s)
  too_long h = refused (λ e. let l : length s ≤ most_union_bytes sheet_width = at_most e in omega arith)
