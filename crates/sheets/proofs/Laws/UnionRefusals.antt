-- What refusal 6 means, where the members of a union begin, and what a union that does not meet 6 is good for.
use Rattle.std.specs.Prelude.{◌≡◌, ◌↔◌, List, T, length}
use Rattle.std.proofs.Common.{ap, ◌∙◌, subst, inl, inr, le_of_eq, le_of_suc-le-suc, not-suc-le-zero, eq-or-lt_of_le}
use Rattle.std.proofs.Math.Logic.Iff
use Prim.Native.Nat.{ℕ, zero, suc, ◌+◌, ◌≤◌, ◌<◌}
use native.Mathlib.Omega.{arith}
use mathlib.Core.List.Memᴰ
use Rattle.std.proofs.lemmas.List.{length-map}
use Rattle.theory.specs.Lists.{◌∈◌, numbers}
use Rattle.theory.specs.Syntax.{Query, Member}
use Rattle.theory.specs.Union.{SoundQuery, SoundUnion}
use Rattle.theory.specs.Laws.Options.{T_no}
use Rattle.theory.specs.Laws.Lists.{numbers_iff, mem_numbered, numbered_length}
use Rattle.words.specs.Limits.{most_members}
use Rattle.sheets.specs.Format.{term_count, member_count, member_start, question_start, member_at, union_of}
use Rattle.sheets.specs.Partners.{member_as_read}
use Rattle.sheets.specs.Reading.{union_as_read}
use Rattle.sheets.specs.Tests.{refuses4, refuses5, member_sound, refuses6}
use Rattle.sheets.proofs.Laws.Tests.{sum_iff, sum_assoc, Tells, in_words, by_pass, not_tells, or_tells, and_tells, eqb_tells}
use Rattle.sheets.proofs.Laws.Tests.{leb_tells, all_tells}
use Rattle.sheets.proofs.Laws.QuestionRefusals.{question_sound_tells, refuses4_iff, not4_safe, refuses5_twice, not5_unrepeated}
use Rattle.sheets.proofs.Laws.QuestionRefusals.{query_arity}
use Rattle.sheets.specs.Conditions.{Malformed, Meets4, Meets5, member_question, MemberUnsound, Meets6}

-- ---- where members begin

-- a member is a step of four bytes and a question of at least one
pub start_next : (w : ℕ) (s : List ℕ) (j : ℕ) → member_start w s j + 5 ≤ member_start w s (suc j)
unfolding member_start
start_next w s j = omega arith

pub start_rises : (w : ℕ) (s : List ℕ) (i j : ℕ) → i ≤ j → member_start w s i ≤ member_start w s j
start_rises w s i zero l = elim (eq-or-lt_of_le l) [ inl e ↦ le_of_eq (ap (member_start w s) e) | inr k ↦ absurd (not-suc-le-zero k) ]
start_rises w s i (suc j) l =
    elim (eq-or-lt_of_le l) [
      | inl e ↦ le_of_eq (ap (member_start w s) e)
      | inr k ↦ (let below = start_rises w s i j (le_of_suc-le-suc k) in let next = start_next w s j in omega arith)
    ]

-- ---- which members there are

-- every member is one of the counted
pub member_numbered : (partners : List ℕ) (w : ℕ) (s : List ℕ) (m : Member) → m ∈ union_as_read partners w s
    → (j : ℕ) × (j < member_count s) × (member_as_read partners (member_at w s j) ≡ m)
unfolding union_as_read union_of
member_numbered partners w s m k =
    let (m', k', e) = Memᴰ.of_map (member_as_read partners) (union_of w s) k in
    let (j, l, e') = (mem_numbered (member_at w s) (member_count s) m').0 k' in
    (j, l, ap (member_as_read partners) e' ∙ e)

-- and there are as many as the count says
pub members_counted : (partners : List ℕ) (w : ℕ) (s : List ℕ) → length (union_as_read partners w s) ≡ member_count s
unfolding union_as_read union_of
members_counted partners w s =
    length-map (union_of w s) (member_as_read partners) ∙ numbered_length (member_at w s) (member_count s)

-- ---- 6

-- none of these
abbrev pub MemberSound : List ℕ → ℕ → ℕ → List ℕ → ℕ → Type 0
MemberSound partners w arity s j =
    (¬ Malformed w s (question_start w s j))
    × (¬ Meets4 (member_question partners w s j))
    × (¬ Meets5 (member_question partners w s j))
    × (term_count s (question_start w s j) ≡ arity)

-- a count "1 to 512", members that are together as long as the sheet, and each of them sound
abbrev pub Not6 : List ℕ → ℕ → ℕ → List ℕ → Type 0
Not6 partners w arity s =
    (1 ≤ member_count s)
    × (member_count s ≤ most_members)
    × (member_start w s (member_count s) ≡ length s)
    × ((j : ℕ) → j < member_count s → MemberSound partners w arity s j)

module _ (partners : List ℕ) (w arity : ℕ) (s : List ℕ) where
  member_sound_tells : (j : ℕ) → Tells (member_sound partners w arity s j) (MemberSound partners w arity s j)
      (MemberUnsound partners w arity s j)
  unfolding member_sound
  member_sound_tells j =
      let q : Query = member_question partners w s j in
      let meets4 = by_pass (refuses4 q) (refuses4_iff q) in
      let meets5 = by_pass (refuses5 q) (refuses5_twice q) in
      let arityIs = eqb_tells (term_count s (question_start w s j)) arity in
      in_words (and_tells (and_tells (and_tells (question_sound_tells w s (question_start w s j)) (not_tells meets4)) (not_tells meets5))
      arityIs)
      (λ ok. (ok.0.0.0, ok.0.0.1, ok.0.1, ok.1), λ ok. (((ok.0, ok.1), ok.2), ok.3)) (Iff.trans sum_assoc sum_assoc)

  refuses6_tells : Tells (refuses6 partners w arity s) (Meets6 partners w arity s) (Not6 partners w arity s)
  unfolding refuses6
  refuses6_tells =
      let count = and_tells (leb_tells 1 (member_count s)) (leb_tells (member_count s) most_members) in
      let size = eqb_tells (member_start w s (member_count s)) (length s) in
      let members = all_tells member_sound_tells (numbers 0 (member_count s)) in
      in_words (or_tells (or_tells (not_tells count) (not_tells size)) (not_tells members))
      (Iff.trans sum_assoc (sum_iff (sum_iff (λ l. omega arith, λ e. omega arith) Iff.rfl) (sum_iff Iff.rfl by_number))) (
        λ ok. (ok.0.0.0, ok.0.0.1, ok.0.1, λ j l. ok.1 j ((numbers_iff (member_count s) j).1 l)),
        λ ok. (((ok.0, ok.1), ok.2), λ j m. ok.3 j ((numbers_iff (member_count s) j).0 m)),
      )
    where
      by_number : {P : ℕ → Type 0} → ((j : ℕ) × (j ∈ numbers 0 (member_count s)) × P j) ↔ ((j : ℕ) × (j < member_count s) × P j)
      by_number =
          (λ v. (v.0, (numbers_iff (member_count s) v.0).0 v.1, v.2), λ v. (v.0, (numbers_iff (member_count s) v.0).1 v.1, v.2))

  pub refuses6_iff : T (refuses6 partners w arity s) ↔ Meets6 partners w arity s
  refuses6_iff = refuses6_tells.pass

  pub not6_iff : (¬ T (refuses6 partners w arity s)) ↔ Not6 partners w arity s
  not6_iff = Iff.trans (Iff.symm (T_no (refuses6 partners w arity s))) refuses6_tells.fail

  -- bytes that end early: some member begins, or the last one ends, past the sheet's end
  pub ends_early : (n : ℕ) → n ≤ member_count s → length s < member_start w s n → T (refuses6 partners w arity s)
  ends_early n l h =
      let rises : member_start w s n ≤ member_start w s (member_count s) = start_rises w s n (member_count s) l in
      refuses6_iff.1 (inr (inl (omega arith)))

-- ---- what a union that does not meet 6 is good for

-- every member ends within the sheet
pub member_fits : (partners : List ℕ) (w arity : ℕ) (s : List ℕ) → ¬ T (refuses6 partners w arity s) → (j : ℕ) → j < member_count s
    → member_start w s (suc j) ≤ length s
member_fits partners w arity s not6 j l =
    let ends = ((not6_iff partners w arity s).0 not6).2 in
    let rises = start_rises w s (suc j) (member_count s) l in
    omega arith

-- there are at most 512
pub members_few : (partners : List ℕ) (w arity : ℕ) (s : List ℕ) → ¬ T (refuses6 partners w arity s)
    → length (union_as_read partners w s) ≤ most_members
members_few partners w arity s not6 = rw (members_counted partners w s) ((not6_iff partners w arity s).0 not6).1

-- every member is sound for a question of that arity
sound_member : (partners : List ℕ) (w arity : ℕ) (s : List ℕ) (j : ℕ) → MemberSound partners w arity s j
    → SoundQuery arity (member_as_read partners (member_at w s j)).query
unfolding member_as_read member_at
sound_member partners w arity s j ok =
    let q : Query = member_question partners w s j in
    record {
      distinct = not5_unrepeated q (λ t. ok.2 ((refuses5_twice q).0 t));
      safe = not4_safe q (λ t. ok.1 ((refuses4_iff q).0 t));
      arity_is = query_arity partners w s (question_start w s j) ∙ ok.3;
    }

pub sound_members : (partners : List ℕ) (w arity : ℕ) (s : List ℕ) → ¬ T (refuses6 partners w arity s) → (m : Member)
    → m ∈ union_as_read partners w s → SoundQuery arity m.query
sound_members partners w arity s not6 m k =
    let (j, l, e) = member_numbered partners w s m k in
    subst (λ (n : Member). SoundQuery arity n.query) e
    (sound_member partners w arity s j (((not6_iff partners w arity s).0 not6).3 j l))

pub sound_union : (partners : List ℕ) (w : ℕ) (s : List ℕ) (q : Query) → ¬ T (refuses6 partners w (length q.answers) s)
    → SoundUnion q (union_as_read partners w s)
sound_union partners w s q = sound_members partners w (length q.answers) s
