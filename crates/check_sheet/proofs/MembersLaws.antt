-- What the reader of a union leaves in the table is what its check and the search ask for, and its number and the check's come to the
-- first of 6 to 11.
use mathlib.Core.Path.{◌≡◌, refl, sym, ap, ◌∙◌, subst}
use Prim.Native.Nat.{ℕ, ◌*◌, ◌≤◌, ◌<◌}
use native.Mathlib.Omega.{arith}
use mathlib.Core.Bool.{Bool, true, false}
use mathlib.Core.List.Memᴰ
use mathlib.Core.List.{List}
use lib.Dec.{T}
use lib.ListN.{length, take, drop}
use Rattle.std.proofs.Common.{length-take-le}
use borrow.Author.Rules.{rules}
use Rattle.theory.specs.Lists.{◌∈◌, Unrepeated, pick}
use Rattle.theory.specs.Syntax.{var, Rule, Query, Member, terms}
use Rattle.theory.specs.Union.{check}
use Rattle.theory.specs.Laws.Options.{is_false}
use Rattle.theory.specs.Laws.Lists.{mem_along, mem_numbered}
use Rattle.words.specs.Words.{member_of, union_in, stride, table_words}
use Rattle.words.specs.Limits.{sheet_width, most_members}
use Rattle.words.specs.Rows.{Rows, Row}
use Rattle.sheets.specs.Format.{member_count, member_at, union_of, question_start}
use Rattle.sheets.specs.Partners.{member_as_read}
use Rattle.sheets.specs.Refusals.{number_of}
use Rattle.sheets.specs.Reading.{union_as_read}
use Rattle.sheets.specs.Tests.{refuses6}
use Rattle.sheets.proofs.Laws.QuestionRefusals.{refuses5_twice, not5_unrepeated, variables_in_range, query_arity}
use Rattle.sheets.proofs.Laws.UnionRefusals.{not6_iff}
use Rattle.sheets.specs.Conditions.{member_question}
use Rattle.sheets.proofs.Laws.ObjectRange.{constants_in_range}
use Rattle.read_union.specs.UnionRows.{UnionRead}
use Rattle.check_sheet.specs.Members.{Members, MembersRead}

-- ---- the members of a union that doesn't meet 6

-- variables 0 to 31, no atom twice, and so many answer terms
abbrev SmallMember : ℕ → Member → Type 0
SmallMember arity m = ((v : ℕ) → var v ∈ terms m.query → v < 32) × Unrepeated m.query.atoms × (length m.query.answers ≡ arity)

small_member : (p s : List ℕ) (arity : ℕ) → ¬ T (refuses6 p sheet_width arity s) → (m : Member) → m ∈ union_as_read p sheet_width s
    → SmallMember arity m
unfolding union_as_read union_of member_as_read member_at
small_member p s arity not6 m k =
    let (m', k', e) = Memᴰ.of_map (member_as_read p) (union_of sheet_width s) k in
    let (j, l, e') = (mem_numbered (member_at sheet_width s) (member_count s) m').0 k' in
    let ok = ((not6_iff p sheet_width arity s).0 not6).3 j l in
    let q = member_question p sheet_width s j in
    subst (λ (n : Member). SmallMember arity n) (ap (member_as_read p) e' ∙ e) (
      variables_in_range sheet_width s (question_start sheet_width s j) ok.0 p,
      not5_unrepeated q (λ t. ok.2 ((refuses5_twice q).0 t)),
      query_arity p sheet_width s (question_start sheet_width s j) ∙ ok.3,
    )

-- ---- refusals 6 to 11

no_six : (b : Bool) → ◌≡◌ {A = ℕ} 0 (pick b 6 0) → ¬ T b
no_six true e t = omega arith
no_six false e t = t

module _ (p s : List ℕ) (arity : ℕ) (table : List ℕ) (number n : ℕ) (read : UnionRead p s arity table number n) where
  pub few_members : n ≤ most_members
  few_members = read.sheet.few

  module _ (zero : number ≡ 0) where
    not6 : ¬ T (refuses6 p sheet_width arity s)
    not6 = no_six (refuses6 p sheet_width arity s) (sym zero ∙ read.sheet.number_is)

    same_members : union_in table n ≡ union_as_read p sheet_width s
    same_members = read.sheet.read zero

    small : (m : Member) → m ∈ union_in table n → SmallMember arity m
    small m k = small_member p s arity not6 m (mem_along same_members k)

    row : (j : ℕ) → j < n → Row (drop (stride * j) table)
    unfolding union_in
    row j l =
        let narrow = read.narrow.each j l in
        let m : Member = member_of (drop (stride * j) table) in
        let ok = small m ((mem_numbered (λ i. member_of (drop (stride * i) table)) n m).1 (j, l, refl)) in
        record {
          few_terms = narrow.few_terms;
          few_atoms = narrow.few_atoms;
          answer_words = narrow.answer_words;
          variables = ok.0;
          distinct = ok.1;
        }

    module _ (size : ℕ) (kept : length table ≡ size) (long : table_words ≤ size) where
      pub rows_filled : Rows table n
      rows_filled = record { long = (let l : n ≤ most_members = few_members in omega arith); each = row }

      members_filled : Members table n arity
      members_filled = record {
        rows = rows_filled;
        arity = record { each = λ m k. (small m k).2 };
        constants = λ m k. constants_in_range p s m (mem_along same_members k);
      }

      -- the keys' list has one for each member
      module _ (keys : List ℕ) (room : n ≤ length keys) where
        pub rows_too : Rows table (length (take n keys))
        rows_too = rw (length-take-le n keys room) rows_filled

        pub members_checked : (rules : List Rule) (q : Query)
            → 0 ≡ number_of (check rules q (union_in table (length (take n keys)))) → MembersRead p rules q arity s table 0 n
        members_checked rules q f = record {
          number_is =
              rw (is_false (refuses6 p sheet_width arity s) not6)
              (f ∙ ap (λ k. number_of (check rules q (union_in table k))) (length-take-le n keys room)
              ∙ ap (λ u. number_of (check rules q u)) same_members);
          union_is = λ z. same_members;
          members = λ z. members_filled;
        }

pub ruleset laws = (rules, few_members, rows_too, members_checked)
