-- The union on the sheet, 15 and 16.
use mathlib.Core.Path.{◌≡◌, sym, ap, ap₂, ◌∙◌}
use Prim.Native.Nat.{ℕ, ◌+◌, ◌≤◌, ◌<◌}
use native.Mathlib.Omega.{arith}
use mathlib.Core.Option.{or_else, some}
use mathlib.Core.List.{List}
use lib.Dec.{ltb}
use lib.ListN.{length, replicate}
use borrow.Author.Rules.{rules}
use borrow.Author.Tests.{lt-ltb, le-ltb}
use Rattle.theory.specs.Lists.{guard}
use Rattle.theory.specs.Syntax.{UCQ}
use Rattle.std.specs.Prelude.{Result, Ok, Err}
use Rattle.words.specs.Refusals.{code}
use Rattle.words.specs.declared.refusals.Refusal.{Refusal}
use Rattle.words.specs.declared.refusals.Refusal.TheVariants.{SheetTooShort}
use Rattle.words.specs.Limits.{sheet_width, most_members}
use Rattle.words.specs.Words.{union_in}
use Rattle.words.specs.Rows.{Rows}
use Rattle.sheets.specs.Packing.{pack_union, union_sheet}
use Rattle.write_members.specs.Members.{HoldsUnion}
use Rattle.write_members.proofs.MemberLaws.{members_length}
use Rattle.write_stage.specs.declared.Written.{Written}
use Rattle.write_stage.specs.Stage.{refusal_of_union, GivesUnion}
use Rattle.write_stage.specs.StageLaws.{gives_refusal, gives_union}

-- more than are allowed
pub over : (union : UCQ) (table : List ℕ) (room : ℕ) (refusal : Refusal) (r : Result Written Refusal) (sheet : List ℕ)
    → HoldsUnion union table (most_members + 1) → code refusal ≡ 15 → r ≡ Err refusal → sheet ≡ replicate room 0
    → GivesUnion union room r sheet
unfolding or_else
over union table room refusal r sheet holds fifteen =
    gives_refusal union room (refusal_of_union union room) sheet refusal r
    (ap (λ b. or_else (guard b 15) (guard (ltb room (length (pack_union sheet_width union))) 16))
    (lt-ltb most_members (length union) (holds.many (omega arith))) ∙ ap some (sym fifteen))

module _ (union : UCQ) (table : List ℕ) (n : ℕ) (holds : HoldsUnion union table n) (few : n ≤ most_members) where
  pub members_there : Rows table n
  members_there = holds.rows few

  count_is : length union ≡ n
  count_is = ap length (sym (holds.union_is few)) ∙ members_length table n

  not_many : ltb most_members (length union) ≡ ltb most_members n
  not_many = ap (ltb most_members) count_is

  module _ (room : ℕ) (sheet : List ℕ) (size : ℕ) (length-is : size ≡ length (pack_union sheet_width (union_in table n))) where
    bytes_are : length (pack_union sheet_width union) ≡ size
    bytes_are = ap (λ u. length (pack_union sheet_width u)) (sym (holds.union_is few)) ∙ sym length-is

    pub short : (r : Result Written Refusal) → room < size → r ≡ Err SheetTooShort → sheet ≡ replicate room 0
        → GivesUnion union room r sheet
    unfolding or_else
    short r l =
        gives_refusal union room (refusal_of_union union room) sheet SheetTooShort r
        (ap₂ (λ b c. or_else (guard b 15) (guard c 16)) (not_many ∙ le-ltb most_members n few)
        (ap (ltb room) bytes_are ∙ lt-ltb room size l))

    pub fits : (w : Written) → size ≤ room → w.count ≡ n → w.length ≡ size
        → sheet ≡ union_sheet sheet_width room (union_in table n) → GivesUnion union room (Ok w) sheet
    unfolding or_else
    fits w l count long bytes =
        gives_union union room (refusal_of_union union room) sheet w
        (ap₂ (λ b c. or_else (guard b 15) (guard c 16)) (not_many ∙ le-ltb most_members n few)
        (ap (ltb room) bytes_are ∙ le-ltb room size l))
        (count ∙ sym count_is) (long ∙ sym bytes_are) (bytes ∙ ap (union_sheet sheet_width room) (holds.union_is few))

pub ruleset stages = (rules, over, members_there, short, fits)
