-- The sheets as read. 01, "Reciprocal names": "Everything below speaks of sheets as read."
use Rattle.std.specs.Prelude.{ℕ}
use mathlib.Core.List.{List, map}
use Rattle.theory.specs.Syntax.{Rule, Query, UCQ, Fact}
use Rattle.theory.specs.Qualified.{WrittenRule, rules_read}
use Rattle.sheets.specs.Format.{written_of, facts_of, query_at, union_of}
use Rattle.sheets.specs.Partners.{atom_as_read, written_as_read, query_as_read, member_as_read}

module _ (partners : List ℕ) (w : ℕ) where
  -- rules as written, with reciprocal names read, and the rules that they are read as (02, T-04)
  unfoldable pub rules_as_written : List ℕ → List WrittenRule
  unfolding written_of written_as_read
  rules_as_written s = map (written_as_read partners) (written_of s)

  unfoldable pub rules_as_read : List ℕ → List Rule
  unfolding rules_as_written rules_read
  rules_as_read s = rules_read (rules_as_written s)

  unfoldable pub question_as_read : List ℕ → Query
  unfolding query_at query_as_read
  question_as_read s = query_as_read partners (query_at w s 0)

  unfoldable pub union_as_read : List ℕ → UCQ
  unfolding union_of member_as_read
  union_as_read s = map (member_as_read partners) (union_of w s)

  unfoldable pub facts_as_read : List ℕ → List Fact
  unfolding facts_of atom_as_read
  facts_as_read s = map (atom_as_read partners) (facts_of w s)
