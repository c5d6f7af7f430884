-- A union sheet read and checked: the members in a table, and the first of refusals 6 to 11.
use Rattle.std.specs.Prelude.{◌≡◌, ℕ, ◌<◌, List}
use Rattle.theory.specs.Lists.{◌∈◌, pick}
use Rattle.theory.specs.Syntax.{const, Member, Rule, Query}
use Rattle.theory.specs.Union.{check}
use Rattle.words.specs.Limits.{sheet_width, object_bound}
use Rattle.words.specs.Words.{union_in}
use Rattle.words.specs.Rows.{Rows, Arity}
use Rattle.sheets.specs.Reading.{union_as_read}
use Rattle.sheets.specs.Tests.{refuses6}
use Rattle.sheets.specs.Refusals.{number_of}

-- the table has n members of so many answer terms each, and their objects among the answer terms are ones that a sheet can say
pub record Members (table : List ℕ) (n terms : ℕ) : Type 0 where
  pub rows : Rows table n
  pub arity : Arity (union_in table n) terms
  pub constants : (m : Member) → m ∈ union_in table n → (c : ℕ) → const c ∈ m.query.answers → c < object_bound

-- 6 to 11: a union sheet, for rules and a question of so many answer terms that were read
abbrev pub union_number : List ℕ → List Rule → Query → ℕ → List ℕ → ℕ
union_number partners rules q terms union =
    pick (refuses6 partners sheet_width terms union) 6 (number_of (check rules q (union_as_read partners sheet_width union)))

-- THE PLEDGE of reading and checking a union for rules and a question of so many answer terms: refusals 6 to 11
pub record MembersRead (partners : List ℕ) (rules : List Rule) (q : Query) (terms : ℕ) (union table : List ℕ)
    (number count : ℕ) : Type 0 where
  pub number_is : number ≡ union_number partners rules q terms union
  -- where none of them applies, the table has the sheet's members
  pub union_is : number ≡ 0 → union_in table count ≡ union_as_read partners sheet_width union
  pub members : number ≡ 0 → Members table count terms
