-- Sheets written out in bytes, and what they are read to: 01's K1 and K7, and for each format one with its fields at their largest.
-- So the order of bits and bytes is pinned by sheets, and not only by the definitions that read them.
use Rattle.std.specs.Prelude.{◌≡◌, refl, ℕ, Bool, true, false, not, ◌&&◌, List, [], ◌∷◌, ◌++◌, eqb}
use Rattle.std.proofs.Math.Bool.{xor}
use Rattle.theory.specs.Lists.{pick, all, pairwise}
use Rattle.theory.specs.Refusals.{first_refusal}
use Rattle.theory.specs.Syntax.{
  Term,
  var,
  const,
  Atom,
  concept,
  role,
  Basic,
  named,
  has,
  has_inverse,
  Rule,
  concept_inclusion,
  role_inclusion,
}
use Rattle.theory.specs.Syntax.{Query, Step, Member, UCQ, Fact, on_atoms}
use Rattle.theory.specs.Qualified.{WrittenRule, plain, qualified}
use Rattle.theory.specs.Union.{same_query}
use Rattle.words.specs.Limits.{sheet_width}
use Rattle.sheets.specs.Bits.{number_at}
use Rattle.sheets.specs.Format.{written_of, facts_of, query_at, member_count, union_of}
use Rattle.sheets.specs.Packing.{form_of, name_of}
use Rattle.sheets.specs.Partners.{partners01}
use Rattle.sheets.specs.Refusals.{number_of, rule_refusals, question_refusals, fact_refusals}
use Rattle.sheets.specs.Reading.{rules_as_written, rules_as_read, question_as_read, union_as_read, facts_as_read}
use Rattle.sheets.specs.Tests.{refuses1, refuses2, refuses3, refuses4, refuses5, refuses6, refuses12, refuses13, refuses17}
use Rattle.examples.specs.Notation.{x, y, ask, first, by_rule}

-- A sheet, what it says before and after reciprocal names are read, and the first of its own refusals, 0 if it meets none.
pub record Reading (X : Type 0) : Type 0 where
  pub sheet : List ℕ
  pub says : X
  pub as_read : X
  pub refusal : ℕ

-- Rules have one more list: the rules as read (02, T-04). A question has one more number: what its refusal would be, were reciprocal names
-- not read. A union has the question's number of answer terms, on which its refusal depends; and there is a union's member count by
-- itself.
pub data Sample : Type 0 where
  of_rules : Reading (List WrittenRule) → List Rule → Sample
  of_question : Reading Query → ℕ → Sample
  of_count : List ℕ → ℕ → Sample
  of_union : Reading UCQ → ℕ → Sample
  of_facts : Reading (List Fact) → Sample

-- ---- two questions, in bytes and in values

-- K1's
abbrev sheet1 : List ℕ
sheet1 = 0x11 ∷ 0x00 ∷ 0x00 ∷ 0x00 ∷ 0x80 ∷ 0x00 ∷ 0x00 ∷ 0x02 ∷ 0x00 ∷ 0x00 ∷ []

abbrev driven : Query
driven = ask (x ∷ []) (role 0 y x ∷ [])

-- the largest: four answer terms, eight atoms
abbrev largest : List ℕ
largest =
    0x48
    ∷ 0x00 ∷ 0x00 ∷ 0x1f
    ∷ 0x01 ∷ 0xff ∷ 0xff
    ∷ 0x00 ∷ 0x00 ∷ 0x1e
    ∷ 0x00 ∷ 0x00 ∷ 0x1f
    ∷ 0xbf ∷ 0xfc ∷ 0x00 ∷ 0x3f ∷ 0xff ∷ 0xff
    ∷ 0xbf ∷ 0xff ∷ 0xff ∷ 0xfe ∷ 0x00 ∷ 0x1f
    ∷ 0xbf ∷ 0xfc ∷ 0x00 ∷ 0x3e ∷ 0x00 ∷ 0x1f
    ∷ 0xbf ∷ 0xff ∷ 0xff ∷ 0xff ∷ 0xff ∷ 0xff
    ∷ 0x3f ∷ 0xfc ∷ 0x00 ∷ 0x3e ∷ 0x00 ∷ 0x00
    ∷ 0x3f ∷ 0xff ∷ 0xff ∷ 0xfe ∷ 0x00 ∷ 0x00
    ∷ 0x80 ∷ 0x04 ∷ 0x00 ∷ 0x3c ∷ 0x00 ∷ 0x1f
    ∷ 0x80 ∷ 0x1f ∷ 0xff ∷ 0xfe ∷ 0x00 ∷ 0x1e
    ∷ []

abbrev largest_with : Atom Term → Atom Term → Query
largest_with seventh eighth =
    ask (var 31 ∷ const 65535 ∷ var 30 ∷ var 31 ∷ [])
    (role 4095 (var 31) (const 65535)
    ∷ role 4095 (const 65535) (var 31)
    ∷ role 4095 (var 31) (var 31)
    ∷ role 4095 (const 65535) (const 65535)
    ∷ concept 4095 (var 31)
    ∷ concept 4095 (const 65535)
    ∷ seventh
    ∷ eighth
    ∷ [])

-- the roles of its last two atoms are higher partners
abbrev largest_says : Query
largest_says = largest_with (role 1 (var 30) (var 31)) (role 7 (const 65535) (var 30))

abbrev largest_as_read : Query
largest_as_read = largest_with (role 0 (var 31) (var 30)) (role 6 (var 30) (const 65535))

-- ---- the table

unfoldable pub samples : List Sample
samples =
    -- K1: "each concept 1 is driven by something"
    of_rules (record {
      sheet = 0x10 ∷ 0x00 ∷ 0x60 ∷ 0x00 ∷ [];
      says = plain (concept_inclusion (named 1) (has_inverse 0)) ∷ [];
      as_read = plain (concept_inclusion (named 1) (has_inverse 0)) ∷ [];
      refusal = 0;
    }) (concept_inclusion (named 1) (has_inverse 0) ∷ [])
    ∷ of_question (record { sheet = sheet1; says = driven; as_read = driven; refusal = 0 }) 0
    ∷ of_union (record {
      sheet =
          0x00 ∷ 0x02 ∷ []
          ++ (0x00 ∷ 0x00 ∷ 0x00 ∷ 0x00 ∷ [])
          ++ sheet1
          ++ (0x40 ∷ 0x00 ∷ 0x00 ∷ 0x00 ∷ [])
          ++ (0x11 ∷ 0x00 ∷ 0x00 ∷ 0x00 ∷ 0x00 ∷ 0x04 ∷ 0x00 ∷ 0x00 ∷ 0x00 ∷ 0x00 ∷ []);
      says = first driven ∷ by_rule 0 0 0 (ask (x ∷ []) (concept 1 x ∷ [])) ∷ [];
      as_read = first driven ∷ by_rule 0 0 0 (ask (x ∷ []) (concept 1 x ∷ [])) ∷ [];
      refusal = 0;
    }) 1
    ∷ of_facts (record {
      sheet = 0x00 ∷ 0x01 ∷ 0x00 ∷ 0x07 ∷ 0x00 ∷ 0x00 ∷ 0x80 ∷ 0x01 ∷ 0x00 ∷ 0x09 ∷ 0x00 ∷ 0x03 ∷ [];
      says = concept 1 7 ∷ role 1 9 3 ∷ [];
      as_read = concept 1 7 ∷ role 0 3 9 ∷ [];
      refusal = 0;
    })
    -- K7: "driven by(x,y), drives(y,x), 5", and not so before reciprocal names are read
    ∷ of_question (record {
      sheet = 0x02 ∷ 0x80 ∷ 0x04 ∷ 0x00 ∷ 0x00 ∷ 0x00 ∷ 0x01 ∷ 0x80 ∷ 0x00 ∷ 0x00 ∷ 0x02 ∷ 0x00 ∷ 0x00 ∷ [];
      says = ask [] (role 1 x y ∷ role 0 y x ∷ []);
      as_read = ask [] (role 0 y x ∷ role 0 y x ∷ []);
      refusal = 5;
    }) 0
    -- fields at their largest; higher partners on the left, on the right and on both sides
    ∷ of_rules (record {
      sheet =
          0x1b ∷ 0xff ∷ 0xef ∷ 0xff
          ∷ 0x14 ∷ 0x48 ∷ 0xea ∷ 0xbc
          ∷ 0x23 ∷ 0xff ∷ 0xdf ∷ 0xff
          ∷ 0x14 ∷ 0x00 ∷ 0x4f ∷ 0xff
          ∷ 0x20 ∷ 0x00 ∷ 0x40 ∷ 0x02
          ∷ 0x20 ∷ 0x00 ∷ 0xd0 ∷ 0x05
          ∷ [];
      says =
          plain (concept_inclusion (has_inverse 4095) (has_inverse 4095))
          ∷ plain (concept_inclusion (has 0x123) (has_inverse 0xabc))
          ∷ plain (role_inclusion 4095 true 4095)
          ∷ plain (concept_inclusion (has 1) (named 4095))
          ∷ plain (role_inclusion 1 false 2)
          ∷ plain (role_inclusion 3 true 5)
          ∷ [];
      as_read =
          plain (concept_inclusion (has_inverse 4095) (has_inverse 4095))
          ∷ plain (concept_inclusion (has 0x123) (has_inverse 0xabc))
          ∷ plain (role_inclusion 4095 true 4095)
          ∷ plain (concept_inclusion (has_inverse 0) (named 4095))
          ∷ plain (role_inclusion 0 true 2)
          ∷ plain (role_inclusion 2 true 4)
          ∷ [];
      refusal = 0;
    })
    (concept_inclusion (has_inverse 4095) (has_inverse 4095)
    ∷ concept_inclusion (has 0x123) (has_inverse 0xabc)
    ∷ role_inclusion 4095 true 4095
    ∷ concept_inclusion (has_inverse 0) (named 4095)
    ∷ role_inclusion 0 true 2
    ∷ role_inclusion 2 true 4
    ∷ [])
    -- two pairs, the second with a higher partner as its role, and a rule between them: helpers 4,095 and 4,094
    ∷ of_rules (record {
      sheet =
          0x3b ∷ 0xff ∷ 0xef ∷ 0xfe
          ∷ 0x43 ∷ 0xff ∷ 0xc0 ∷ 0x00
          ∷ 0x10 ∷ 0x00 ∷ 0x60 ∷ 0x00
          ∷ 0x34 ∷ 0x00 ∷ 0x50 ∷ 0x03
          ∷ 0x40 ∷ 0x48 ∷ 0xc0 ∷ 0x00
          ∷ [];
      says =
          qualified (has_inverse 4095) true 4094 4095
          ∷ plain (concept_inclusion (named 1) (has_inverse 0))
          ∷ qualified (has 1) false 3 0x123
          ∷ [];
      as_read =
          qualified (has_inverse 4095) true 4094 4095
          ∷ plain (concept_inclusion (named 1) (has_inverse 0))
          ∷ qualified (has_inverse 0) true 2 0x123
          ∷ [];
      refusal = 0;
    })
    (concept_inclusion (has_inverse 4095) (has_inverse 4095)
    ∷ role_inclusion 4095 false 4094
    ∷ concept_inclusion (has 4095) (named 4095)
    ∷ concept_inclusion (named 1) (has_inverse 0)
    ∷ concept_inclusion (has_inverse 0) (has_inverse 4094)
    ∷ role_inclusion 4094 false 2
    ∷ concept_inclusion (has 4094) (named 0x123)
    ∷ [])
    ∷ of_question (record {
      sheet = largest;
      says = largest_says;
      as_read = largest_as_read;
      refusal = 0;
    }) 0
    ∷ of_count (0x02 ∷ 0x00 ∷ []) 512
    ∷ of_union (record {
      sheet =
          0x00 ∷ 0x02 ∷ []
          ++ (0x5f ∷ 0xf7 ∷ 0x01 ∷ 0xff ∷ [])
          ++ largest
          ++ (0xff ∷ 0xff ∷ 0xff ∷ 0xff ∷ [])
          ++ largest;
      says =
          record { step = record { kind = 1; parent = 511; atom = 7; other = 511 }; query = largest_says }
          ∷ record { step = record { kind = 3; parent = 1023; atom = 15; other = 65535 }; query = largest_says }
          ∷ [];
      as_read =
          record { step = record { kind = 1; parent = 511; atom = 7; other = 511 }; query = largest_as_read }
          ∷ record { step = record { kind = 3; parent = 1023; atom = 15; other = 65535 }; query = largest_as_read }
          ∷ [];
      refusal = 0;
    }) 4
    ∷ of_facts (record {
      sheet =
          0x8f ∷ 0xff ∷ 0xff ∷ 0xff ∷ 0xff ∷ 0xff
          ∷ 0x0f ∷ 0xff ∷ 0xff ∷ 0xff ∷ 0x00 ∷ 0x00
          ∷ 0x80 ∷ 0x0f ∷ 0x12 ∷ 0x34 ∷ 0x56 ∷ 0x78
          ∷ 0x80 ∷ 0x03 ∷ 0x00 ∷ 0x01 ∷ 0xff ∷ 0xfe
          ∷ [];
      says = role 4095 65535 65535 ∷ concept 4095 65535 ∷ role 15 0x1234 0x5678 ∷ role 3 1 65534 ∷ [];
      as_read = role 4095 65535 65535 ∷ concept 4095 65535 ∷ role 15 0x1234 0x5678 ∷ role 2 65534 1 ∷ [];
      refusal = 0;
    })
    ∷ []

-- ---- the test

unfoldable pub same_basic : Basic → Basic → Bool
same_basic a b = eqb (form_of a) (form_of b) && eqb (name_of a) (name_of b)

unfoldable pub same_rule : Rule → Rule → Bool
unfolding same_basic xor
same_rule (concept_inclusion l r) (concept_inclusion l' r') = same_basic l l' && same_basic r r'
same_rule (concept_inclusion l r) (role_inclusion P e Q) = false
same_rule (role_inclusion P e Q) (concept_inclusion l r) = false
same_rule (role_inclusion P e Q) (role_inclusion P' e' Q') = eqb P P' && not (xor e e') && eqb Q Q'

unfoldable pub same_written : WrittenRule → WrittenRule → Bool
unfolding same_rule same_basic xor
same_written (plain r) (plain r') = same_rule r r'
same_written (plain r) (qualified l e P F) = false
same_written (qualified l e P F) (plain r) = false
same_written (qualified l e P F) (qualified l' e' P' F') = same_basic l l' && not (xor e e') && eqb P P' && eqb F F'

unfoldable pub same_step : Step → Step → Bool
same_step s t = eqb s.kind t.kind && eqb s.parent t.parent && eqb s.atom t.atom && eqb s.other t.other

unfoldable pub same_member : Member → Member → Bool
unfolding same_step same_query
same_member m n = same_step m.step n.step && same_query m.query n.query

-- what the definitions read is what is written
unfoldable pub matches : {X : Type 0} → (X → X → Bool) → Reading X → X → X → ℕ → Bool
matches same r says as_read refusal = same says r.says && same as_read r.as_read && eqb refusal r.refusal

unfoldable pub holds : Sample → Bool
unfolding number_at matches pairwise same_rule same_written same_member on_atoms partners01 number_of first_refusal
    written_of rules_as_written rules_as_read rule_refusals refuses1 refuses2 refuses17 query_at question_as_read question_refusals refuses3
    refuses4 refuses5
    union_of union_as_read refuses6 facts_of facts_as_read fact_refusals refuses12 refuses13
holds (of_rules r read) =
    matches (pairwise same_written) r (written_of r.sheet) (rules_as_written partners01 sheet_width r.sheet)
    (number_of (first_refusal (rule_refusals partners01 sheet_width r.sheet)))
    && pairwise same_rule (rules_as_read partners01 sheet_width r.sheet) read
holds (of_question r unread) =
    let q : Query = query_at sheet_width r.sheet 0 in
    matches same_query r q (question_as_read partners01 sheet_width r.sheet)
    (number_of (first_refusal (question_refusals partners01 sheet_width r.sheet)))
    && eqb (number_of (first_refusal ((3, refuses3 sheet_width r.sheet) ∷ (4, refuses4 q) ∷ (5, refuses5 q) ∷ []))) unread
holds (of_count sheet n) = eqb (member_count sheet) n
holds (of_union r arity) =
    matches (pairwise same_member) r (union_of sheet_width r.sheet) (union_as_read partners01 sheet_width r.sheet)
    (pick (refuses6 partners01 sheet_width arity r.sheet) 6 0)
holds (of_facts r) =
    matches (pairwise (on_atoms eqb)) r (facts_of sheet_width r.sheet) (facts_as_read partners01 sheet_width r.sheet)
    (number_of (first_refusal (fact_refusals sheet_width r.sheet)))

pub samples_hold : all holds samples ≡ true
unfolding all holds samples
samples_hold = refl
