-- 02's T-02, "Our own unions", from bytes: number, count, length and every byte of the lent sheet, by the definition that the contract of
-- writing names. (01's cards are written in Cards.) A, B, C, D are concepts 1 to 4, P and R roles 16 and 17, which have no partner.
use Rattle.std.specs.Prelude.{◌≡◌, refl, ℕ, Bool, true, ◌&&◌, List, [], ◌∷◌, ◌++◌, map, eqb, length}
use Rattle.theory.specs.Lists.{any, all}
use Rattle.theory.specs.Syntax.{UCQ}
use Rattle.theory.specs.Renaming.{alike}
use Rattle.theory.specs.Writing.{written_union}
use Rattle.words.specs.Limits.{most_members}
use Rattle.theory.specs.Qualified.{roles_of_rules, roles_of_atoms, refuses18}
use Rattle.sheets.specs.Packing.{pack_union, union_sheet}
use Rattle.sheets.specs.Partners.{partners01}
use Rattle.sheets.specs.Reading.{rules_as_written, rules_as_read, question_as_read}
use Rattle.sheets.specs.Refusals.{refusal_of}
use Rattle.sheets.specs.Tests.{refuses1, refuses2, refuses3, refuses4, refuses5, refuses17}
use Rattle.promises.specs.Writing.{write_outcome}
use Rattle.examples.specs.Examples.{Example, K3, K5, K6}
use Rattle.examples.specs.Closure.{Closure, closures}
use Rattle.examples.specs.Cards.{rules1, question1, itself, union1, question7, gives_sheet}
use Rattle.examples.specs.Pairs.{pump, helper_asked}

-- ---- the members as 01 lists them

-- K3, K5 and K6: the union that is written, with steps and names, is the one that 01's list says
pub members_listed :
    map (λ e. written_union most_members (Example.rules e) (Example.question e)) (K3 ∷ K5 ∷ K6 ∷ []) ≡ map Example.union (K3 ∷ K5 ∷ K6 ∷ [])
unfolding written_union
members_listed = refl

-- the members are as many as the source document has, and each is alike to one of them
unfoldable pub writes_like : Closure → Bool
unfolding any all alike written_union
writes_like c =
    let union : UCQ = written_union most_members c.rules c.question in
    eqb (length union) (length c.members) && all (λ m. any (alike m.query) c.members) union

-- the unions of source documents 003 and 004, and the two more
pub closures_written : all writes_like closures ≡ true
unfolding all writes_like closures
closures_written = refl

-- ---- cases from bytes

-- two sheets and the length of the lent one; what writing gives: number, count, and the bytes before the zeros
pub record WriteCase : Type 0 where
  pub rules : List ℕ
  pub question : List ℕ
  pub room : ℕ
  pub number : ℕ
  pub count : ℕ
  pub written : List ℕ

-- A(x) and the like
abbrev Ax : List ℕ
Ax = 0x00 ∷ 0x04 ∷ 0x00 ∷ 0x00 ∷ 0x00 ∷ 0x00 ∷ []

abbrev Ay : List ℕ
Ay = 0x00 ∷ 0x04 ∷ 0x00 ∷ 0x02 ∷ 0x00 ∷ 0x00 ∷ []

abbrev Az : List ℕ
Az = 0x00 ∷ 0x04 ∷ 0x00 ∷ 0x04 ∷ 0x00 ∷ 0x00 ∷ []

abbrev Bx : List ℕ
Bx = 0x00 ∷ 0x08 ∷ 0x00 ∷ 0x00 ∷ 0x00 ∷ 0x00 ∷ []

abbrev By : List ℕ
By = 0x00 ∷ 0x08 ∷ 0x00 ∷ 0x02 ∷ 0x00 ∷ 0x00 ∷ []

abbrev Cy : List ℕ
Cy = 0x00 ∷ 0x0c ∷ 0x00 ∷ 0x02 ∷ 0x00 ∷ 0x00 ∷ []

abbrev Dx : List ℕ
Dx = 0x00 ∷ 0x10 ∷ 0x00 ∷ 0x00 ∷ 0x00 ∷ 0x00 ∷ []

abbrev Pyx : List ℕ
Pyx = 0x80 ∷ 0x40 ∷ 0x00 ∷ 0x02 ∷ 0x00 ∷ 0x00 ∷ []

-- answer x of one atom, of two
abbrev ask_one : List ℕ
ask_one = 0x11 ∷ 0x00 ∷ 0x00 ∷ 0x00 ∷ []

abbrev ask_two : List ℕ
ask_two = 0x12 ∷ 0x00 ∷ 0x00 ∷ 0x00 ∷ []

-- answers x, z of two atoms
abbrev ask_xz : List ℕ
ask_xz = 0x22 ∷ 0x00 ∷ 0x00 ∷ 0x00 ∷ 0x00 ∷ 0x00 ∷ 0x02 ∷ []

-- answer y of P(z,w), P(w,y)
abbrev question_three : List ℕ
question_three = 0x12 ∷ 0x00 ∷ 0x00 ∷ 0x01 ∷ 0x80 ∷ 0x40 ∷ 0x00 ∷ 0x04 ∷ 0x00 ∷ 0x03 ∷ 0x80 ∷ 0x40 ∷ 0x00 ∷ 0x06 ∷ 0x00 ∷ 0x01 ∷ []

-- answer x of P(x,5), P(y,y)
abbrev question_object : List ℕ
question_object = ask_two ++ (0x80 ∷ 0x40 ∷ 0x00 ∷ 0x01 ∷ 0x00 ∷ 0x05 ∷ 0x80 ∷ 0x40 ∷ 0x00 ∷ 0x02 ∷ 0x00 ∷ 0x01 ∷ [])

-- no answer terms, A(z), P(y,z), P(y,x), A(x)
abbrev question_places : List ℕ
question_places = 0x04 ∷ [] ++ Az ++ (0x80 ∷ 0x40 ∷ 0x00 ∷ 0x02 ∷ 0x00 ∷ 0x02 ∷ []) ++ Pyx ++ Ax

unfoldable pub our_unions : List WriteCase
our_unions =
    -- 16, "the lent sheet is shorter than the union", here by one byte; one that is as long; and an empty one
    record { rules = rules1; question = question1; room = 29; number = 16; count = 0; written = [] }
    ∷ record { rules = rules1; question = question1; room = 30; number = 0; count = 2; written = union1 }
    ∷ record { rules = rules1; question = question1; room = 0; number = 16; count = 0; written = [] }
    -- "with roles as read": K1 with "driven by" for "drives" on both sheets, written with the bytes of K1
    ∷ record {
      rules = (0x10 ∷ 0x00 ∷ 0x50 ∷ 0x01 ∷ []);
      question = ask_one ++ (0x80 ∷ 0x04 ∷ 0x00 ∷ 0x00 ∷ 0x00 ∷ 0x01 ∷ []);
      room = 40;
      number = 0;
      count = 2;
      written = union1;
    }
    -- "atoms are taken in order with rules in order": C ⊑ B, D ⊑ A; A(x), B(y), and with D by rule 1, with C by rule 0, with both
    ∷ record {
      rules = (0x10 ∷ 0x00 ∷ 0xc0 ∷ 0x02 ∷ []) ++ (0x10 ∷ 0x01 ∷ 0x00 ∷ 0x01 ∷ []);
      question = ask_two ++ Ax ++ By;
      room = 90;
      number = 0;
      count = 4;
      written =
          0x00 ∷ 0x04 ∷ [] ++ itself ++ ask_two ++ Ax ++ By
          ++ (0x40 ∷ 0x00 ∷ 0x00 ∷ 0x01 ∷ []) ++ ask_two ++ Dx ++ By
          ++ (0x40 ∷ 0x01 ∷ 0x00 ∷ 0x00 ∷ []) ++ ask_two ++ Ax ++ Cy
          ++ (0x40 ∷ 0x11 ∷ 0x00 ∷ 0x00 ∷ []) ++ ask_two ++ Dx ++ Cy;
    }
    -- "then pairs of atoms": B ⊑ A; A(x), A(y) has the merge behind what the rule makes of its atoms
    ∷ record {
      rules = (0x10 ∷ 0x00 ∷ 0x80 ∷ 0x01 ∷ []);
      question = ask_two ++ Ax ++ Ay;
      room = 110;
      number = 0;
      count = 6;
      written =
          0x00 ∷ 0x06 ∷ [] ++ itself ++ ask_two ++ Ax ++ Ay
          ++ (0x40 ∷ 0x00 ∷ 0x00 ∷ 0x00 ∷ []) ++ ask_two ++ Bx ++ Ay
          ++ (0x40 ∷ 0x01 ∷ 0x00 ∷ 0x00 ∷ []) ++ ask_two ++ Ax ++ By
          ++ (0x80 ∷ 0x00 ∷ 0x00 ∷ 0x01 ∷ []) ++ ask_one ++ Ax
          ++ (0x40 ∷ 0x11 ∷ 0x00 ∷ 0x00 ∷ []) ++ ask_two ++ Bx ++ By
          ++ (0x40 ∷ 0x30 ∷ 0x00 ∷ 0x00 ∷ []) ++ ask_one ++ Bx;
    }
    -- "A merge keeps the lower variable", here of three: the merge is P(y,y)
    ∷ record {
      rules = [];
      question = question_three;
      room = 50;
      number = 0;
      count = 2;
      written =
          0x00 ∷ 0x02 ∷ [] ++ itself ++ question_three
          ++ (0x80 ∷ 0x00 ∷ 0x00 ∷ 0x01 ∷ []) ++ (0x11 ∷ 0x00 ∷ 0x00 ∷ 0x01 ∷ 0x80 ∷ 0x40 ∷ 0x00 ∷ 0x02 ∷ 0x00 ∷ 0x01 ∷ []);
    }
    -- "and an object before a variable", in answer terms too: 5 of P(5,5)
    ∷ record {
      rules = [];
      question = question_object;
      room = 50;
      number = 0;
      count = 2;
      written =
          0x00 ∷ 0x02 ∷ [] ++ itself ++ question_object
          ++ (0x80 ∷ 0x00 ∷ 0x00 ∷ 0x01 ∷ []) ++ (0x11 ∷ 0x01 ∷ 0x00 ∷ 0x05 ∷ 0x80 ∷ 0x42 ∷ 0x00 ∷ 0x0b ∷ 0x00 ∷ 0x05 ∷ []);
    }
    -- "a changed atom keeps its place and the later equal atom goes": A(x), P(y,x)
    ∷ record {
      rules = [];
      question = question_places;
      room = 60;
      number = 0;
      count = 2;
      written =
          0x00 ∷ 0x02 ∷ [] ++ itself ++ question_places
          ++ (0x80 ∷ 0x00 ∷ 0x00 ∷ 0x03 ∷ []) ++ (0x02 ∷ [] ++ Ax ++ Pyx);
    }
    -- the fresh variable is the lowest that stands nowhere before the step: ∃R ⊑ ∃P; answers x, z of P(x,w), A(z), and of R(x,y), A(z)
    ∷ record {
      rules = (0x14 ∷ 0x04 ∷ 0x50 ∷ 0x10 ∷ []);
      question = ask_xz ++ (0x80 ∷ 0x40 ∷ 0x00 ∷ 0x00 ∷ 0x00 ∷ 0x03 ∷ []) ++ Az;
      room = 50;
      number = 0;
      count = 2;
      written =
          0x00 ∷ 0x02 ∷ [] ++ itself ++ ask_xz ++ (0x80 ∷ 0x40 ∷ 0x00 ∷ 0x00 ∷ 0x00 ∷ 0x03 ∷ []) ++ Az
          ++ (0x40 ∷ 0x00 ∷ 0x00 ∷ 0x00 ∷ []) ++ ask_xz ++ (0x80 ∷ 0x44 ∷ 0x00 ∷ 0x00 ∷ 0x00 ∷ 0x01 ∷ []) ++ Az;
    }
    -- "a refusal leaves zeros in all that was lent for writing": 1 to 5, 17 and 18, and each before 16
    ∷ record { rules = (0x10 ∷ 0x00 ∷ 0x60 ∷ []); question = []; room = 40; number = 1; count = 0; written = [] }
    ∷ record { rules = (0x50 ∷ 0x00 ∷ 0x60 ∷ 0x00 ∷ []); question = []; room = 40; number = 2; count = 0; written = [] }
    ∷ record { rules = (0x30 ∷ 0x00 ∷ 0x60 ∷ 0x00 ∷ []); question = []; room = 40; number = 17; count = 0; written = [] }
    ∷ record { rules = rules1; question = []; room = 0; number = 3; count = 0; written = [] }
    ∷ record { rules = rules1; question = (0x11 ∷ 0x00 ∷ 0x00 ∷ 0x01 ∷ []) ++ Ax; room = 1; number = 4; count = 0; written = [] }
    ∷ record { rules = []; question = question7; room = 15; number = 5; count = 0; written = [] }
    ∷ record { rules = pump; question = helper_asked; room = 0; number = 18; count = 0; written = [] }
    ∷ []

unfoldable pub holds : WriteCase → Bool
unfolding gives_sheet write_outcome written_union pack_union union_sheet refusal_of partners01 rules_as_read question_as_read
    refuses1 refuses2 refuses3 refuses4 refuses5 refuses17 refuses18 rules_as_written roles_of_rules roles_of_atoms
holds c = gives_sheet c.number c.count c.written c.room (write_outcome c.rules c.question c.room)

pub our_unions_hold : all holds our_unions ≡ true
unfolding all holds our_unions
our_unions_hold = refl
