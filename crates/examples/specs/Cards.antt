-- 01's cards K1 to K8 from bytes: number, count and every byte of the list follow from the definition that the contract of drawing
-- names, and the printed lines, where 01 gives them, from the one that the program's contract names. So does the union that is written
-- for a card's rules and question (02, T-02): K1, K3, K5 and K6 give exactly the members that 01 lists. A is concept 1 and P role 16, which
-- has no partner; x, y, z, w are variables 0 to 3.
use Rattle.std.specs.Prelude.{◌≡◌, refl, ℕ, ◌+◌, ◌-◌, Bool, true, ◌&&◌, List, [], ◌∷◌, ◌++◌, eqb, length, replicate}
use Rattle.std.proofs.Math.Option.{Option, none, some}
use Rattle.theory.specs.Lists.{all, pairwise}
use Rattle.theory.specs.Union.{refuses7, refuses8, refuses9, refuses10, refuses11}
use Rattle.theory.specs.Evaluation.{answers_of}
use Rattle.theory.specs.Qualified.{roles_of_rules, roles_of_atoms, refuses18}
use Rattle.theory.specs.Writing.{written_union}
use Rattle.sheets.specs.AnswerList.{list_bytes}
use Rattle.sheets.specs.Packing.{pack_union, union_sheet}
use Rattle.sheets.specs.Partners.{partners01}
use Rattle.sheets.specs.Refusals.{refusal_of, number_of}
use Rattle.sheets.specs.Tests.{refuses1, refuses2, refuses3, refuses4, refuses5, refuses6, refuses12, refuses13, refuses17}
use Rattle.sheets.specs.Reading.{rules_as_written, rules_as_read, question_as_read, union_as_read, facts_as_read}
use Rattle.promises.specs.Checking.{check_number}
use Rattle.promises.specs.Drawing.{Outcome, outcome}
use Rattle.promises.specs.Writing.{WriteOutcome, write_outcome}
use Rattle.promises.specs.Ascii.{ascii}
use Rattle.promises.specs.Text.{text_for}

-- four sheets and the length of the list; what checking gives; what drawing gives: number, count, and the bytes before the zeros; what the
-- program prints, where 01 says it; and, where 01 lists the members, how many are written for rules and question, and their bytes
pub record Card : Type 0 where
  pub rules : List ℕ
  pub question : List ℕ
  pub union : List ℕ
  pub facts : List ℕ
  pub room : ℕ
  pub checked : ℕ
  pub number : ℕ
  pub count : ℕ
  pub answers : List ℕ
  pub printed : Option (List ℕ)
  pub written : Option (ℕ × List ℕ)

-- ---- sheets that several cards have

-- K1: "each concept 1 is driven by something"
abbrev pub rules1 : List ℕ
rules1 = 0x10 ∷ 0x00 ∷ 0x60 ∷ 0x00 ∷ []

abbrev pub question1 : List ℕ
question1 = 0x11 ∷ 0x00 ∷ 0x00 ∷ 0x00 ∷ 0x80 ∷ 0x00 ∷ 0x00 ∷ 0x02 ∷ 0x00 ∷ 0x00 ∷ []

-- "the question itself, the rest zero"
abbrev pub itself : List ℕ
itself = 0x00 ∷ 0x00 ∷ 0x00 ∷ 0x00 ∷ []

abbrev pub union1 : List ℕ
union1 =
    0x00 ∷ 0x02 ∷ [] ++ itself ++ question1
    ++ (0x40 ∷ 0x00 ∷ 0x00 ∷ 0x00 ∷ []) ++ (0x11 ∷ 0x00 ∷ 0x00 ∷ 0x00 ∷ 0x00 ∷ 0x04 ∷ 0x00 ∷ 0x00 ∷ 0x00 ∷ 0x00 ∷ [])

abbrev pub facts1 : List ℕ
facts1 = 0x00 ∷ 0x01 ∷ 0x00 ∷ 0x07 ∷ 0x00 ∷ 0x00 ∷ 0x80 ∷ 0x01 ∷ 0x00 ∷ 0x09 ∷ 0x00 ∷ 0x03 ∷ []

-- "every A has a P"
abbrev pub every_a : List ℕ
every_a = 0x10 ∷ 0x00 ∷ 0x50 ∷ 0x10 ∷ []

-- K3: "answer x of P(x,y), P(z,y)"
abbrev question3 : List ℕ
question3 = 0x12 ∷ 0x00 ∷ 0x00 ∷ 0x00 ∷ 0x80 ∷ 0x40 ∷ 0x00 ∷ 0x00 ∷ 0x00 ∷ 0x01 ∷ 0x80 ∷ 0x40 ∷ 0x00 ∷ 0x04 ∷ 0x00 ∷ 0x01 ∷ []

-- "Members: itself, P(x,y), A(x)."
abbrev union3 : List ℕ
union3 =
    0x00 ∷ 0x03 ∷ [] ++ itself ++ question3
    ++ (0x80 ∷ 0x00 ∷ 0x00 ∷ 0x01 ∷ []) ++ (0x11 ∷ 0x00 ∷ 0x00 ∷ 0x00 ∷ 0x80 ∷ 0x40 ∷ 0x00 ∷ 0x00 ∷ 0x00 ∷ 0x01 ∷ [])
    ++ (0x40 ∷ 0x10 ∷ 0x00 ∷ 0x00 ∷ []) ++ (0x11 ∷ 0x00 ∷ 0x00 ∷ 0x00 ∷ 0x00 ∷ 0x04 ∷ 0x00 ∷ 0x00 ∷ 0x00 ∷ 0x00 ∷ [])

-- K5: "no answer terms, P(x,y), P(y,z)"
abbrev pub question5 : List ℕ
question5 = 0x02 ∷ 0x80 ∷ 0x40 ∷ 0x00 ∷ 0x00 ∷ 0x00 ∷ 0x01 ∷ 0x80 ∷ 0x40 ∷ 0x00 ∷ 0x02 ∷ 0x00 ∷ 0x02 ∷ []

abbrev pub rules5 : List ℕ
rules5 = every_a ++ (0x18 ∷ 0x04 ∷ 0x00 ∷ 0x01 ∷ [])

-- the six members; w is the byte that has the new variable of the fourth, P(x,y), P(w,y)
abbrev union5_by : ℕ → List ℕ
union5_by w =
    0x00 ∷ 0x06 ∷ [] ++ itself ++ question5
    ++ (0x40 ∷ 0x01 ∷ 0x00 ∷ 0x00 ∷ [])
    ++ (0x02 ∷ 0x80 ∷ 0x40 ∷ 0x00 ∷ 0x00 ∷ 0x00 ∷ 0x01 ∷ 0x00 ∷ 0x04 ∷ 0x00 ∷ 0x02 ∷ 0x00 ∷ 0x00 ∷ [])
    ++ (0x80 ∷ 0x00 ∷ 0x00 ∷ 0x01 ∷ []) ++ (0x01 ∷ 0x80 ∷ 0x40 ∷ 0x00 ∷ 0x00 ∷ 0x00 ∷ 0x00 ∷ [])
    ++ (0x40 ∷ 0x11 ∷ 0x00 ∷ 0x01 ∷ [])
    ++ (0x02 ∷ 0x80 ∷ 0x40 ∷ 0x00 ∷ 0x00 ∷ 0x00 ∷ 0x01 ∷ 0x80 ∷ 0x40 ∷ 0x00 ∷ w ∷ 0x00 ∷ 0x01 ∷ [])
    ++ (0x80 ∷ 0x30 ∷ 0x00 ∷ 0x01 ∷ []) ++ (0x01 ∷ 0x80 ∷ 0x40 ∷ 0x00 ∷ 0x00 ∷ 0x00 ∷ 0x01 ∷ [])
    ++ (0x40 ∷ 0x40 ∷ 0x00 ∷ 0x00 ∷ []) ++ (0x01 ∷ 0x00 ∷ 0x04 ∷ 0x00 ∷ 0x00 ∷ 0x00 ∷ 0x00 ∷ [])

abbrev pub union5 : List ℕ
union5 = union5_by 0x06

-- as it is written: w is variable 2, the lowest that stands nowhere in P(x,y), A(y)
abbrev union5_written : List ℕ
union5_written = union5_by 0x04

-- K6: "answers x, y of P(x,y)"
abbrev pub question6 : List ℕ
question6 = 0x21 ∷ 0x00 ∷ 0x00 ∷ 0x00 ∷ 0x00 ∷ 0x00 ∷ 0x01 ∷ 0x80 ∷ 0x40 ∷ 0x00 ∷ 0x00 ∷ 0x00 ∷ 0x01 ∷ []

-- K7: "driven by(x,y), drives(y,x)"
abbrev pub question7 : List ℕ
question7 = 0x02 ∷ 0x80 ∷ 0x04 ∷ 0x00 ∷ 0x00 ∷ 0x00 ∷ 0x01 ∷ 0x80 ∷ 0x00 ∷ 0x00 ∷ 0x02 ∷ 0x00 ∷ 0x00 ∷ []

-- A(5)
abbrev fact_a5 : List ℕ
fact_a5 = 0x00 ∷ 0x01 ∷ 0x00 ∷ 0x05 ∷ 0x00 ∷ 0x00 ∷ []

-- member 0 alone
abbrev pub alone : List ℕ → List ℕ
alone question = 0x00 ∷ 0x01 ∷ [] ++ itself ++ question

-- ---- the table

unfoldable pub cards : List Card
cards =
    -- K1: "Output, whole: `accepted 2`, `7`, `9`", from a list of 16,384 bytes
    record {
      rules = rules1;
      question = question1;
      union = union1;
      facts = facts1;
      room = 16384;
      checked = 0;
      number = 0;
      count = 2;
      answers = 0 ∷ 7 ∷ 0 ∷ 9 ∷ [];
      printed = some (ascii "accepted 2\n7\n9\n");
      written = some (2, union1);
    }
    -- K2: "K1 with 3 bytes of list, 14; with 4, accepted"
    ∷ record {
      rules = rules1;
      question = question1;
      union = union1;
      facts = facts1;
      room = 3;
      checked = 0;
      number = 14;
      count = 0;
      answers = [];
      printed = none;
      written = none;
    }
    ∷ record {
      rules = rules1;
      question = question1;
      union = union1;
      facts = facts1;
      room = 4;
      checked = 0;
      number = 0;
      count = 2;
      answers = 0 ∷ 7 ∷ 0 ∷ 9 ∷ [];
      printed = none;
      written = none;
    }
    -- K3: "Members: itself, P(x,y), A(x). A(5) gives 5."
    ∷ record {
      rules = every_a;
      question = question3;
      union = union3;
      facts = fact_a5;
      room = 7;
      checked = 0;
      number = 0;
      count = 1;
      answers = 0 ∷ 5 ∷ [];
      printed = none;
      written = some (3, union3);
    }
    -- K4: "K3 with member 0 only, 11."
    ∷ record {
      rules = every_a;
      question = question3;
      union = alone question3;
      facts = fact_a5;
      room = 7;
      checked = 11;
      number = 11;
      count = 0;
      answers = [];
      printed = none;
      written = none;
    }
    -- K5: "A has a P, whoever is P-reached is A [..]. Six members: itself; P(x,y), A(y); P(x,x); P(x,y), P(w,y); P(x,y); A(x). A(5)
    -- gives count 1."
    ∷ record {
      rules = rules5;
      question = question5;
      union = union5;
      facts = fact_a5;
      room = 7;
      checked = 0;
      number = 0;
      count = 1;
      answers = [];
      printed = none;
      written = some (6, union5_written);
    }
    -- K6: "One member; A(5) gives none."
    ∷ record {
      rules = every_a;
      question = question6;
      union = alone question6;
      facts = fact_a5;
      room = 7;
      checked = 0;
      number = 0;
      count = 0;
      answers = [];
      printed = none;
      written = some (1, alone question6);
    }
    -- K7: "5"
    ∷ record {
      rules = [];
      question = question7;
      union = alone question7;
      facts = [];
      room = 7;
      checked = 5;
      number = 5;
      count = 0;
      answers = [];
      printed = none;
      written = none;
    }
    -- K8: "K1 without rules, member 0 alone: `accepted 1`, `9`."
    ∷ record {
      rules = [];
      question = question1;
      union = alone question1;
      facts = facts1;
      room = 16384;
      checked = 0;
      number = 0;
      count = 1;
      answers = 0 ∷ 9 ∷ [];
      printed = some (ascii "accepted 1\n9\n");
      written = none;
    }
    ∷ []

-- ---- the proof

-- number, count and list are those of the card
unfoldable pub comes_to : Card → Outcome → Bool
unfolding pairwise
comes_to c o =
    eqb o.number c.number && eqb o.count c.count
    && pairwise eqb o.list (c.answers ++ replicate (c.room - length c.answers) 0)

-- the lines are those of the card
unfoldable pub prints : Option (List ℕ) → List ℕ → Bool
unfolding pairwise
prints none text = true
prints (some lines) text = pairwise eqb text lines

-- number, count and length are these, and the lent sheet of `room` bytes has these bytes and then zeros
unfoldable pub gives_sheet : ℕ → ℕ → List ℕ → ℕ → WriteOutcome → Bool
unfolding pairwise
gives_sheet number count bytes room o =
    eqb o.number number && eqb o.count count && eqb o.size (length bytes)
    && pairwise eqb o.sheet (bytes ++ replicate (room - length bytes) 0)

-- the members are those of the card, with their bytes, in a sheet that has 3 bytes more
unfoldable pub writes : Option (ℕ × List ℕ) → List ℕ → List ℕ → Bool
unfolding gives_sheet write_outcome written_union pack_union union_sheet
writes none rules question = true
writes (some w) rules question =
    let room : ℕ = length w.1 + 3 in
    gives_sheet 0 w.0 w.1 room (write_outcome rules question room)

unfoldable pub holds : Card → Bool
unfolding comes_to prints writes text_for outcome number_of refusal_of partners01 rules_as_read question_as_read union_as_read facts_as_read
    answers_of
    list_bytes
    refuses1 refuses2 refuses3 refuses4 refuses5 refuses6 refuses7 refuses8 refuses9 refuses10 refuses11 refuses12 refuses13 refuses17
    refuses18 rules_as_written roles_of_rules roles_of_atoms
holds c =
    eqb (check_number c.rules c.question c.union) c.checked
    && comes_to c (outcome c.rules c.question c.union c.facts c.room)
    && prints c.printed (text_for c.rules c.question c.union c.facts)
    && writes c.written c.rules c.question

pub cards_hold : all holds cards ≡ true
unfolding all holds cards
cards_hold = refl
