-- 02, T-04, from bytes, by the same definitions and under the same proof as 01's cards: "each pump has a motor that is a drive". A pump is
-- concept 1, "has the motor" role 16, a drive concept 2; the helper of the pair is role 4,095, 0xfff.
use Rattle.std.specs.Prelude.{◌≡◌, refl, ℕ, true, List, [], ◌∷◌, ◌++◌}
use Rattle.std.proofs.Math.Option.{none, some}
use Rattle.theory.specs.Lists.{all}
use Rattle.promises.specs.Ascii.{ascii}
use Rattle.examples.specs.Cards.{Card, itself, holds}

-- kind 3: a pump has the motor to something; kind 4: which is a drive
abbrev pub kind3 : List ℕ
kind3 = 0x30 ∷ 0x00 ∷ 0x50 ∷ 0x10 ∷ []

abbrev pub kind4 : List ℕ
kind4 = 0x40 ∷ 0x00 ∷ 0x80 ∷ 0x00 ∷ []

abbrev pub pump : List ℕ
pump = kind3 ++ kind4

-- x: has the motor(x, y), drive(y)
abbrev pumps_asked : List ℕ
pumps_asked = 0x12 ∷ 0x00 ∷ 0x00 ∷ 0x00 ∷ 0x80 ∷ 0x40 ∷ 0x00 ∷ 0x00 ∷ 0x00 ∷ 0x01 ∷ 0x00 ∷ 0x08 ∷ 0x00 ∷ 0x02 ∷ 0x00 ∷ 0x00 ∷ []

-- itself; helper(x,y), drive(y) by rule 1; has the motor(x,y), helper(z,y) by rule 2; helper(x,y), helper(z,y) by rule 2; the two merged;
-- pump(x) by rule 0
abbrev pumps_union : List ℕ
pumps_union =
    (0x00 ∷ 0x06 ∷ [])
    ++ (0x00 ∷ 0x00 ∷ 0x00 ∷ 0x00 ∷ 0x12 ∷ 0x00 ∷ 0x00 ∷ 0x00 ∷ 0x80 ∷ 0x40 ∷ 0x00 ∷ 0x00 ∷ 0x00 ∷ 0x01 ∷ 0x00 ∷ 0x08 ∷ 0x00 ∷ 0x02 ∷ 0x00
    ∷ 0x00 ∷ [])
    ++ (0x40 ∷ 0x00 ∷ 0x00 ∷ 0x01 ∷ 0x12 ∷ 0x00 ∷ 0x00 ∷ 0x00 ∷ 0xbf ∷ 0xfc ∷ 0x00 ∷ 0x00 ∷ 0x00 ∷ 0x01 ∷ 0x00 ∷ 0x08 ∷ 0x00 ∷ 0x02 ∷ 0x00
    ∷ 0x00 ∷ [])
    ++ (0x40 ∷ 0x01 ∷ 0x00 ∷ 0x02 ∷ 0x12 ∷ 0x00 ∷ 0x00 ∷ 0x00 ∷ 0x80 ∷ 0x40 ∷ 0x00 ∷ 0x00 ∷ 0x00 ∷ 0x01 ∷ 0xbf ∷ 0xfc ∷ 0x00 ∷ 0x04 ∷ 0x00
    ∷ 0x01 ∷ [])
    ++ (0x40 ∷ 0x11 ∷ 0x00 ∷ 0x02 ∷ 0x12 ∷ 0x00 ∷ 0x00 ∷ 0x00 ∷ 0xbf ∷ 0xfc ∷ 0x00 ∷ 0x00 ∷ 0x00 ∷ 0x01 ∷ 0xbf ∷ 0xfc ∷ 0x00 ∷ 0x04 ∷ 0x00
    ∷ 0x01 ∷ [])
    ++ (0x80 ∷ 0x30 ∷ 0x00 ∷ 0x01 ∷ 0x11 ∷ 0x00 ∷ 0x00 ∷ 0x00 ∷ 0xbf ∷ 0xfc ∷ 0x00 ∷ 0x00 ∷ 0x00 ∷ 0x01 ∷ [])
    ++ (0x40 ∷ 0x40 ∷ 0x00 ∷ 0x00 ∷ 0x11 ∷ 0x00 ∷ 0x00 ∷ 0x00 ∷ 0x00 ∷ 0x04 ∷ 0x00 ∷ 0x00 ∷ 0x00 ∷ 0x00 ∷ [])

abbrev pump_five : List ℕ
pump_five = 0x00 ∷ 0x01 ∷ 0x00 ∷ 0x05 ∷ 0x00 ∷ 0x00 ∷ []

-- x: helper(x, y), with itself and pump(x) as its union; and with itself alone
abbrev pub helper_asked : List ℕ
helper_asked = 0x11 ∷ 0x00 ∷ 0x00 ∷ 0x00 ∷ 0xbf ∷ 0xfc ∷ 0x00 ∷ 0x00 ∷ 0x00 ∷ 0x01 ∷ []

abbrev helper_union : List ℕ
helper_union = 0x00 ∷ 0x02 ∷ [] ++ itself ++ helper_asked ++ (0x40 ∷ 0x00 ∷ 0x00 ∷ 0x00 ∷ 0x11 ∷ 0x00 ∷ 0x00 ∷ 0x00 ∷ 0x00 ∷ 0x04 ∷ 0x00
    ∷ 0x00 ∷ 0x00 ∷ 0x00 ∷ [])

abbrev helper_open : List ℕ
helper_open = 0x00 ∷ 0x01 ∷ [] ++ itself ++ helper_asked

unfoldable pub pairs : List Card
pairs =
    -- "the second reader giving each bearer one unnamed thing that has both role and filler": 5 has no motor entered, and is an answer
    record {
      rules = pump;
      question = pumps_asked;
      union = pumps_union;
      facts = pump_five;
      room = 16384;
      checked = 0;
      number = 0;
      count = 1;
      answers = 0 ∷ 5 ∷ [];
      printed = some (ascii "accepted 1\n5\n");
      written = some (6, pumps_union);
    }
    -- 18, "a helper number as a role in [..] a fact", for drawing alone; and before 14
    ∷ record {
      rules = pump;
      question = pumps_asked;
      union = pumps_union;
      facts = pump_five ++ (0x8f ∷ 0xff ∷ 0x00 ∷ 0x05 ∷ 0x00 ∷ 0x05 ∷ []);
      room = 0;
      checked = 0;
      number = 18;
      count = 0;
      answers = [];
      printed = some (ascii "refused 18\n");
      written = none;
    }
    -- "or the question", after 11
    ∷ record {
      rules = pump;
      question = helper_asked;
      union = helper_union;
      facts = pump_five;
      room = 16;
      checked = 18;
      number = 18;
      count = 0;
      answers = [];
      printed = none;
      written = none;
    }
    ∷ record {
      rules = pump;
      question = helper_asked;
      union = helper_open;
      facts = pump_five;
      room = 16;
      checked = 11;
      number = 11;
      count = 0;
      answers = [];
      printed = none;
      written = none;
    }
    -- a concept of that number is none, and with no pair there is no helper
    ∷ record {
      rules = pump;
      question = pumps_asked;
      union = pumps_union;
      facts = pump_five ++ (0x0f ∷ 0xff ∷ 0x00 ∷ 0x05 ∷ 0x00 ∷ 0x00 ∷ []);
      room = 2;
      checked = 0;
      number = 0;
      count = 1;
      answers = 0 ∷ 5 ∷ [];
      printed = none;
      written = none;
    }
    ∷ record {
      rules = [];
      question = helper_asked;
      union = helper_open;
      facts = 0x8f ∷ 0xff ∷ 0x00 ∷ 0x07 ∷ 0x00 ∷ 0x08 ∷ [];
      room = 2;
      checked = 0;
      number = 0;
      count = 1;
      answers = 0 ∷ 7 ∷ [];
      printed = none;
      written = none;
    }
    -- 17, "a kind 3 without its kind 4, a kind 4 by itself", and 2 before it
    ∷ record {
      rules = kind3;
      question = pumps_asked;
      union = pumps_union;
      facts = pump_five;
      room = 2;
      checked = 17;
      number = 17;
      count = 0;
      answers = [];
      printed = some (ascii "refused 17\n");
      written = none;
    }
    ∷ record {
      rules = kind4;
      question = pumps_asked;
      union = pumps_union;
      facts = pump_five;
      room = 2;
      checked = 17;
      number = 17;
      count = 0;
      answers = [];
      printed = none;
      written = none;
    }
    ∷ record {
      rules = kind3 ++ (0x50 ∷ 0x00 ∷ 0x80 ∷ 0x00 ∷ []);
      question = pumps_asked;
      union = pumps_union;
      facts = pump_five;
      room = 2;
      checked = 2;
      number = 2;
      count = 0;
      answers = [];
      printed = none;
      written = none;
    }
    ∷ []

pub pairs_hold : all holds pairs ≡ true
unfolding all holds pairs
pairs_hold = refl
