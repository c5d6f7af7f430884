-- Cases of 02's requests from bytes, by the same definitions and under the same proof as 01's cards.
use Rattle.std.specs.Prelude.{◌≡◌, refl, ℕ, true, List, [], ◌∷◌, ◌++◌}
use Rattle.std.proofs.Math.Option.{none, some}
use Rattle.theory.specs.Lists.{all}
use Rattle.promises.specs.Ascii.{ascii}
use Rattle.examples.specs.Cards.{Card, rules1, question1, itself, union1, facts1, rules5, question5, union5, every_a, question6, alone}
use Rattle.examples.specs.Cards.{holds}

-- ---- T-01, lost tags: 0xfdff is 65,023, 0xfe00 is 65,024, 0xffff is 65,535

-- K1's concept of 65,023, 65,024 and 65,535; 9 is driven by 65,535, and 65,025 by 3
abbrev facts_tags : List ℕ
facts_tags =
    (0x00 ∷ 0x01 ∷ 0xfd ∷ 0xff ∷ 0x00 ∷ 0x00 ∷ [])
    ++ (0x00 ∷ 0x01 ∷ 0xfe ∷ 0x00 ∷ 0x00 ∷ 0x00 ∷ [])
    ++ (0x00 ∷ 0x01 ∷ 0xff ∷ 0xff ∷ 0x00 ∷ 0x00 ∷ [])
    ++ (0x80 ∷ 0x01 ∷ 0x00 ∷ 0x09 ∷ 0xff ∷ 0xff ∷ [])
    ++ (0x80 ∷ 0x01 ∷ 0xfe ∷ 0x01 ∷ 0x00 ∷ 0x03 ∷ [])

-- pairs of P with a lost tag in the first place, in the second, in neither, in both
abbrev facts_pairs : List ℕ
facts_pairs =
    (0x80 ∷ 0x10 ∷ 0xff ∷ 0xff ∷ 0x00 ∷ 0x0a ∷ [])
    ++ (0x80 ∷ 0x10 ∷ 0x00 ∷ 0x0a ∷ 0xfe ∷ 0x00 ∷ [])
    ++ (0x80 ∷ 0x10 ∷ 0x00 ∷ 0x0a ∷ 0xfd ∷ 0xff ∷ [])
    ++ (0x80 ∷ 0x10 ∷ 0xfe ∷ 0x80 ∷ 0xfe ∷ 0x80 ∷ [])

-- x and the object 65,024 are the answer terms of K1's question, and of its second member
abbrev terms_lost : List ℕ
terms_lost = 0x21 ∷ 0x00 ∷ 0x00 ∷ 0x00 ∷ 0x01 ∷ 0xfe ∷ 0x00 ∷ []

abbrev question_lost : List ℕ
question_lost = terms_lost ++ (0x80 ∷ 0x00 ∷ 0x00 ∷ 0x02 ∷ 0x00 ∷ 0x00 ∷ [])

abbrev union_lost : List ℕ
union_lost =
    0x00 ∷ 0x02 ∷ [] ++ itself ++ question_lost
    ++ (0x40 ∷ 0x00 ∷ 0x00 ∷ 0x00 ∷ []) ++ terms_lost ++ (0x00 ∷ 0x04 ∷ 0x00 ∷ 0x00 ∷ 0x00 ∷ 0x00 ∷ [])

unfoldable pub lost_tags : List Card
lost_tags =
    -- "they may help a match but may never be in an answer"
    record {
      rules = rules1;
      question = question1;
      union = union1;
      facts = facts_tags;
      room = 16384;
      checked = 0;
      number = 0;
      count = 2;
      answers = 0 ∷ 9 ∷ 0xfd ∷ 0xff ∷ [];
      printed = some (ascii "accepted 2\n9\n65023\n");
      written = none;
    }
    -- "the room for the list is reckoned without it"
    ∷ record {
      rules = rules1;
      question = question1;
      union = union1;
      facts = facts_tags;
      room = 4;
      checked = 0;
      number = 0;
      count = 2;
      answers = 0 ∷ 9 ∷ 0xfd ∷ 0xff ∷ [];
      printed = none;
      written = none;
    }
    ∷ record {
      rules = rules1;
      question = question1;
      union = union1;
      facts = facts_tags;
      room = 3;
      checked = 0;
      number = 14;
      count = 0;
      answers = [];
      printed = none;
      written = none;
    }
    -- in whichever place of the tuple
    ∷ record {
      rules = every_a;
      question = question6;
      union = alone question6;
      facts = facts_pairs;
      room = 5;
      checked = 0;
      number = 0;
      count = 1;
      answers = 0 ∷ 10 ∷ 0xfd ∷ 0xff ∷ [];
      printed = none;
      written = none;
    }
    -- a question without answers, not refused even where there is no list
    ∷ record {
      rules = rules1;
      question = question_lost;
      union = union_lost;
      facts = facts1;
      room = 0;
      checked = 0;
      number = 0;
      count = 0;
      answers = [];
      printed = none;
      written = some (2, union_lost);
    }
    -- without answer terms nothing is left out: A(65,024)
    ∷ record {
      rules = rules5;
      question = question5;
      union = union5;
      facts = 0x00 ∷ 0x01 ∷ 0xfe ∷ 0x00 ∷ 0x00 ∷ 0x00 ∷ [];
      room = 7;
      checked = 0;
      number = 0;
      count = 1;
      answers = [];
      printed = none;
      written = none;
    }
    ∷ []

pub lost_tags_hold : all holds lost_tags ≡ true
unfolding all holds lost_tags
lost_tags_hold = refl
