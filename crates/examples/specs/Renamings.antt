-- 02's T-05, "Alike, and by which names", from bytes: number, found flag and places, by the search of theory's `Renaming`, which gives what
-- the pledge of comparing fixes (`found_computed`). A is concept 1; drives is role 0 and driven by its partner, role 1.
use Rattle.std.specs.Prelude.{◌≡◌, refl, ℕ, Bool, true, ◌&&◌, List, [], ◌∷◌, ◌++◌, eqb, replicate}
use Rattle.std.proofs.Math.Option.{or_else}
use Rattle.theory.specs.Lists.{pick, all, pairwise, is_some}
use Rattle.theory.specs.Renaming.{find_renaming}
use Rattle.theory.specs.Targets.{places, no_target}
use Rattle.theory.proofs.Laws.SmallestFound.{targets_found}
use Rattle.sheets.specs.Partners.{partners01}
use Rattle.sheets.specs.Reading.{question_as_read}
use Rattle.sheets.specs.Refusals.{refusal_of, number_of}
use Rattle.sheets.specs.Tests.{refuses3, refuses4, refuses5}
use Rattle.promises.specs.TheSheets.{the_question}
use Rattle.promises.specs.Renaming.{flagged, refusal_to_rename}
use Rattle.examples.specs.Cards.{question1, question7}

-- two question sheets, and what comparing them gives
pub record RenameCase : Type 0 where
  pub first : List ℕ
  pub second : List ℕ
  pub number : ℕ
  pub found : ℕ
  pub targets : List ℕ

-- no target at any place
abbrev nowhere : List ℕ
nowhere = replicate places no_target

-- x of drives(y,x), drives(z,x), where x, y, z are 0, 1, 3; and a of driven by(a,b), drives(c,a), where a, b, c are 4, 9, 2
abbrev two_drives : List ℕ
two_drives =
    (0x12 ∷ 0x00 ∷ 0x00 ∷ 0x00 ∷ []) ++ (0x80 ∷ 0x00 ∷ 0x00 ∷ 0x02 ∷ 0x00 ∷ 0x00 ∷ []) ++ (0x80 ∷ 0x00 ∷ 0x00 ∷ 0x06 ∷ 0x00 ∷ 0x00 ∷ [])

abbrev two_others : List ℕ
two_others =
    (0x12 ∷ 0x00 ∷ 0x00 ∷ 0x04 ∷ []) ++ (0x80 ∷ 0x04 ∷ 0x00 ∷ 0x08 ∷ 0x00 ∷ 0x09 ∷ []) ++ (0x80 ∷ 0x00 ∷ 0x00 ∷ 0x04 ∷ 0x00 ∷ 0x04 ∷ [])

-- x of A(x), and y of drives(y,x)
abbrev concept_asked : List ℕ
concept_asked = 0x11 ∷ 0x00 ∷ 0x00 ∷ 0x00 ∷ 0x00 ∷ 0x04 ∷ 0x00 ∷ 0x00 ∷ 0x00 ∷ 0x00 ∷ []

abbrev driver_asked : List ℕ
driver_asked = 0x11 ∷ 0x00 ∷ 0x00 ∷ 0x01 ∷ 0x80 ∷ 0x00 ∷ 0x00 ∷ 0x02 ∷ 0x00 ∷ 0x00 ∷ []

unfoldable pub renamings : List RenameCase
renamings =
    -- "Where several fit": y and z to b and c, or to c and b; 2 comes before 9
    record { first = two_drives; second = two_others; number = 0; found = 1; targets = 4 ∷ 2 ∷ 32 ∷ 9 ∷ [] ++ replicate 28 no_target }
    -- the other way round
    ∷ record {
      first = two_others;
      second = two_drives;
      number = 0;
      found = 1;
      targets = 32 ∷ 32 ∷ 1 ∷ 32 ∷ 0 ∷ 32 ∷ 32 ∷ 32 ∷ 32 ∷ 3 ∷ [] ++ replicate 22 no_target;
    }
    -- a question and itself
    ∷ record { first = question1; second = question1; number = 0; found = 1; targets = 0 ∷ 1 ∷ [] ++ replicate 30 no_target }
    -- another predicate, another answer term, more atoms: none
    ∷ record { first = question1; second = concept_asked; number = 0; found = 0; targets = nowhere }
    ∷ record { first = question1; second = driver_asked; number = 0; found = 0; targets = nowhere }
    ∷ record { first = question1; second = two_drives; number = 0; found = 0; targets = nowhere }
    -- 5 of the first comes before 3 of the second, and 3 of the second after the first is sound
    ∷ record { first = question7; second = []; number = 5; found = 0; targets = nowhere }
    ∷ record { first = question1; second = []; number = 3; found = 0; targets = nowhere }
    ∷ []

-- number, flag and places as computed
unfoldable pub holds : RenameCase → Bool
unfolding or_else refusal_of partners01 question_as_read refuses3 refuses4 refuses5 number_of find_renaming is_some targets_found pairwise
holds c =
    eqb (number_of (refusal_to_rename c.first c.second)) c.number
    && pick (eqb c.number 0)
    (eqb (flagged (is_some (find_renaming (the_question c.first) (the_question c.second)))) c.found
    && pairwise eqb (targets_found (find_renaming (the_question c.first) (the_question c.second))) c.targets)
    (eqb 0 c.found && pairwise eqb nowhere c.targets)

pub renamings_hold : all holds renamings ≡ true
unfolding all holds renamings
renamings_hold = refl
