-- What comparing two questions gives, with only bytes in it (02, T-05, "Alike, and by which names").
use Rattle.std.specs.Prelude.{◌≡◌, ◌↔◌, ℕ, Bool, List, [], ◌++◌, replicate}
use Rattle.std.proofs.Math.Option.{Option, or_else}
use Rattle.theory.specs.Lists.{pick}
use Rattle.theory.specs.Refusals.{number_of}
use Rattle.theory.specs.Targets.{places, no_target, HandedBack}
use Rattle.sheets.specs.Refusals.{Sheets, only_question}
use Rattle.promises.specs.TheSheets.{the_question, the_refusal, NotRefused, the_conditions}

-- a question sheet by itself
abbrev pub question_alone : List ℕ → Sheets
question_alone question = record { rules = []; question = question; union = []; facts = [] }

-- the sheet meets none of 3 to 5
abbrev pub SoundQuestion : List ℕ → Type 0
SoundQuestion question = NotRefused only_question (question_alone question)

-- the found flag as a number: 1 for yes
abbrev pub flagged : Bool → ℕ
flagged found = pick found 1 0

module _ (first second : List ℕ) where
  -- 3 to 5 of the first sheet, then 3 to 5 of the second, by the one list of refusals
  abbrev pub refusal_to_rename : Option ℕ
  refusal_to_rename = or_else (the_refusal only_question (question_alone first)) (the_refusal only_question (question_alone second))

  -- the conditions of both, in 01's words
  abbrev pub rename_conditions : List {1} (ℕ × Type 0)
  rename_conditions = the_conditions only_question (question_alone first) ++ the_conditions only_question (question_alone second)

  -- THE PLEDGE of `rename`: what number and flag it returns, and what its 32 places hold then.
  pub record Renamed (number found : ℕ) (targets : List ℕ) : Type 0 where
    -- the first refusal that applies, or 0
    pub number_is : number ≡ number_of refusal_to_rename
    -- 0 exactly where both sheets are sound
    pub zero : (number ≡ 0) ↔ (SoundQuestion first × SoundQuestion second)
    -- "the renaming itself, variable by variable", the smallest from the first question to the second, "or [..] that there is none"
    pub handed_back : number ≡ 0 → (b : Bool) × (found ≡ flagged b) × HandedBack (the_question first) (the_question second) b targets
    -- a refusal hands back no renaming
    pub refused : (number ≡ 0 → ⊥) → (found ≡ 0) × (targets ≡ replicate places no_target)
