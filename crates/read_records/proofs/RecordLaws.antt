-- Terms and atoms as words: what the code of terms.rt computes is what the definitions say.
use mathlib.Core.Path.{◌≡◌, sym, ◌∙◌}
use Prim.Native.Nat.{ℕ, ◌+◌, ◌*◌, ◌/◌, ◌%◌, ◌≤◌, ◌<◌}
use native.Mathlib.Omega.{arith}
use mathlib.Core.Bool.{Bool, true, false}
use mathlib.Core.List.{List}
use lib.Dec.{eqb, ltb}
use borrow.Author.Rules.{rules}
use borrow.Author.Tests.{ne_eqb, lt-ltb, le-ltb}
use Rattle.theory.specs.Lists.{pick}
use Rattle.theory.specs.Syntax.{concept, role}
use Rattle.words.specs.Records.{term_of, atom_kind, atom_zero, atom_name, atom_first, atom_second, atom_of}
use Rattle.words.specs.Limits.{sheet_width, object_bound, variable_bound, sheet_term_bound, word_object_bound}
use Rattle.words.specs.Words.{word_term, word_atom}
use Rattle.sheets.specs.Partners.{is_higher, lower, atom_as_read}
use Rattle.sheets.specs.Tests.{term_sound, answer_sound, atom_sound}

-- ---- records that are sound: k, n, t and z are the fields that the code took

pub sound_variable : (t k n : ℕ) → k ≡ t / object_bound → k ≡ 0 → n ≡ t % object_bound → ltb n variable_bound ≡ term_sound sheet_width t
unfolding term_sound
sound_variable t k n e z d = rw (← e, z, ← d)

pub sound_object : (t k : ℕ) → k ≡ t / object_bound → (k ≡ 0 → ⊥) → true ≡ term_sound sheet_width t
unfolding term_sound
sound_object t k e z = rw (← e, ne_eqb k 0 z)

pub sound_answer : (x : ℕ) (b : Bool) → x < sheet_term_bound → b ≡ term_sound sheet_width x → b ≡ answer_sound sheet_width x
unfolding answer_sound
sound_answer x b h e = e ∙ simp (lt-ltb x sheet_term_bound h)

pub wide_answer : (x : ℕ) → sheet_term_bound ≤ x → false ≡ answer_sound sheet_width x
unfolding answer_sound
wide_answer x h = simp (le-ltb x sheet_term_bound h)

-- the second place of an atom record, by the atom's kind
abbrev second_sound : ℕ → Bool
second_sound x = pick (eqb (atom_kind sheet_width x) 0) (eqb (atom_second sheet_width x) 0)
    (term_sound sheet_width (atom_second sheet_width x))

module _ (x k t : ℕ) (e : k ≡ atom_kind sheet_width x) (d : t ≡ atom_second sheet_width x) where
  pub second_empty : k ≡ 0 → eqb t 0 ≡ second_sound x
  second_empty z = rw (← e, z, ← d)

  pub second_term : (b : Bool) → (k ≡ 0 → ⊥) → b ≡ term_sound sheet_width t → b ≡ second_sound x
  second_term b z h = rw (← e, ne_eqb k 0 z, ← d) h

module _ (x z : ℕ) (e : z ≡ atom_zero sheet_width x) where
  pub set_bit : (z ≡ 0 → ⊥) → false ≡ atom_sound sheet_width x
  unfolding atom_sound
  set_bit f = rw (← e, ne_eqb z 0 f)

  module _ (f : z ≡ 0) (t : ℕ) (d : t ≡ atom_first sheet_width x) (b : Bool) (h : b ≡ term_sound sheet_width t) where
    pub sound_atom : (r : Bool) → b ≡ true → r ≡ second_sound x → r ≡ atom_sound sheet_width x
    unfolding atom_sound
    sound_atom r g s = rw (← e, f, ← d, ← h, g) s

    pub unsound_term : b ≡ false → false ≡ atom_sound sheet_width x
    unfolding atom_sound
    unsound_term g = rw (← e, f, ← d, ← h, g)

-- ---- words of records

pub widened : (t k n : ℕ) → k ≡ t / object_bound → n ≡ t % object_bound → word_term (k * word_object_bound + n) ≡ term_of sheet_width t
unfolding term_of
widened t k n e d =
    let high : (k * word_object_bound + n) / word_object_bound ≡ t / object_bound = omega arith in
    let low : (k * word_object_bound + n) % word_object_bound ≡ t % object_bound = omega arith in
    simp (high, low)

module _ (p : List ℕ) where
  pub exchanged : (n low r t u : ℕ) (b : Bool) → low ≡ lower p n → b ≡ is_higher p n → b ≡ true
      → word_atom r ≡ role low (word_term u) (word_term t) → word_atom r ≡ atom_as_read p (role n (word_term t) (word_term u))
  unfolding atom_as_read
  exchanged n low r t u b l h e g = g ∙ simp (l, sym h ∙ e)

  pub kept : (n low r t u : ℕ) (b : Bool) → low ≡ lower p n → b ≡ is_higher p n → b ≡ false
      → word_atom r ≡ role low (word_term t) (word_term u) → word_atom r ≡ atom_as_read p (role n (word_term t) (word_term u))
  unfolding atom_as_read
  kept n low r t u b l h e g = g ∙ simp (l, sym h ∙ e)

  module _ (x r k n f t : ℕ) (e : k ≡ atom_kind sheet_width x) (d : n ≡ atom_name sheet_width x) (a : f ≡ atom_first sheet_width x)
      (b : word_term t ≡ term_of sheet_width f) where
    pub concept_read : k ≡ 0 → word_atom r ≡ concept n (word_term t) → word_atom r ≡ atom_as_read p (atom_of sheet_width x)
    unfolding atom_as_read atom_of
    concept_read z g = g ∙ rw (← e, z, ← d, ← a, b)

    pub role_read : (s u : ℕ) → (k ≡ 0 → ⊥) → s ≡ atom_second sheet_width x → word_term u ≡ term_of sheet_width s
        → word_atom r ≡ atom_as_read p (role n (word_term t) (word_term u)) → word_atom r ≡ atom_as_read p (atom_of sheet_width x)
    unfolding atom_of
    role_read s u z c h g = g ∙ rw (← e, ne_eqb k 0 z, ← d, ← a, ← c, b, h)

pub ruleset laws = (
  rules,
  sound_variable,
  sound_object,
  sound_answer,
  wide_answer,
  second_empty,
  second_term,
  set_bit,
  sound_atom,
  unsound_term,
  widened,
  exchanged,
  kept,
  concept_read,
  role_read,
)
